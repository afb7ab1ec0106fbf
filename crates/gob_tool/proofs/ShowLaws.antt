-- Texts that are lines of items are the lines of the items.
use Rattle.std.proofs.Common.{◌≡◌, ℕ, List, [], ◌∷◌, ◌++◌, Option, Result, ◌∙◌, ap, sym, subst, refl}
use Rattle.std.proofs.Common.{append-nil, append_assoc, arith, min, ◌≤◌}
use Rattle.std.specs.Io.KnownBytes.{Appends}
use Rattle.gob_types.specs.Base.{base_table}
use Rattle.gob_types.specs.Table.{Table}
use Rattle.gob_types.proofs.PublicLaws.{Keeps}
use Rattle.gob_types.specs.declared.id.TypeId.{TypeId}
use Rattle.gob_value.specs.Whole.{IsWhole}
use Rattle.gob_value.specs.declared.value.Value.{Value}
use Rattle.gob_read.specs.Building.{Building}
use Rattle.gob_read.specs.Calls.Builders.{tree_building}
use Rattle.gob_stream.specs.Bounds.{Bounds}
use Rattle.gob_stream.specs.Calls.ReaderOf.{session_of, waits_in}
use Rattle.gob_stream.specs.Calls.Session.{IsBetweenItems, limits_of, types_of}
use Rattle.gob_stream.specs.Item.{StreamItem, puts, ItemMeans, item_view, mean_more, mean_none}
use Rattle.gob_stream.specs.Machine.SessionState.{SessionState}
use Rattle.gob_stream.specs.Outcome.{BeginsWithStream, strict}
use Rattle.gob_stream.specs.Stepping.{HasBodyNextBy}
use Rattle.gob_stream.specs.StrictStepping.{strict_stepping}
use Rattle.gob_stream.specs.declared.item.Item as declared
use Rattle.gob_stream.specs.declared.reader_of.ReaderOf.{ReaderOf}
use Rattle.gob_stream.proofs.PublicLaws.{one_table, views_meant, whole_item}
use Rattle.gob_tool.specs.Line.{line, lines}
use Rattle.gob_tool.specs.Machine.Lines.{IsLine, is_line_of_value}
use Rattle.gob_tool.specs.Answering.{AppendsPrefix}
use Rattle.gob_tool.specs.Showing.{OfLines, ShowAnswers}
use Rattle.gob_tool.specs.Texts.{HaveTexts, no_texts, texts_then, from_item, from_value, OfTexts, TextsAnswersIn}
use Rattle.gob_tool.specs.Texts.{IsLineAhead, IsNextWhole, IsWholeText, of_unfilled}
use Rattle.gob_tool.specs.declared.fault.ToolFault.{ToolFault}
use Rattle.gob_tool.proofs.LinesStay.{first_items, lines_stay}
use Rattle.gob_tool.proofs.TextLaws.{runs_begun, value_text, waits_next}

lines_append : (T : Table) (items others : List StreamItem) → lines T (items ++ others) ≡ lines T items
    ++ lines T others
lines_append T [] others = refl
lines_append T (i ∷ items) others = ap (λ (l : List ℕ). line T i ++ l) (lines_append T items others)
    ∙ sym (append_assoc (line T i) (lines T items) (lines T others))

pub meant : {given : declared.Item Value} {i : StreamItem} → ItemMeans tree_building.means given i → item_view given ≡ i
meant {given = given} {i = i} m =
    let one : item_view given ∷ [] ≡ i ∷ [] = views_meant (mean_more m mean_none) in
    cc

is_line : {T : Table} {i : StreamItem} {text : List ℕ} → IsLine T i text → text ≡ line T i
is_line {T = T} (from_item m l) = l ∙ ap (λ i. line T i) (meant m)
is_line (from_value l) = value_text (λ T i text. text ≡ line T i) l

-- the types behind items are the same, wherever a stream of them stands
pub same_behind : {L : Bounds} {bytes : List ℕ} {items : List StreamItem}
    (c b : BeginsWithStream base_table L bytes items) → c.table ≡ b.table
same_behind {L = L} {bytes = bytes} {items = items} c b =
    one_table L bytes items c.table b.table
    (record { prefix = c.prefix; rest = c.rest; stream = c.stream; whole = c.whole })
    (record { prefix = b.prefix; rest = b.rest; stream = b.stream; whole = b.whole })

-- the first of some items begin the bytes too, and their types are kept
pub begins_first : {L : Bounds} {bytes : List ℕ} (items others : List StreamItem)
    (b : BeginsWithStream base_table L bytes (items ++ others))
    → (c : BeginsWithStream base_table L bytes items) × Keeps c.table b.table
begins_first items others b =
    let t = first_items items others b.stream in (
      record {
        prefix = t.prefix;
        rest = t.rest ++ b.rest;
        table = t.table;
        stream = t.stream;
        whole = b.whole ∙ ap (λ l. l ++ b.rest) t.whole ∙ append_assoc t.prefix t.rest b.rest;
      },
      t.keeps,
    )

-- by the types behind all of them
all_lines : {L : Bounds} {bytes : List ℕ} {items : List StreamItem} {text : List ℕ}
    → HaveTexts strict IsLine L bytes items text → (b : BeginsWithStream base_table L bytes items)
    → text ≡ lines b.table items
all_lines no_texts b = refl
all_lines {L = L} {bytes = bytes} (texts_then {items = items} {text = text} i more h c m) b =
    let t = begins_first items (i ∷ []) b in
    ap (λ l. l ++ more) (all_lines h t.0 ∙ sym (lines_stay t.0.stream t.1))
    ∙ ap (λ l. lines b.table items ++ l)
    (is_line m ∙ ap (λ T. line T i) (same_behind c b) ∙ sym (append-nil (line b.table i)))
    ∙ sym (lines_append b.table items (i ∷ []))

of_lines : {L : Bounds} {bytes : List ℕ} {P : List ℕ → Type 0} (items : List StreamItem)
    (b : BeginsWithStream base_table L bytes items) → OfTexts strict IsLine L bytes P items → OfLines P b.table items
of_lines {P = P} items b o = subst P (all_lines o.texts b) o.holds

pub texts_are_lines : (L : Bounds) (bytes : List ℕ) (now old new : Option (List ℕ))
    (r : Result (Unit {0}) ToolFault) → TextsAnswersIn strict IsLine L bytes now old new r
    → ShowAnswers L bytes now old new r
texts_are_lines L bytes now old new r h =
    runs_begun strict L bytes now (λ T items. OfTexts strict IsLine L bytes (Appends old new) items)
    (OfLines (Appends old new)) (λ T items. OfTexts strict IsLine L bytes (AppendsPrefix old new) items)
    (OfLines (AppendsPrefix old new)) r h (λ T items b o. of_lines items b o) (λ T items b o. of_lines items b o)

-- ---- the line of an item that waits as a whole
-- an item of a value that is no deeper is that item where deeper ones are allowed too
whole_deeper : {T : Table} {id : TypeId} {body : List ℕ} {d e : ℕ} → d ≤ e → IsWhole T id d body → IsWhole T id e body
whole_deeper up w = record { value = w.value; spelled = w.spelled; within = omega (arith, w.within, up) }

pub next_whole : {X O : Type 0} {most : ℕ} {building : Building X O most}
    {r : ReaderOf (SessionState X O) (declared.Item O)} {id : TypeId} {body : List ℕ} {used d : ℕ}
    → d ≤ min (limits_of (session_of r)).depth most
    → IsBetweenItems (session_of r) → HasBodyNextBy (strict_stepping building) (session_of r) id body used (waits_in r)
    → (w : IsWhole (types_of (session_of r)) id d body)
    → IsNextWhole (strict_stepping building) r (puts id w.value) used
unfolding whole_deeper
next_whole {most = most} {building = building} up between next w =
    waits_next (strict_stepping building) between next.within (whole_item most refl next (whole_deeper up w))

pub line_ahead : {X O : Type 0} {most : ℕ} {building : Building X O most}
    {r : ReaderOf (SessionState X O) (declared.Item O)} {used d : ℕ} {text : List ℕ}
    → d ≤ min (limits_of (session_of r)).depth most → IsLineAhead (strict_stepping building) d r used text
    → IsWholeText (strict_stepping building) is_line_of_value r used text
line_ahead up l = record {
  told = puts l.id l.whole.value;
  item = next_whole up l.between l.next l.whole;
  is = of_unfilled l.text_is;
}
