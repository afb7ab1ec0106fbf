-- The tidy forms of the items of a stream are a stream.
use Rattle.std.proofs.Common.{◌≡◌, ◌∙◌, ℕ, ◌+◌, ◌≤◌, List, [], ◌∷◌, ◌++◌, length, arith, refl, sym, ap, subst}
use Rattle.std.proofs.Common.{append_assoc, append-nil, length-append, Bool, true, false, Option, Result}
use Rattle.std.specs.Io.KnownBytes.{Appends}
use Rattle.gob_types.specs.Base.{base_table}
use Rattle.gob_types.specs.Table.{Table}
use Rattle.gob_stream.specs.Bounds.{Bounds, greatest_depth}
use Rattle.gob_filled.specs.Outcome.{BeginsFilled}
use Rattle.gob_filled.specs.Stream.{FilledItem, IsFilledItem, AreFilledItems, no_more, and_then}
use Rattle.gob_go.proofs.ItemsLaws.{last_of, one_more, one_reading}
use Rattle.gob_go_writer.specs.Hoisting.{hoisted}
use Rattle.gob_tool.specs.Showing.{AppendsPrefix}
use Rattle.gob_tool.specs.declared.fault.ToolFault.{ToolFault}
use Rattle.gob_tool.specs.RewritingGo.{AreTidied, none_tidied, then_tidied, all_hoisted, IsRewritten, IsStreamOf}
use Rattle.gob_tool.specs.RewritingGo.{OfTidyStream, RewriteGoAnswers}
use Rattle.gob_tool.specs.TextsGo.{TextsAnswers}
use Rattle.gob_tool.specs.Texts.{HaveTexts, no_texts, texts_then, OfTexts}
use Rattle.gob_tool.proofs.TextLaws.{runs_as}
use Rattle.gob_filled.specs.Outcome.{profile}

-- ---- the next item
record NextItem (L : Bounds) (T : Table) (i : FilledItem) (prefix all : List ℕ) (U : Table) : Type 0 where
  bytes : List ℕ
  item : IsFilledItem base_table L T (length prefix) i bytes U
  size : length all ≡ length prefix + length bytes

next_item : {L : Bounds} {bytes : List ℕ} {items : List FilledItem} {i : FilledItem}
    (g : BeginsFilled base_table L bytes items) (b : BeginsFilled base_table L bytes (items ++ i ∷ []))
    → NextItem L g.table i g.prefix b.prefix b.table
next_item {L = L} {items = items} {i = i} g b =
    let l = last_of items b.stream in
    let one = one_reading (l.bytes ++ b.rest) g.rest l.items_are g.stream
    (sym (append_assoc l.before l.bytes b.rest) ∙ ap (λ (z : List ℕ). z ++ b.rest) (sym l.whole) ∙ sym b.whole
    ∙ g.whole) in
    let same = ap length one.bytes in
    record {
      bytes = l.bytes;
      item = subst (λ (T : Table). IsFilledItem base_table L T (length g.prefix) i l.bytes b.table) one.table
          (subst (λ (n : ℕ). IsFilledItem base_table L l.table n i l.bytes b.table) (omega arith) l.item);
      size = omega (arith, ap length l.whole, length-append l.before l.bytes);
    }

-- ---- items one behind another
items_then : {M : Bounds} {T U V : Table} {offset : ℕ} {is js : List FilledItem} {b c : List ℕ}
    → AreFilledItems base_table M T offset is b U → AreFilledItems base_table M U (offset + length b) js c V
    → AreFilledItems base_table M T offset (is ++ js) (b ++ c) V
items_then {M = M} {V = V} {js = js} {c = c} (no_more {T = T} {offset = offset}) q =
    subst (λ n. AreFilledItems base_table M T n js c V) (omega arith) q
items_then {M = M} {T = T} {U = W} {V = V} {offset = offset} {js = js} {c = e}
    (and_then {U = U} {next = next} {i = i} {items = is} {b = b} {c = c} p n ps) q =
    let rest : AreFilledItems base_table M U next (is ++ js) (c ++ e) V =
    items_then ps (subst (λ o. AreFilledItems base_table M W o js e V) (omega (arith, length-append b c)) q) in
    subst (λ l. AreFilledItems base_table M T offset (i ∷ (is ++ js)) l V) (sym (append_assoc b c e))
    (and_then p n rest)

hoisted_more : (items : List FilledItem) (i : FilledItem) → all_hoisted (items ++ i ∷ []) ≡ all_hoisted items
    ++ hoisted i
hoisted_more [] i = append-nil (hoisted i)
hoisted_more (j ∷ items) i = ap (λ (l : List FilledItem). hoisted j ++ l) (hoisted_more items i)
    ∙ sym (append_assoc (hoisted j) (all_hoisted items) (hoisted i))

-- ---- the stream of the texts
record TidyStream (hoist : Bool) (L : Bounds) (bytes : List ℕ) (items : List FilledItem) (text : List ℕ) : Type 0 where
  begins : BeginsFilled base_table L bytes items
  forms : List FilledItem
  tidied : AreTidied L bytes items forms
  stream : IsStreamOf hoist L forms text begins.table
  shorter : hoist ≡ false → length text ≤ length begins.prefix

first_stream : (hoist : Bool) (L : Bounds) (bytes : List ℕ) → TidyStream hoist L bytes [] []
first_stream hoist L bytes = record {
  begins = record { prefix = []; rest = bytes; table = base_table; stream = no_more; whole = refl };
  forms = [];
  tidied = none_tidied;
  stream = nothing hoist;
  shorter = λ e. omega arith;
}
  where
    nothing : (hoist : Bool) → IsStreamOf hoist L [] [] base_table
    nothing false = no_more
    nothing true = λ M offset d t l s. no_more

stream_on : {L : Bounds} {bytes text more : List ℕ} {items : List FilledItem} {i : FilledItem} (hoist : Bool)
    → L.depth ≤ greatest_depth → TidyStream hoist L bytes items text
    → (b : BeginsFilled base_table L bytes (items ++ i ∷ [])) → IsRewritten hoist b.table i more
    → TidyStream hoist L bytes (items ++ i ∷ []) (text ++ more)
stream_on {L = L} {text = text} {more = more} {i = i} false shallow s b w =
    let n = next_item s.begins b in
    let p = w.stands L s.begins.table (length s.begins.prefix) (length text) n.bytes shallow n.item
    (s.shorter refl) in
    record {
      begins = b;
      forms = s.forms ++ w.form ∷ [];
      tidied = then_tidied i w.form s.tidied b w.tidies;
      stream = one_more s.stream (omega arith) p.0;
      shorter = λ e. omega (arith, length-append text more, p.1, n.size, s.shorter refl);
    }
stream_on {L = L} {text = text} {more = more} {i = i} true shallow s b w =
    let n = next_item s.begins b in
    let size = length-append text more in
    record {
      begins = b;
      forms = s.forms ++ w.form ∷ [];
      tidied = then_tidied i w.form s.tidied b w.tidies;
      stream = λ M offset d t l e.
          subst (λ (is : List FilledItem). AreFilledItems base_table M base_table offset is (text ++ more) b.table)
          (sym (hoisted_more s.forms w.form))
          (items_then (s.stream M offset d t (omega arith) (omega arith))
          (w.stands L s.begins.table (length s.begins.prefix) n.bytes shallow n.item M (offset + length text) d t
          (omega arith) (omega arith)));
      shorter = λ e. absurd (cc e);
    }

texts_stream : (hoist : Bool) {L : Bounds} {bytes text : List ℕ} {items : List FilledItem} → L.depth ≤ greatest_depth
    → HaveTexts profile (IsRewritten hoist) L bytes items text → TidyStream hoist L bytes items text
texts_stream hoist {L = L} {bytes = bytes} shallow no_texts = first_stream hoist L bytes
texts_stream hoist shallow (texts_then i more h b w) =
    stream_on hoist shallow (texts_stream hoist shallow h) b w

of_stream : {L : Bounds} {bytes : List ℕ} {P : List ℕ → Type 0} (hoist : Bool) → L.depth ≤ greatest_depth
    → (T : Table) (items : List FilledItem) → OfTexts profile (IsRewritten hoist) L bytes P items
    → OfTidyStream hoist L bytes P items
of_stream hoist shallow T items o =
    let s = texts_stream hoist shallow o.texts in
    record {
      begins = s.begins;
      forms = s.forms;
      tidied = s.tidied;
      text = o.text;
      stream = s.stream;
      holds = o.holds;
    }

pub rewritten_so : (hoist : Bool) (L : Bounds) (bytes : List ℕ) (now old new : Option (List ℕ))
    (r : Result (Unit {0}) ToolFault) → L.depth ≤ greatest_depth
    → TextsAnswers (IsRewritten hoist) L bytes now old new r → RewriteGoAnswers hoist L bytes now old new r
rewritten_so hoist L bytes now old new r shallow h =
    runs_as profile L bytes now (λ T items. OfTexts profile (IsRewritten hoist) L bytes (Appends old new) items)
    (λ T items. OfTidyStream hoist L bytes (Appends old new) items)
    (λ T items. OfTexts profile (IsRewritten hoist) L bytes (AppendsPrefix old new) items)
    (λ T items. OfTidyStream hoist L bytes (AppendsPrefix old new) items) r h (of_stream hoist shallow)
    (of_stream hoist shallow)
