-- The lines of a stream say its items, one by one.
use Rattle.std.proofs.Common.{◌≡◌, ℕ, ◌+◌, ◌<◌, ◌^◌, List, [], ◌∷◌, ◌++◌, length, Option, Some, None, refl, sym, ap}
use Rattle.std.proofs.Common.{◌∙◌, append_assoc, append-nil, arith, length-append, subst, Bool, cond}
use Rattle.std.specs.Cmp.{nat_eq_equiv}
use Rattle.std.proofs.lemmas.Int.{ints}
use Rattle.json.specs.Lex.{tokens}
use Rattle.serde_json.specs.Written.{compact_text}
use Rattle.gob_num.proofs.PublicLaws.{signed_fits}
use Rattle.gob_types.specs.Base.{base_table}
use Rattle.gob_types.specs.Definable.{IsDefinable}
use Rattle.gob_types.specs.declared.id.TypeId.{TypeId}
use Rattle.gob_types.specs.declared.kind.Shape.{Shape}
use Rattle.gob_types.specs.Ready.{IsReady}
use Rattle.gob_types.specs.Table.{Table, shape_of}
use Rattle.gob_types.proofs.PublicLaws.{Keeps, shape_of-append_new, some_injective}
use Rattle.gob_value.specs.Described.{described}
use Rattle.gob_value.specs.Tree.{Tree}
use Rattle.gob_stream.specs.Body.{Body, definition, value}
use Rattle.gob_stream.specs.Bounds.{Bounds}
use Rattle.gob_stream.specs.Item.{StreamItem, defines, puts}
use Rattle.gob_stream.specs.Stream.{AreItems, IsItem, and_then, counted, no_more}
use Rattle.gob_stream.proofs.Stream.DefinableLaws.{definable}
use Rattle.gob_json.specs.Json.{put_json}
use Rattle.gob_json.specs.DefinitionJson.{definition_json}
use Rattle.gob_lines.specs.Laws.{HaveFewFields}
use Rattle.gob_lines.specs.Definition.{IsDefinitionJson}
use Rattle.gob_lines.specs.Numbers.{ReadsSome, same}
use Rattle.gob_lines.specs.Reads.{Reads}
use Rattle.gob_lines.proofs.ShownLaws.{shape_shown, value_shown}
use Rattle.gob_tool.specs.Line.{line}
use Rattle.gob_tool.proofs.LinesStay.{HasTypesOf, body_types, fits_there, line_stays}
use Rattle.gob_tool.proofs.LinesStay.{stream_keeps}
use Rattle.gob_write.specs.Exact.{SaysExactItem, exact_lines, says_shape, says_value}
use Rattle.gob_write.specs.Grammar.{SayItems, say_item_more}
use Rattle.gob_written_back.specs.Shown.{AreMadeOf, IsMadeOf, made_description, none_made, one_made, same_value, shown}

pub few_before : {T U : Table} → Keeps T U → HaveFewFields U → HaveFewFields T
few_before keeps few = λ t s there. few t s (keeps.shape t s there)

-- the line of a value, by a table that goes on
value_said : {T U : Table} {t : TypeId} {v : Tree} → HaveFewFields T → Keeps T U → IsReady T t → t.0 < 2 ^ 64
    → HasTypesOf T (puts t v) → SaysExactItem T (line U (puts t v)) (puts t v)
value_said {T = T} {t = t} {v = v} few keeps ready small (fits_there p) =
    says_value ready (record {
      json = put_json T t v;
      is = same;
      reads = subst (λ (l : List ℕ). Reads (put_json T t v) (tokens l) []) (sym (line_stays keeps (fits_there p)))
          (value_shown few small p);
    })

-- the line of a definition, by a table that has it
shape_said : {T : Table} {id : TypeId} {s : Shape} (U : Table) → IsDefinable s → id.0 < 2 ^ 64
    → shape_of U id ≡ Some s
    → SaysExactItem T (compact_text (definition_json id (shape_of U id)) ++ 10 ∷ []) (defines id (described id s))
shape_said {id = id} {s = s} U d small there =
    says_shape s d (subst (λ (o : Option Shape). ReadsSome (IsDefinitionJson id s)
    (tokens (compact_text (definition_json id o) ++ 10 ∷ [])) []) (sym there) (shape_shown id s d small))

new_shape : (T : Table) (id : TypeId) (s : Shape) → shape_of T id ≡ None → shape_of (T ++ (id, s) ∷ []) id ≡ Some s
new_shape T id s none =
    shape_of-append_new T ((id, s) ∷ []) id none ∙ ap (λ (b : Bool). cond b (Some s) None) (nat_eq_equiv.refl id.0)

body_said : {L : Bounds} {T U V : Table} {i j : StreamItem} {d : List ℕ} → HaveFewFields V → Keeps U V
    → IsMadeOf V i j → Body base_table L T j d U → SaysExactItem T (line V i) j
body_said {T = T} {V = V} few keeps (made_description {id = id} {s = s} there)
    (definition {s = r} may deep describes number signed p) =
    let own = may.own.1 in
    let one : r ≡ s = some_injective (sym (keeps.shape id r (new_shape T id r may.new)) ∙ there) in
    shape_said V (subst IsDefinable one (definable (record { bytes = _; spelled = p }) describes)) (omega (arith, own))
    there
body_said {L = L} few keeps same_value (value may deep number top) =
    let fits = signed_fits number in
    value_said (few_before keeps few) keeps may.ready (omega (arith, ints))
    (body_types {base = base_table} {L = L} (value may deep number top))

item_said : {L : Bounds} {T U V : Table} {offset : ℕ} {i j : StreamItem} {b : List ℕ} → HaveFewFields V → Keeps U V
    → IsMadeOf V i j → IsItem base_table L T offset j b U → SaysExactItem T (line V i) j
item_said few keeps made (counted count item stream body) = body_said few keeps made body

-- the lines that stand behind others
pub all_said : {L : Bounds} {V T : Table} {offset : ℕ} {items made : List StreamItem} {c : List ℕ}
    (lines : List (List ℕ)) (done : List StreamItem) (b : List ℕ) → HaveFewFields V → AreMadeOf V items made
    → AreItems base_table L T offset made c V → offset ≡ length b → SayItems (exact_lines L) lines done b T
    → SayItems (exact_lines L) (lines ++ shown V items) (done ++ made) (b ++ c) V
all_said {L = L} {V = V} lines done b few none_made no_more at said =
    subst (λ (l : List (List ℕ)). SayItems (exact_lines L) l (done ++ []) (b ++ []) V) (sym (append-nil lines))
    (subst (λ (d : List StreamItem). SayItems (exact_lines L) lines d (b ++ []) V) (sym (append-nil done))
    (subst (λ (e : List ℕ). SayItems (exact_lines L) lines done e V) (sym (append-nil b)) said))
all_said {L = L} {V = V} {T = T} lines done b few (one_made {i = i} {j = j} {items = items} {made = made} m ms)
    (and_then {U = U} {b = x} {c = y} item next rest) at said =
    let says = item_said few (stream_keeps rest) m item in
    let here = subst (λ (o : ℕ). IsItem base_table L T o j x U) at item in
    let one = say_item_more (line V i) said says here in
    let behind = next ∙ ap (λ (o : ℕ). o + length x) at ∙ sym (length-append b x) in
    let all = all_said (lines ++ line V i ∷ []) (done ++ j ∷ []) (b ++ x) few ms rest behind one in
    let texts = lines ++ line V i ∷ shown V items in
    subst (λ (e : List ℕ). SayItems (exact_lines L) texts (done ++ j ∷ made) e V) (append_assoc b x y)
    (subst (λ (d : List StreamItem). SayItems (exact_lines L) texts d ((b ++ x) ++ y) V)
    (append_assoc done (j ∷ []) made)
    (subst (λ (l : List (List ℕ)). SayItems (exact_lines L) l ((done ++ j ∷ []) ++ made) ((b ++ x) ++ y) V)
    (append_assoc lines (line V i ∷ []) (shown V items)) all))
