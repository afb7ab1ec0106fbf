-- The line of a value that waits as a whole, whatever its interfaces hold.
use Rattle.std.proofs.Common.{◌≡◌, ◌∙◌, ℕ, List, ◌++◌, [], arith, length, take, refl, sym, ap, subst, min}
use Rattle.std.proofs.Common.{length-append}
use Rattle.std.proofs.lemmas.List.{length-take-le}
use Rattle.gob_num.specs.Unsigned.{AreBytes}
use Rattle.gob_num.proofs.PublicLaws.{bytes-append, signed_unsigned, unsigned_bytes, unsigned_length}
use Rattle.gob_types.specs.Base.{base_table}
use Rattle.gob_types.specs.Table.{Table}
use Rattle.gob_types.specs.declared.id.TypeId.{TypeId}
use Rattle.gob_stream.specs.Bounds.{Bounds, greatest_depth, within_trees}
use Rattle.gob_stream.specs.Stepping.{in_grammar}
use Rattle.gob_filled.specs.Filled.{SpellsFilled}
use Rattle.gob_filled.specs.Filled as spelled
use Rattle.gob_filled.specs.Stream.{FilledItem, IsFilledItem, putting, of_value, last_counted}
use Rattle.gob_go.specs.Calls.Reader.{GoReader, session_of, waits_in}
use Rattle.gob_go.specs.Calls.Session.{HasBodyNext, IsBetweenItems, limits_of, taken_of, types_of}
use Rattle.gob_go.specs.GoStepping.{go_stepping}
use Rattle.gob_go.specs.Whole.{IsFilledWhole}
use Rattle.gob_json_writer.proofs.OnceLaws.{same_nils, shown_once}
use Rattle.gob_filled_walk.specs.FilledLine.{FilledLine, DefinesNothing, defines_nothing, DefineNothing, none_defines}
use Rattle.gob_filled_walk.specs.FilledLine.{and_defines}
use Rattle.gob_tool.specs.LineGo.{inner_lines, filling_lines, value_line}
use Rattle.gob_tool.specs.Machine.LinesGo.{ShowsInLines}
use Rattle.gob_tool.specs.Texts.{IsValueText, of_unfilled, of_held}
use Rattle.gob_tool.specs.TextsGo.{IsWholeText}
use Rattle.gob_tool.specs.TextsGo as texts

mutual
  no_inner_lines : (T : Table) {w : spelled.Filled} → DefinesNothing w → inner_lines T w ≡ []
  no_inner_lines T (defines_nothing d) = no_filling_lines T d

  no_filling_lines : (T : Table) {fs : spelled.Fillings} → DefineNothing fs → filling_lines T fs ≡ []
  no_filling_lines T none_defines = refl
  no_filling_lines T (and_defines {fs = fs} d e) =
      ap (λ l. l ++ filling_lines T fs) (no_inner_lines T d) ∙ no_filling_lines T e

shows_line : {T : Table} {t : TypeId} {limit : ℕ} {bytes text : List ℕ} (f : FilledLine T t limit bytes text)
    → ShowsInLines T (putting t f.value) text
shows_line {T = T} {t = t} f = λ v N shows.
    let once = shown_once f.shows shows in
    f.text_is ∙ ap (λ v. value_line T t v f.nils) once.0 ∙ ap (λ N. value_line T t v N) (same_nils once.1)
    ∙ ap (λ l. l ++ value_line T t v N) (sym (no_inner_lines T f.defines))

value_text : (Is : Table → FilledItem → List ℕ → Type 0) {L : Bounds} {T : Table} {offset : ℕ} {id : TypeId}
    {z text : List ℕ} (w : spelled.Filled) → IsFilledItem base_table L T offset (putting id w) z T
    → Is T (putting id w) text → IsValueText go_stepping (texts.of_value Is) T (putting id w) text
value_text Is (spelled.filled v spelled.no_filling) p is = of_unfilled is
value_text Is (spelled.filled v (spelled.filling place name ds u w fs)) p is = of_held tt p p is

-- the text of the item of a value that waits as a whole, whatever its interfaces hold
pub filled_text : (Is : Table → FilledItem → List ℕ → Type 0) {r : GoReader} {id : TypeId} {body text : List ℕ}
    {used depth : ℕ} → depth ≡ min (limits_of (session_of r)).depth greatest_depth → IsBetweenItems (session_of r)
    → HasBodyNext (session_of r) id body used (waits_in r) → AreBytes body
    → (w : IsFilledWhole (types_of (session_of r)) id depth body)
    → Is (types_of (session_of r)) (putting id w.value) text → IsWholeText Is r used text
filled_text Is {r = r} {id = id} {body = body} {used = used} deep between n bytes w is =
    let s = session_of r in
    let T = types_of s in
    let L = within_trees (limits_of s) in
    let o = bytes-append n.number body (unsigned_bytes (signed_unsigned n.names).1) bytes in
    let spells = subst (λ d. SpellsFilled base_table L T id d w.value body T) deep (w.spelled base_table L) in
    let item : IsFilledItem base_table L T (taken_of s) (putting id w.value) (take used (waits_in r)) T =
    subst (λ z. IsFilledItem base_table L T (taken_of s) (putting id w.value) z T) (sym n.whole)
    (of_value n.may n.names spells (last_counted (n.number ++ body) o n.counts n.item n.stream)) in
    record {
      told = putting id w.value;
      item = record {
        between = between;
        some = omega (
          arith,
          (unsigned_length n.counts).0,
          ap length n.whole,
          length-append n.count (n.number ++ body),
          length-take-le used (waits_in r) n.within,
        );
        within = n.within;
        next = in_grammar item;
      };
      is = value_text Is w.value item is;
    }

pub filled_ahead : {r : GoReader} {id : TypeId} {body text : List ℕ} {used depth : ℕ}
    → depth ≡ min (limits_of (session_of r)).depth greatest_depth → IsBetweenItems (session_of r)
    → HasBodyNext (session_of r) id body used (waits_in r) → FilledLine (types_of (session_of r)) id depth body text
    → IsWholeText ShowsInLines r used text
filled_ahead deep between n f = filled_text ShowsInLines deep between n f.are_bytes
    (record { value = f.value; spelled = f.spelled }) (shows_line f)
