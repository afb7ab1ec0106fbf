-- The items that come of an item have its lines.
use Rattle.std.proofs.Common.{◌≡◌, ◌∙◌, ℕ, List, [], ◌∷◌, ◌++◌, refl, sym, ap, subst, append_assoc, append-nil}
use Rattle.serde_json.specs.Data.{Data}
use Rattle.gob_types.specs.Table.{Table}
use Rattle.gob_types.specs.declared.id.TypeId.{TypeId}
use Rattle.gob_value.specs.Tree.{Tree}
use Rattle.gob_stream.specs.Item.{defines}
use Rattle.gob_filled.specs.Filled.{Definitions, no_definitions, definition, Filled, filled, Fillings, no_filling}
use Rattle.gob_filled.specs.Filled.{filling}
use Rattle.gob_filled.specs.Stream.{FilledItem, defining, putting}
use Rattle.gob_json_writer.specs.FilledJson.{FilledShows, filled_shows, FillingsShow, none_left, then_shown}
use Rattle.gob_go_writer.specs.Hoisting.{defining_items, filling_items, fillings_without, hoisted, inner_items}
use Rattle.gob_go_writer.specs.Hoisting.{without_definitions}
use Rattle.gob_tool.specs.Line.{line}
use Rattle.gob_tool.specs.HoistedLines.{AreLinesOf, no_lines, lines_then}
use Rattle.gob_tool.specs.LineGo.{IsLinesOf, definition_lines, filling_lines, inner_lines, value_line}

both_lines : {T : Table} {is js : List FilledItem} {a b : List ℕ} → AreLinesOf T is a → AreLinesOf T js b
    → AreLinesOf T (is ++ js) (a ++ b)
both_lines no_lines m = m
both_lines {T = T} {js = js} {b = c} (lines_then {i = i} {items = is} {b = b} a l ls) m =
    subst (λ (z : List ℕ). AreLinesOf T (i ∷ (is ++ js)) z) (sym (append_assoc a b c))
    (lines_then a l (both_lines ls m))

defined_lines : (T : Table) (ds : Definitions) → AreLinesOf T (defining_items ds) (definition_lines T ds)
defined_lines T no_definitions = no_lines
defined_lines T (definition id v ds) = lines_then (line T (defines id v)) refl (defined_lines T ds)

mutual
  value_lines : (T : Table) (w : Filled) → AreLinesOf T (inner_items w) (inner_lines T w)
  value_lines T (filled v fs) = held_lines T fs

  held_lines : (T : Table) (fs : Fillings) → AreLinesOf T (filling_items fs) (filling_lines T fs)
  held_lines T no_filling = no_lines
  held_lines T (filling place s ds u w fs) =
      both_lines (defined_lines T ds) (both_lines (value_lines T w) (held_lines T fs))

mutual
  no_inner : (T : Table) (w : Filled) → inner_lines T (without_definitions w) ≡ []
  no_inner T (filled v fs) = no_held T fs

  no_held : (T : Table) (fs : Fillings) → filling_lines T (fillings_without fs) ≡ []
  no_held T no_filling = refl
  no_held T (filling place s ds u w fs) =
      ap (λ (l : List ℕ). l ++ filling_lines T (fillings_without fs)) (no_inner T w) ∙ no_held T fs

mutual
  shows_without : {T : Table} {t : TypeId} {w : Filled} {v : Tree} {N : ℕ → Data} → FilledShows T t w v N
      → FilledShows T t (without_definitions w) v N
  shows_without (filled_shows sp s) = filled_shows sp (show_without s)

  show_without : {T : Table} {t : TypeId} {b : List ℕ} {from number : ℕ} {fs : Fillings} {N : ℕ → Data}
      → FillingsShow T t b from number fs N → FillingsShow T t b from number (fillings_without fs) N
  show_without (none_left n) = none_left n
  show_without (then_shown o i p l n s e ss) = then_shown o i p l n (shows_without s) e (show_without ss)

pub item_lines : (T : Table) (i : FilledItem) (text : List ℕ) → IsLinesOf T i text → AreLinesOf T (hoisted i) text
item_lines T (defining id v) text l =
    subst (λ (z : List ℕ). AreLinesOf T (defining id v ∷ []) z) (append-nil text) (lines_then text l no_lines)
item_lines T (putting id w) text l =
    let own = value_line T id l.value l.nils in
    subst (λ (z : List ℕ). AreLinesOf T (hoisted (putting id w)) z)
    (ap (λ (z : List ℕ). inner_lines T w ++ z) (append-nil own) ∙ sym l.lines)
    (both_lines (value_lines T w) (lines_then own (record {
      value = l.value;
      nils = l.nils;
      shows = shows_without l.shows;
      lines = ap (λ (z : List ℕ). z ++ own) (sym (no_inner T w));
    }) no_lines))
