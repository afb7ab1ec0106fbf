-- Sessions of streams of Go's encoder can be counted with.
use Rattle.std.proofs.Common.{◌≡◌, ℕ, ◌≤◌, List, [], ◌∷◌, ◌++◌, length, arith, ap, sym, subst, refl, ◌∙◌}
use Rattle.std.proofs.Common.{append-nil, length-append}
use Rattle.gob_types.specs.Base.{base_table}
use Rattle.gob_types.specs.Table.{Table}
use Rattle.gob_types.specs.declared.id.TypeId.{TypeId}
use Rattle.gob_value.specs.declared.value.Value.{Value}
use Rattle.gob_stream.specs.Bounds.{Bounds, within_trees}
use Rattle.gob_filled.specs.Definition.{defines}
use Rattle.gob_filled.specs.Filled.{Filled}
use Rattle.gob_filled.specs.Stream.{FilledItem, FilledStream, IsFilledItem, AreFilledItems, of_definition, of_value}
use Rattle.gob_filled.specs.Stream.{putting, no_more, and_then}
use Rattle.gob_go.specs.Calls.Session.{limits_of}
use Rattle.gob_go.specs.GoStepping.{go_stepping}
use Rattle.gob_go.specs.Meaning.{ItemMeans, means_definition, means_value}
use Rattle.gob_go.specs.declared.filled.Filled.{Filled as Kept}
use Rattle.gob_go.specs.declared.item.GoItem.{GoItem}
use Rattle.gob_go.specs.declared.item.GoItem.TheVariants as item
use Rattle.gob_go.proofs.FinishSteps.{count_begins_here}
use Rattle.gob_go.proofs.ItemsLaws.{item_grown, items_grown, one_reading}
use Rattle.gob_counted.specs.Apart.{IsCountable, IsDefinition, ValuesIn, a_value, no_values}

item_grows : {L : Bounds} {T U : Table} {offset : ℕ} {i : FilledItem} {b : List ℕ}
    → IsFilledItem base_table L T offset i b U → length T ≤ length U
item_grows {T = T} p = let g = item_grown p in omega (arith, ap length g.grown, length-append T g.more)

items_grow : {L : Bounds} {T U : Table} {offset : ℕ} {items : List FilledItem} {b : List ℕ}
    → AreFilledItems base_table L T offset items b U → length T ≤ length U
items_grow {T = T} p = let g = items_grown p in omega (arith, ap length g.grown, length-append T g.more)

no_definition : {t : TypeId} {w : Filled} → ¬ IsDefinition go_stepping (putting t w)
no_definition def_ = let is = def_.is in cc

values : {L : Bounds} {T U : Table} {offset : ℕ} {items : List FilledItem} {b : List ℕ}
    → AreFilledItems base_table L T offset items b U → length U ≤ length T → ValuesIn go_stepping items (length items)
values no_more same = no_values
values {T = T} (and_then (of_definition n l k (defines {id = id} {s = s} may deep describes is sg sp)) e r) same =
    let grow = items_grow r in
    absurd (omega (arith, grow, same, length-append T ((id, s) ∷ [])))
values (and_then (of_value may sg k cs) e r) same =
    let grow = item_grows (of_value may sg k cs) in
    a_value no_definition (values r (omega (arith, grow, same))) (omega arith)

pub go_is_countable : IsCountable go_stepping
go_is_countable = record {
  one_stream = λ L items b c x y T U p q e. let one = one_reading x y p q e in (one.bytes, one.table);
  are_values = λ L T offset items bytes a. values a (omega arith);
  whole = λ s items bytes a between.
      let none = count_begins_here a between refl in
      subst (λ b. FilledStream base_table (within_trees (limits_of s)) items b a.table)
      (sym (a.whole ∙ ap (λ y. a.prefix ++ y) none ∙ append-nil a.prefix)) a.stream;
}

-- an item that was handed out tells what it is
pub definition_told : {T : Table} {id : TypeId} {described : Value} {given : GoItem} {told : FilledItem}
    → given ≡ item.Define id described → ItemMeans T given told → IsDefinition go_stepping told
definition_told e (means_definition {id = id}) = record { id = id; description = _; is = refl }
definition_told e (means_value m) = absurd (cc)

pub value_told : {T : Table} {id : TypeId} {kept : Kept} {given : GoItem} {told : FilledItem}
    → given ≡ item.Put id kept → ItemMeans T given told → ¬ IsDefinition go_stepping told
value_told e means_definition = absurd (cc)
value_told e (means_value m) = no_definition
