-- What was told of the parts before the place.
use Rattle.std.proofs.Common.{◌≡◌, ◌∷◌, ◌++◌, ◌+◌, ◌-◌, ◌*◌, ◌≤◌, ℕ, List, Ok, Some, length}
use Rattle.gob_types.specs.Defined.{types}
use Rattle.gob_types.specs.Ready.{IsReady}
use Rattle.gob_types.specs.Table.{shape_of}
use Rattle.gob_types.specs.declared.id.TypeId.{TypeId}
use Rattle.gob_types.specs.declared.kind.Kind.TheVariants as kind
use Rattle.gob_types.specs.declared.kind.Shape.{Shape}
use Rattle.gob_read.specs.Expects.{FieldsRun}
use Rattle.gob_explain.specs.Open.{Open, a_filling, a_value, type_number}
use Rattle.gob_explain.specs.Path.{PathOf}
use Rattle.gob_explain.specs.declared.row.PartStep.{PartStep}
use Rattle.gob_explain.specs.Machine.Walking.{BeginsAt, BeginsEachKey, BeginsEachPart, BeginsEachValue}
use Rattle.gob_explain.specs.Machine.Walking.{SpellsEntries, SpellsMany, Told}
use Rattle.gob_explain.proofs.walk.+walk.Given as goal

-- a part, so many levels above the deepest; a step to it; the parts in a list or map; the fields in a struct; a
-- filling, and what is in it
abbrev pub decreases-walk_part : goal.decreases-walk_part
decreases-walk_part g l = 8 * (l.walk.now.most + 1 - l.part.depth)

abbrev pub decreases-walk_value : goal.decreases-walk_value
decreases-walk_value g l = 8 * (l.walk.now.most + 1 - l.part.depth) + 1

abbrev pub decreases-walk_step : goal.decreases-walk_step
decreases-walk_step g l = 8 * (l.walk.now.most + 1 - l.part.depth) + 1

abbrev pub decreases-walk_elements : goal.decreases-walk_elements
decreases-walk_elements g l = 8 * (l.walk.now.most + 1 - l.each.depth) + 2

abbrev pub decreases-walk_pairs : goal.decreases-walk_pairs
decreases-walk_pairs g l = 8 * (l.walk.now.most + 1 - l.each.depth) + 2

abbrev pub decreases-walk_fields : goal.decreases-walk_fields
decreases-walk_fields g l = 8 * (l.walk.now.most - l.part.depth) + 3

abbrev pub decreases-walk_basic_part : goal.decreases-walk_basic_part
decreases-walk_basic_part g l = 8 * (l.walk.now.most - l.part.depth) + 7

abbrev pub decreases-walk_interface : goal.decreases-walk_interface
decreases-walk_interface g l = 8 * (l.walk.now.most - l.part.depth) + 6

abbrev pub decreases-walk_filling : goal.decreases-walk_filling
decreases-walk_filling g l = 8 * (l.walk.now.most + 1 - l.filling.depth) + 5

abbrev pub decreases-walk_definition : goal.decreases-walk_definition
decreases-walk_definition g l = 8 * (l.walk.now.most + 1 - l.filling.depth) + 4

abbrev pub decreases-walk_held : goal.decreases-walk_held
decreases-walk_held g l = 8 * (l.walk.now.most + 1 - l.filling.depth) + 4

abbrev pub decreases-walk_inside : goal.decreases-walk_inside
decreases-walk_inside g l = 8 * (l.walk.now.most + 1 - l.filling.depth) + 3

abbrev pub invariant-walk_elements-elements : goal.invariant-walk_elements-elements
invariant-walk_elements-elements g l =
    (t : TypeId) (base around : ℕ) (p : List ℕ) (outer : List Open) (way : List PartStep)
    → base + around + 1 ≡ l.each.depth
    → l.begin ≤ length l.walk.body.now → IsReady (types l.walk.table.now) l.each.id
    → BeginsEachPart (types l.walk.table.now) t base p outer l.each.id l.count around way
    → (more : List ℕ) × SpellsMany (types l.walk.table.now) l.each.id l.index more
    × Told g.O.RowSink.tells (types l.walk.table.now) l.walk.body.now (a_value t base p ∷ outer) l.begin
    (l.fn.out, way) (l.out, way) (Ok tt) (a_value t base (p ++ more) ∷ outer) l.at

abbrev pub invariant-walk_pairs-pairs : goal.invariant-walk_pairs-pairs
invariant-walk_pairs-pairs g l =
    (t : TypeId) (base around : ℕ) (p : List ℕ) (outer : List Open) (way : List PartStep)
    → base + around + 1 ≡ l.fn.each.depth
    → l.begin ≤ length l.walk.body.now → IsReady (types l.walk.table.now) l.fn.each.key
    → IsReady (types l.walk.table.now) l.fn.each.elem
    → BeginsEachKey (types l.walk.table.now) t base p outer l.fn.each.key l.fn.each.elem l.count around way
    → BeginsEachValue (types l.walk.table.now) t base p outer l.fn.each.key l.fn.each.elem l.count around way
    → (more : List ℕ) × SpellsEntries (types l.walk.table.now) l.fn.each.key l.fn.each.elem l.index more
    × Told g.O.RowSink.tells (types l.walk.table.now) l.walk.body.now (a_value t base p ∷ outer) l.begin
    (l.fn.out, way) (l.out, way) (Ok tt) (a_value t base (p ++ more) ∷ outer) l.at

abbrev pub invariant-walk_fields-fields : goal.invariant-walk_fields-fields
invariant-walk_fields-fields g l = record {
  within : l.next ≤ length l.fields;
  walked : (t : TypeId) (base around : ℕ) (p : List ℕ) (outer : List Open) (way : List PartStep) (s : Shape)
      → base + around + 1 ≡ l.part.depth → l.begin ≤ length l.walk.body.now
      → IsReady (types l.walk.table.now) l.part.id → shape_of (types l.walk.table.now) l.part.id ≡ Some s
      → s.kind ≡ kind.Struct l.fields → BeginsAt (types l.walk.table.now) t base p outer l.part.id around way
      → (more : List ℕ) × FieldsRun (types l.walk.table.now) l.fields 0 l.next more
      × Told g.O.RowSink.tells (types l.walk.table.now) l.walk.body.now (a_value t base p ∷ outer) l.begin
      (l.fn.out, way) (l.out, way) (Ok tt) (a_value t base (p ++ more) ∷ outer) l.at;
}

abbrev pub decreases-walk_fields-fields : goal.decreases-walk_fields-fields
decreases-walk_fields-fields g l = length l.fields - l.next

abbrev pub invariant-walk_filling-definitions : goal.invariant-walk_filling-definitions
invariant-walk_filling-definitions g l =
    (outer : List Open) (way : List PartStep) → l.begin ≤ length l.walk.body.now
    → PathOf (types l.walk.table.now) outer way
    → (l.least ≤ l.at)
    × Told g.O.RowSink.tells (types l.walk.table.now) l.walk.body.now
    (a_filling l.filling.id l.filling.depth type_number ∷ outer) l.begin (l.fn.out, way) (l.out, way) (Ok tt)
    (a_filling l.filling.id l.filling.depth type_number ∷ outer) l.at
