use Rattle.std.proofs.Common.{◌≡◌, ◌↔◌, IsTrue, ℕ, nat_eq, arith, sym, ◌∙◌}
use Rattle.std.proofs.lemmas.Bool.{eqb-true, eq-eqb}
use Rattle.gob_types.specs.declared.basic.Basic.{Basic}
use Rattle.gob_types.specs.declared.id.TypeId.{TypeId}
use Rattle.gob_types.specs.declared.kind.Kind.TheVariants as kind
use Rattle.gob_value.specs.Tree.{Tree, Trees, no_tree, tree, tree_count}
use Rattle.gob_value.specs.View.{view, views}
use Rattle.gob_value.specs.Tidy.{IsZero, IsDropped, zero_basic, empty_slice}
use Rattle.gob_value.proofs.TestSteps.{through}
use Rattle.gob_value.proofs.ViewLaws.{view-Many, tree_count-views}
use Rattle.gob_value.proofs.tidying.is_dropped.Goals as goal

dropped_basic : (b : Basic) (v : Tree) → IsZero v ↔ IsDropped (kind.Basic b) v
dropped_basic b v = (λ z. zero_basic z, back)
  where
    back : {b : Basic} {v : Tree} → IsDropped (kind.Basic b) v → IsZero v
    back (zero_basic z) = z

dropped_slice : (e : TypeId) (vs : Trees) (n : ℕ) → n ≡ tree_count vs → IsTrue (nat_eq n 0)
    ↔ IsDropped (kind.Slice e) (Tree.many vs)
dropped_slice e no_tree n h = (λ _. empty_slice, λ d. eq-eqb n 0 h)
dropped_slice e (tree v vs) n h = (λ t. let z = eqb-true n 0 t in absurd (omega arith), λ d. elim d [ ])

pub returns-in-Basic : goal.returns-in-Basic
returns-in-Basic c = rw c.in-Basic.is (through c.is_zero.ensures
    (dropped_basic c.in-Basic.field-0 (view c.args.value.now)))

pub returns-in-Many : goal.returns-in-Many
returns-in-Many c =
    let vs = c.in-Many.parts in
    rw (c.in-Slice.is, c.in-Many.is, view-Many vs, c.is_empty.ensures)
    (dropped_slice c.in-Slice.elem (views vs.items) vs.len (vs.ok.0 ∙ sym (tree_count-views vs.items)))
