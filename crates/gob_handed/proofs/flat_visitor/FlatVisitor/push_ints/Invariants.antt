-- What is left of the ints, with what was told of them, and where they stand.
use Rattle.std.proofs.Common.{◌≡◌, ℕ, List, ◌-◌, ◌≤◌, false, drop, length, nat_lt}
use Rattle.gob_types.specs.declared.id.TypeId.{TypeId}
use Rattle.gob_types.specs.declared.basic.Basic.TheVariants as basic
use Rattle.gob_types.specs.declared.kind.Kind.TheVariants as kind
use Rattle.gob_types.specs.Table.{Table}
use Rattle.gob_value.specs.Tree.{Trees, tree_count}
use Rattle.gob_value.specs.Machine.Begins.{BeginsEach}
use Rattle.gob_num.specs.declared.memory.Memory.{Memory}
use Rattle.gob_walk.specs.Event.{elements_told}
use Rattle.gob_walk.specs.Standing.{BeginsElements, EndsAt, IsOfKind}
use Rattle.gob_walk.specs.Told.{Reaches}
use Rattle.gob_walk.proofs.TellLaws.{ElementsLeft}
use Rattle.gob_handed.specs.Machine.Gathered.{tells_flat}
use Rattle.gob_handed.proofs.flat_visitor.FlatVisitor.push_ints.Given as goal

abbrev pub invariant-ints : goal.invariant-ints
invariant-ints l = record {
  inside : l.at ≤ length l.body;
  stands : (T : Table) (e : TypeId) → IsOfKind T e (kind.Basic basic.Int) → (end : ℕ)
      → EndsAt false (BeginsEach T false e 1 (l.count - l._index)) l.body l.at end
      → EndsAt false (BeginsEach T false e 1 l.count) l.body l.begin end;
  left : (T : Table) (e : TypeId) (limit : ℕ) (vs : Trees) (rest : List ℕ) → IsOfKind T e (kind.Basic basic.Int)
      → BeginsElements T e limit vs (drop l.begin l.body) rest → tree_count vs ≡ l.count
      → ElementsLeft (Reaches (tells_flat {E = Memory})) T e limit (l.count - l._index) (nat_lt 0 l._index) l.fn.self
      l.self (drop l.at l.body) rest (elements_told false T e vs);
}
