-- What is left of the ints, with what was put out of them, what waits in the block, and where they stand.
use Rattle.std.proofs.Common.{◌≡◌, ℕ, List, ◌-◌, ◌≤◌, false, drop, length, nat_lt, take}
use Rattle.serde_json.specs.Written.{items_text}
use Rattle.gob_types.specs.declared.id.TypeId.{TypeId}
use Rattle.gob_types.specs.declared.basic.Basic.TheVariants as basic
use Rattle.gob_types.specs.declared.kind.Kind.TheVariants as kind
use Rattle.gob_types.specs.Table.{Table}
use Rattle.gob_value.specs.Tree.{Trees, tree_count}
use Rattle.gob_value.specs.Machine.Begins.{BeginsEach}
use Rattle.gob_json.specs.Json.{elements_json}
use Rattle.gob_walk.specs.Standing.{BeginsElements, EndsAt, IsOfKind}
use Rattle.gob_walk.specs.Told.{Reaches}
use Rattle.gob_walk.proofs.PublicLaws.{is_known}
use Rattle.gob_json.proofs.IntLaws.{ElementsWait}
use Rattle.gob_json.proofs.text.integers.put_in_blocks.Given as goal

abbrev pub invariant-integers : goal.invariant-integers
invariant-integers g l = record {
  inside : l.at ≤ length l.body;
  held : l.len ≤ g.row.BLOCK;
  stands : (T : Table) (e : TypeId) → IsOfKind T e (kind.Basic basic.Int) → (end : ℕ)
      → EndsAt (is_known g.row.KNOWN) (BeginsEach T false e 1 (l.count - l.index)) l.body l.at end
      → EndsAt (is_known g.row.KNOWN) (BeginsEach T false e 1 l.count) l.body l.begin end;
  left : (T : Table) (e : TypeId) (limit : ℕ) (vs : Trees) (rest : List ℕ) → IsOfKind T e (kind.Basic basic.Int)
      → BeginsElements T e limit vs (drop l.begin l.body) rest → tree_count vs ≡ l.count
      → ElementsWait (Reaches g.O.TextOut.puts) T e limit (l.count - l.index) (nat_lt 0 l.index) l.fn.out l.out
      (take l.len l.block)
      (drop l.at l.body) rest (items_text false (elements_json T e vs));
}
