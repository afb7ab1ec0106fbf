use Rattle.std.proofs.Common.{◌≡◌, ℕ, ◌+◌, List, length}
use Rattle.gob_types.specs.Defined.{types}
use Rattle.gob_types.specs.Table.{Table}
use Rattle.gob_stream.specs.Bounds.{within_trees}
use Rattle.gob_go.specs.Machine.Stages.{IsBehindValue, ValueIsWhole}
use Rattle.gob_go.proofs.levels.Levels.end_values.Given as goal

-- one value after another is whole behind the same bytes
abbrev pub invariant-loop-outer : goal.invariant-loop-outer
invariant-loop-outer l = record {
  is : IsBehindValue l.around.keeps (within_trees l.around.limits) l.table l.around.taken l.self;
  each : (T : Table) (offset : ℕ) (z : List ℕ)
      → ValueIsWhole l.around.keeps (within_trees l.around.limits) T offset (types l.table) l.fn.self z
      → l.around.taken ≡ offset + length z
      → ValueIsWhole l.around.keeps (within_trees l.around.limits) T offset (types l.table) l.self z;
}

abbrev pub decreases-loop-outer : goal.decreases-loop-outer
decreases-loop-outer l = length l.self.outer.items
