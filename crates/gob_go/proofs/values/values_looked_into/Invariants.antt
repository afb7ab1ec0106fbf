use Rattle.std.proofs.Common.{◌-◌, ◌≤◌, length}
use Rattle.gob_types.specs.Defined.{types}
use Rattle.gob_stream.specs.Bounds.{within_trees}
use Rattle.gob_go.specs.Whole.{AreFilledBefore}
use Rattle.gob_go.proofs.values.values_looked_into.Given as goal

abbrev pub invariant-values : goal.invariant-values
invariant-values l = record {
  inside : l.passed.used ≤ length l.piece;
  few : l.passed.items ≤ l.passed.used;
  near : l.passed.used ≤ l.limits.stream - l.offset;
  are : AreFilledBefore (within_trees l.limits) (types l.table) l.offset l.passed.items l.piece l.passed.used;
}
