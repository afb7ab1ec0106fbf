use Rattle.std.proofs.Common.{ℕ, ◌≤◌, length}
use Rattle.gob_types.specs.Defined.{types}
use Rattle.gob_stream.specs.Bounds.{Bounds}
use Rattle.gob_stream.specs.Whole.{AllowsIn, AreItemsBetween}
use Rattle.gob_stream.proofs.values.runs_of.Given as goal

abbrev pub invariant-runs : goal.invariant-runs
invariant-runs l = record {
  inside : l.passed.used ≤ length l.piece;
  few : l.passed.items ≤ l.passed.used;
  are : (L : Bounds) (offset : ℕ) → AllowsIn L l.most l.depth offset l.piece
      → AreItemsBetween L (types l.table) offset l.passed.items l.piece 0 l.passed.used;
}
