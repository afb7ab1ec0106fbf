use Rattle.gob_types.specs.Defined.{types}
use Rattle.gob_types.specs.Ready.{IsGrounded}
use Rattle.gob_types.specs.Machine.Walk.{KnowsGrounds}
use Rattle.gob_types.proofs.LeastLaws.{LeastSoFar}
use Rattle.gob_types.proofs.readiness.least_bottomless.Given as goal

-- the least of the ids so far that has no finite value
abbrev pub invariant-loop-id : goal.invariant-loop-id
invariant-loop-id l = record {
  known : KnowsGrounds (types l.table) l.grounds.grounded l.grounds.bottomless;
  least : LeastSoFar (IsGrounded (types l.table)) (λ u. ¬ IsGrounded (types l.table) u) l.id-items l.id-index l.least;
}
