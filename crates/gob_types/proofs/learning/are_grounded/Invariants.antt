use Rattle.gob_types.specs.Defined.{types}
use Rattle.gob_types.specs.Ready.{IsGrounded}
use Rattle.gob_types.specs.Machine.Walk.{KnowsGrounds}
use Rattle.gob_types.proofs.FirstLaws.{FirstAre}
use Rattle.gob_types.proofs.learning.are_grounded.Given as goal

-- the ids so far have finite values
abbrev pub invariant-loop-id : goal.invariant-loop-id
invariant-loop-id l = record {
  known : KnowsGrounds (types l.table) l.grounds.grounded l.grounds.bottomless;
  all : FirstAre (IsGrounded (types l.table)) l.id-items l.id-index;
}
