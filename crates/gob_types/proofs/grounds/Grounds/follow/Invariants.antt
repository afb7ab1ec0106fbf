use Rattle.std.proofs.Common.{◌-◌, ◌^◌, length}
use Rattle.gob_types.specs.Defined.{types}
use Rattle.gob_types.proofs.GroundLaws.{Following}
use Rattle.gob_types.proofs.grounds.Grounds.follow.Given as goal

-- the way has come to this type
abbrev pub invariant-loop-at : goal.invariant-loop-at
invariant-loop-at l = Following (types l.table) l.fn.id l.way l.at

-- a set has room for no more ids than this
abbrev pub decreases-loop-at : goal.decreases-loop-at
decreases-loop-at l = 2 ^ 63 - length l.way
