use Rattle.std.proofs.Common.{◌-◌, ◌^◌}
use Rattle.gob_types.specs.Defined.{types}
use Rattle.gob_types.proofs.KeptLaws.{MetSoFar}
use Rattle.gob_types.proofs.reaching.reached_past.Given as goal

-- the first ids are known, or all that they name was met
abbrev pub invariant-loop-next : goal.invariant-loop-next
invariant-loop-next l = MetSoFar (types l.table) l.known l.fn.id l.met l.next

-- a set has room for no more ids than this
abbrev pub decreases-loop-next : goal.decreases-loop-next
decreases-loop-next l = 2 ^ 63 - l.next
