use Rattle.std.proofs.Common.{◌-◌, ◌^◌}
use Rattle.gob_types.specs.Defined.{types}
use Rattle.gob_types.proofs.WalkLaws.{Met}
use Rattle.gob_types.proofs.readiness.reached.Given as goal

-- all that the first ids name was met
abbrev pub invariant-loop-next : goal.invariant-loop-next
invariant-loop-next l = Met (types l.table) l.fn.id l.met l.next

-- a set has room for no more ids than this
abbrev pub decreases-loop-next : goal.decreases-loop-next
decreases-loop-next l = 2 ^ 63 - l.next
