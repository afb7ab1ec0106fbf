use Rattle.std.proofs.Common.{◌-◌, ◌^◌}
use Rattle.gob_types.proofs.WaitLaws.{MetBack}
use Rattle.gob_types.proofs.waits.Waits.behind.Given as goal

-- of the first ids all that wait for them are there
abbrev pub invariant-loop-next : goal.invariant-loop-next
invariant-loop-next l = MetBack l.self.awaited l.fn.id l.back l.next

-- a set has room for no more ids than this
abbrev pub decreases-loop-next : goal.decreases-loop-next
decreases-loop-next l = 2 ^ 63 - l.next
