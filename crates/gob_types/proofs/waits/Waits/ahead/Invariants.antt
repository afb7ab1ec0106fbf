use Rattle.gob_types.proofs.WaitLaws.{IsAhead}
use Rattle.gob_types.proofs.waits.Waits.ahead.Given as goal

-- the way has come to this type
abbrev pub invariant-loop : goal.invariant-loop
invariant-loop l = IsAhead l.self.awaited l.fn.from l.fn.id l.at
