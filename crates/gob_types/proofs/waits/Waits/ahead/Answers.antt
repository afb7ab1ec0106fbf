use Rattle.std.proofs.Common.{sym, ◌∙◌}
use Rattle.gob_types.proofs.WaitLaws.{ahead_start, ahead_next, waits_itself, waits_not}
use Rattle.gob_types.proofs.waits.Waits.ahead.Goals as goal

pub loop-init : goal.loop-init
loop-init c = ahead_start

pub returns-then-eq : goal.returns-then-eq
returns-then-eq c = c.loop.invariant.on (waits_itself (sym c.eq.ensures ∙ c.if-eq.true))

pub returns-in_default : goal.returns-in_default
returns-in_default c = λ h. waits_not (sym c.eq.ensures ∙ c.if-eq.false) (sym c.awaited.ensures ∙ c.in_default.is)
    (c.loop.invariant.back h)

pub loop-preserved : goal.loop-preserved
loop-preserved c = ahead_next c.loop.invariant (sym c.eq.ensures ∙ c.if-eq.false) (sym c.awaited.ensures ∙ c.in-Some.is)
