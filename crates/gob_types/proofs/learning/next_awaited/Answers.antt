use Rattle.std.proofs.Common.{refl}
use Rattle.std.proofs.lemmas.Bool.Decides.{when_true, when_false}
use Rattle.std.proofs.lemmas.Result.{IfOk-from_err}
use Rattle.gob_types.proofs.WaitLaws.{redirects_same, redirects_then, led_less, told_both}
use Rattle.gob_types.proofs.learning.next_awaited.Goals as goal

pub loop-preserved : goal.loop-preserved
loop-preserved c =
    let i = c.loop.invariant in
    record {
      redirected = redirects_then i.redirected (redirects_then (redirects_same c.next.ensures.awaited)
          c.in_ok-take_over.ensures.redirected);
      led = λ T led.
          let k = i.led T led in
          c.in_ok-take_over.ensures.led T (led_less k c.next.ensures.left c.next.ensures.awaited)
          (k.left _ _ c.in-Some.ensures.taken) (when_true _ _ c.if-not-branch.false c.in_ok-leads_to.ensures);
    }

pub loop-preserved-then-contains : goal.loop-preserved-then-contains
loop-preserved-then-contains c =
    let i = c.loop.invariant in
    record {
      redirected = redirects_then i.redirected (redirects_same c.next.ensures.awaited);
      led = λ T led. led_less (i.led T led) c.next.ensures.left c.next.ensures.awaited;
    }

pub loop-init : goal.loop-init
loop-init c = record { redirected = redirects_same refl; led = λ T led. led }

pub returns-in_default-clause-redirected : goal.returns-in_default-clause-redirected
returns-in_default-clause-redirected c = redirects_then c.loop.invariant.redirected
    (redirects_same c.next.ensures.awaited)

pub returns-in_default-clause-led : goal.returns-in_default-clause-led
returns-in_default-clause-led c T led = led_less (c.loop.invariant.led T led) c.next.ensures.left c.next.ensures.awaited

pub returns-in_err-leads_to-clause-redirected : goal.returns-in_err-leads_to-clause-redirected
returns-in_err-leads_to-clause-redirected c = IfOk-from_err c.from_residual.result _ c.from_residual.ensures.0

pub returns-in_err-leads_to-clause-led : goal.returns-in_err-leads_to-clause-led
returns-in_err-leads_to-clause-led c T led = IfOk-from_err c.from_residual.result _ c.from_residual.ensures.0

pub returns-in_err-leads_to-clause-apart : goal.returns-in_err-leads_to-clause-apart
returns-in_err-leads_to-clause-apart c = IfOk-from_err c.from_residual.result _ c.from_residual.ensures.0

pub returns-in_err-leads_to-clause-reached : goal.returns-in_err-leads_to-clause-reached
returns-in_err-leads_to-clause-reached c T led = IfOk-from_err c.from_residual.result _ c.from_residual.ensures.0

pub returns-then-not-branch-clause-redirected : goal.returns-then-not-branch-clause-redirected
returns-then-not-branch-clause-redirected c = redirects_then c.loop.invariant.redirected
    (redirects_same c.next.ensures.awaited)

pub returns-then-not-branch-clause-led : goal.returns-then-not-branch-clause-led
returns-then-not-branch-clause-led c T led = led_less (c.loop.invariant.led T led) c.next.ensures.left
    c.next.ensures.awaited

pub returns-then-not-branch-clause-apart : goal.returns-then-not-branch-clause-apart
returns-then-not-branch-clause-apart c = (
  when_false _ _ c.if-contains.false (told_both c.contains.result c.contains.ensures (λ h. h) (λ h. h)),
  when_false _ _ c.if-not-branch.true c.in_ok-leads_to.ensures,
)

pub returns-then-not-branch-clause-reached : goal.returns-then-not-branch-clause-reached
returns-then-not-branch-clause-reached c T led = (c.loop.invariant.led T led).left _ _ c.in-Some.ensures.taken

pub returns-in_err-take_over-clause-redirected : goal.returns-in_err-take_over-clause-redirected
returns-in_err-take_over-clause-redirected c = IfOk-from_err c.from_residual-in_err-take_over.result _
    c.from_residual-in_err-take_over.ensures.0

pub returns-in_err-take_over-clause-led : goal.returns-in_err-take_over-clause-led
returns-in_err-take_over-clause-led c T led = IfOk-from_err c.from_residual-in_err-take_over.result _
    c.from_residual-in_err-take_over.ensures.0

pub returns-in_err-take_over-clause-apart : goal.returns-in_err-take_over-clause-apart
returns-in_err-take_over-clause-apart c = IfOk-from_err c.from_residual-in_err-take_over.result _
    c.from_residual-in_err-take_over.ensures.0

pub returns-in_err-take_over-clause-reached : goal.returns-in_err-take_over-clause-reached
returns-in_err-take_over-clause-reached c T led = IfOk-from_err c.from_residual-in_err-take_over.result _
    c.from_residual-in_err-take_over.ensures.0
