use Rattle.std.proofs.Common.{sym, ◌∙◌}
use Rattle.std.proofs.lemmas.Result.{IfOk-from_err}
use Rattle.gob_types.proofs.WaitLaws.{redirects_same, redirects_then, redirects_set, waits_next, waits_reach}
use Rattle.gob_types.proofs.WaitLaws.{waits_redirected, led_merged, led_set}
use Rattle.gob_types.proofs.WalkLaws.{reaches_joined}
use Rattle.gob_types.proofs.waits.Waits.take_over.Goals as goal
use Rattle.std.proofs.Common.{refl}

pub loop-init : goal.loop-init
loop-init c = record { redirected = redirects_same refl; led = λ T led reach waits. (led, reach, waits) }

pub loop-preserved : goal.loop-preserved
loop-preserved c =
    let i = c.loop.invariant in
    let e = sym c.awaited.ensures ∙ c.in-Some.is in
    let apart = sym c.eq.ensures ∙ c.if-eq.false in
    let merges = redirects_same c.merge.ensures.awaited in
    let sets = redirects_set c.in_ok-wait.ensures.awaited in
    record {
      redirected = redirects_then i.redirected (redirects_then merges sets);
      led = λ T led reach waits.
          let k = i.led T led reach waits in
          let onto = waits_next apart e k.2 in
          let back = reaches_joined (k.0.awaited _ _ e) (waits_reach k.0 onto) in (
            led_set (led_merged k.0 k.1 c.in_ok-merge.ensures.left c.merge.ensures.awaited) c.in_ok-wait.ensures.awaited
                back c.wait.ensures.left,
            reaches_joined k.1 (k.0.awaited _ _ e),
            waits_redirected (redirects_then merges sets) onto,
          );
    }

pub returns-in_err-merge-clause-redirected : goal.returns-in_err-merge-clause-redirected
returns-in_err-merge-clause-redirected c = IfOk-from_err c.from_residual.result _ c.from_residual.ensures.0

pub returns-in_err-wait-clause-redirected : goal.returns-in_err-wait-clause-redirected
returns-in_err-wait-clause-redirected c = IfOk-from_err c.from_residual-in_err-wait.result _
    c.from_residual-in_err-wait.ensures.0
