use Rattle.std.proofs.Common.{◌≡◌, subst, arith}
use Rattle.std.proofs.lemmas.Result.{IfOk-from_err}
use Rattle.gob_types.specs.Machine.Walk.{AddsAll}
use Rattle.gob_types.proofs.FirstLaws.{read_at}
use Rattle.gob_types.proofs.SetLaws.{adds_one}
use Rattle.gob_types.proofs.WaitLaws.{back_start, back_next, back_all, told_both}
use Rattle.gob_types.proofs.waits.Waits.behind.Goals as goal

pub loop-next-init : goal.loop-next-init
loop-next-init c = back_start (subst (λ ids. AddsAll ids c.add.new.self (λ u. c.args.id ≡ u)) c.new-back.ensures
    (adds_one _ c.in_ok-add.ensures.added))

pub loop-next-preserved : goal.loop-next-preserved
loop-next-preserved c =
    let at = read_at c.loop-next.next _ c.as_slice.ensures (omega (arith, c.loop-next-test.true, c.count.ensures.count))
    in
    back_next c.loop-next.invariant at c.users-users.ensures c.in_ok-add_waiting.ensures

pub returns : goal.returns
returns c = told_both c.contains.result c.contains.ensures (c.loop-next.invariant.sound _)
    (back_all c.loop-next.invariant (omega (arith, c.loop-next-test.false, c.count.ensures.count)))

pub returns-in_err-add : goal.returns-in_err-add
returns-in_err-add c = IfOk-from_err c.from_residual.result _ c.from_residual.ensures.0

pub returns-in_err-add_waiting : goal.returns-in_err-add_waiting
returns-in_err-add_waiting c = IfOk-from_err c.from_residual-in_err-add_waiting.result _
    c.from_residual-in_err-add_waiting.ensures.0
