use Rattle.std.proofs.lemmas.Result.{IfOk-from_err}
use Rattle.gob_types.proofs.base.enter_basic.Goals as goal

pub returns-in_err-enter : goal.returns-in_err-enter
returns-in_err-enter c = IfOk-from_err c.from_residual.result _ c.from_residual.ensures.0

pub returns-in_err-enter-2 : goal.returns-in_err-enter-2
returns-in_err-enter-2 c = IfOk-from_err c.from_residual-in_err-enter-2.result _
    c.from_residual-in_err-enter-2.ensures.0

pub returns-in_err-enter-3 : goal.returns-in_err-enter-3
returns-in_err-enter-3 c = IfOk-from_err c.from_residual-in_err-enter-3.result _
    c.from_residual-in_err-enter-3.ensures.0

pub returns-in_err-enter-4 : goal.returns-in_err-enter-4
returns-in_err-enter-4 c = IfOk-from_err c.from_residual-in_err-enter-4.result _
    c.from_residual-in_err-enter-4.ensures.0

pub returns-in_err-enter-5 : goal.returns-in_err-enter-5
returns-in_err-enter-5 c = IfOk-from_err c.from_residual-in_err-enter-5.result _
    c.from_residual-in_err-enter-5.ensures.0

pub returns-in_err-enter-6 : goal.returns-in_err-enter-6
returns-in_err-enter-6 c = IfOk-from_err c.from_residual-in_err-enter-6.result _
    c.from_residual-in_err-enter-6.ensures.0

pub returns-in_err-enter-7 : goal.returns-in_err-enter-7
returns-in_err-enter-7 c = IfOk-from_err c.from_residual-in_err-enter-7.result _
    c.from_residual-in_err-enter-7.ensures.0
