use Rattle.std.proofs.lemmas.Result.{IfOk-from_err}
use Rattle.gob_types.proofs.base.enter_descriptions.Goals as goal

pub returns-in_err-enter_struct : goal.returns-in_err-enter_struct
returns-in_err-enter_struct c = IfOk-from_err c.from_residual.result _ c.from_residual.ensures.0

pub returns-in_err-enter_struct-2 : goal.returns-in_err-enter_struct-2
returns-in_err-enter_struct-2 c = IfOk-from_err c.from_residual-in_err-enter_struct-2.result _
    c.from_residual-in_err-enter_struct-2.ensures.0

pub returns-in_err-enter_struct-3 : goal.returns-in_err-enter_struct-3
returns-in_err-enter_struct-3 c = IfOk-from_err c.from_residual-in_err-enter_struct-3.result _
    c.from_residual-in_err-enter_struct-3.ensures.0

pub returns-in_err-enter_struct-4 : goal.returns-in_err-enter_struct-4
returns-in_err-enter_struct-4 c = IfOk-from_err c.from_residual-in_err-enter_struct-4.result _
    c.from_residual-in_err-enter_struct-4.ensures.0

pub returns-in_err-enter_struct-5 : goal.returns-in_err-enter_struct-5
returns-in_err-enter_struct-5 c = IfOk-from_err c.from_residual-in_err-enter_struct-5.result _
    c.from_residual-in_err-enter_struct-5.ensures.0

pub returns-in_err-enter_struct-6 : goal.returns-in_err-enter_struct-6
returns-in_err-enter_struct-6 c = IfOk-from_err c.from_residual-in_err-enter_struct-6.result _
    c.from_residual-in_err-enter_struct-6.ensures.0

pub returns-in_err-enter_struct-7 : goal.returns-in_err-enter_struct-7
returns-in_err-enter_struct-7 c = IfOk-from_err c.from_residual-in_err-enter_struct-7.result _
    c.from_residual-in_err-enter_struct-7.ensures.0

pub returns-in_err-enter : goal.returns-in_err-enter
returns-in_err-enter c = IfOk-from_err c.from_residual-in_err-enter.result _ c.from_residual-in_err-enter.ensures.0
