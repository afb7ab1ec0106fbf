use Rattle.std.proofs.lemmas.Result.{IfOk-from_err}
use Rattle.gob_types.proofs.base.enter.Goals as goal

pub returns-in_err-name : goal.returns-in_err-name
returns-in_err-name c = IfOk-from_err c.from_residual.result _ c.from_residual.ensures.0

pub returns-in_err-enter : goal.returns-in_err-enter
returns-in_err-enter c = IfOk-from_err c.from_residual-in_err-enter.result _ c.from_residual-in_err-enter.ensures.0
