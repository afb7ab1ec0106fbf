use Rattle.std.proofs.lemmas.Result.{IfOk-from_err}
use Rattle.gob_types.proofs.base.enter_base.Goals as goal

pub returns-in_err-enter_basic : goal.returns-in_err-enter_basic
returns-in_err-enter_basic c = IfOk-from_err c.from_residual.result _ c.from_residual.ensures.0
