use Rattle.std.proofs.lemmas.Result.{IfOk-from_err}
use Rattle.gob_types.proofs.definitions.Definitions.new.Goals as goal

pub returns-in_err-enter_base-clause-base : goal.returns-in_err-enter_base-clause-base
returns-in_err-enter_base-clause-base c = IfOk-from_err c.from_residual.result _ c.from_residual.ensures.0

pub returns-in_err-enter_base-clause-most : goal.returns-in_err-enter_base-clause-most
returns-in_err-enter_base-clause-most c = IfOk-from_err c.from_residual.result _ c.from_residual.ensures.0
