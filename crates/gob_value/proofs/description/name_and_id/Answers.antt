use Rattle.std.proofs.lemmas.Result.{IfOk-from_err}
use Rattle.gob_value.proofs.description.name_and_id.Goals as goal

pub returns-in_err-to_vec-clause-described : goal.returns-in_err-to_vec-clause-described
returns-in_err-to_vec-clause-described c = IfOk-from_err c.from_residual.result _ c.from_residual.ensures.0

pub returns-in_err-to_vec-clause-counted : goal.returns-in_err-to_vec-clause-counted
returns-in_err-to_vec-clause-counted c = IfOk-from_err c.from_residual.result _ c.from_residual.ensures.0

pub returns-in_err-push-clause-described : goal.returns-in_err-push-clause-described
returns-in_err-push-clause-described c = IfOk-from_err c.from_residual-in_err-push.result _
    c.from_residual-in_err-push.ensures.0

pub returns-in_err-push-clause-counted : goal.returns-in_err-push-clause-counted
returns-in_err-push-clause-counted c = IfOk-from_err c.from_residual-in_err-push.result _
    c.from_residual-in_err-push.ensures.0

pub returns-in_err-push-2-clause-described : goal.returns-in_err-push-2-clause-described
returns-in_err-push-2-clause-described c = IfOk-from_err c.from_residual-in_err-push-2.result _
    c.from_residual-in_err-push-2.ensures.0

pub returns-in_err-push-2-clause-counted : goal.returns-in_err-push-2-clause-counted
returns-in_err-push-2-clause-counted c = IfOk-from_err c.from_residual-in_err-push-2.result _
    c.from_residual-in_err-push-2.ensures.0
