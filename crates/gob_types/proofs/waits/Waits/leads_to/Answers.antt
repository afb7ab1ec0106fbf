use Rattle.std.proofs.lemmas.Result.{IfOk-from_err}
use Rattle.gob_types.proofs.waits.Waits.leads_to.Goals as goal

pub returns-in_err-yes : goal.returns-in_err-yes
returns-in_err-yes c = IfOk-from_err c.from_residual.result _ c.from_residual.ensures.0
