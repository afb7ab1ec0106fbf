use Rattle.std.proofs.lemmas.Result.{IfOk-from_err}
use Rattle.gob_types.proofs.type_set.with_ids.Goals as goal

pub returns-in_err-add_all : goal.returns-in_err-add_all
returns-in_err-add_all c = IfOk-from_err c.from_residual.result _ c.from_residual.ensures.0
