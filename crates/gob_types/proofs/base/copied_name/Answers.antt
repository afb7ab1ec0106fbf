use Rattle.std.proofs.lemmas.Result.{IfOk-from_err}
use Rattle.gob_types.proofs.base.copied_name.Goals as goal

pub returns-in_err-to_vec : goal.returns-in_err-to_vec
returns-in_err-to_vec c = IfOk-from_err c.from_residual.result _ c.from_residual.ensures.0
