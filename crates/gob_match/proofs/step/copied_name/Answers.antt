use Rattle.std.proofs.lemmas.Result.{IfOk-from_err}
use Rattle.gob_match.proofs.step.copied_name.Goals as goal

pub returns-in_err-from_slice : goal.returns-in_err-from_slice
returns-in_err-from_slice c = IfOk-from_err c.from_residual.result _ c.from_residual.ensures.0
