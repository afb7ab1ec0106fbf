use Rattle.std.proofs.lemmas.Result.{IfOk-from_err}
use Rattle.gob_tape.proofs.values.raw_value.Goals as goal

pub returns-in_err-bytes : goal.returns-in_err-bytes
returns-in_err-bytes c = IfOk-from_err c.from_residual.result _ c.from_residual.ensures.0
