use Rattle.std.proofs.lemmas.Result.{IfOk-from_err}
use Rattle.gob_match.proofs.names.repeats_name.Goals as goal

pub returns-in_err-names_of : goal.returns-in_err-names_of
returns-in_err-names_of c = IfOk-from_err c.from_residual.result _ c.from_residual.ensures.0
