use Rattle.std.proofs.lemmas.Result.{IfOk-from_err}
use Rattle.gob_types.proofs.entries.Entries.enter.Goals as goal

pub returns-in_err-insert-clause-entered : goal.returns-in_err-insert-clause-entered
returns-in_err-insert-clause-entered c = IfOk-from_err c.from_residual.result _ c.from_residual.ensures.0
