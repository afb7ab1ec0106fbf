use Rattle.gob_explain.proofs.OneRunLaws.{are_one_run}
use Rattle.gob_explain.proofs.laws.rows_of_fillings_are_cut_alike.Goals as goal

pub returns : goal.returns
returns c = are_one_run
