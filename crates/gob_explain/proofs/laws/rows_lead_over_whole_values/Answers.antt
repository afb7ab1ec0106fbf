use Rattle.gob_explain.proofs.OverLaws.{lead_over_whole_values}
use Rattle.gob_explain.proofs.laws.rows_lead_over_whole_values.Goals as goal

pub returns : goal.returns
returns c = lead_over_whole_values
