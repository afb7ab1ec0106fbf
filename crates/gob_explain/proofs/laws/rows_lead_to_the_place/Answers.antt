use Rattle.gob_explain.proofs.ReachLaws.{reaches}
use Rattle.gob_explain.proofs.laws.rows_lead_to_the_place.Goals as goal

pub returns : goal.returns
returns c = reaches
