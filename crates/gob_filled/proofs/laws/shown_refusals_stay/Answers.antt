use Rattle.gob_filled.proofs.Shown.{filled_there, filled_stays}
use Rattle.gob_filled.proofs.laws.shown_refusals_stay.Goals as goal

pub returns : goal.returns
returns c base L T offset z others R wire h e = (filled_there h, filled_stays wire h e)
