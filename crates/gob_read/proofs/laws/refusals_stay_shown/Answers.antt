use Rattle.gob_read.proofs.Grammar.Seen.{seen_within, shown_stays}
use Rattle.gob_read.proofs.laws.refusals_stay_shown.Goals as goal

pub returns : goal.returns
returns c = λ T t limit announced z y R h l m e. (seen_within h.refused, shown_stays y h l m e)
