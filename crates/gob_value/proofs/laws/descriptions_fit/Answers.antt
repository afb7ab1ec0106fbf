use Rattle.gob_value.proofs.DescribedLaws.{fits}
use Rattle.gob_value.proofs.laws.descriptions_fit.Goals as goal

pub returns : goal.returns
returns c = fits
