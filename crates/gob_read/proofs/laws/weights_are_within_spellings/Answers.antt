use Rattle.gob_read.proofs.Events.WeightLaws.{weight_within, weight_within_top}
use Rattle.gob_read.proofs.laws.weights_are_within_spellings.Goals as goal

pub returns-clause-value : goal.returns-clause-value
returns-clause-value c T t v b s = weight_within s

pub returns-clause-top : goal.returns-clause-top
returns-clause-top c T t v b s = weight_within_top s
