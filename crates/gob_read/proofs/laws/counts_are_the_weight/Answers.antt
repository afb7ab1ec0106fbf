use Rattle.gob_read.proofs.Events.CheckedLaws.{counts_weight}
use Rattle.gob_read.proofs.laws.counts_are_the_weight.Goals as goal

pub returns : goal.returns
returns c = counts_weight
