use Rattle.gob_read.proofs.Events.CountLaws.{tells_weight}
use Rattle.gob_read.proofs.laws.events_have_the_weight.Goals as goal

pub returns : goal.returns
returns c v us t = tells_weight t
