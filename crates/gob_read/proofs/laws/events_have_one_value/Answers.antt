use Rattle.gob_read.proofs.Events.BuiltLaws.{tells_one}
use Rattle.gob_read.proofs.laws.events_have_one_value.Goals as goal

pub returns : goal.returns
returns c us v w t u = tells_one t u
