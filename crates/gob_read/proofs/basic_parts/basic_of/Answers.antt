use Rattle.gob_read.proofs.Machine.KindLaws.{named_basic}
use Rattle.gob_read.proofs.basic_parts.basic_of.Goals as goal

pub returns : goal.returns
returns g c = named_basic _ _ c.basic_of.result c.basic_of.ensures
