use Rattle.gob_go_writer.proofs.WriterSteps.{whole_outcome}
use Rattle.gob_go_writer.proofs.laws.what_is_put_is_read.Goals as goal

pub returns : goal.returns
returns c w items bytes h = whole_outcome h.whole.stream
