use Rattle.std.proofs.Common.{refl}
use Rattle.gob_go_writer.proofs.WriterSteps.{nothing_put}
use Rattle.gob_go_writer.proofs.writer.GoWriter.new.Goals as goal

pub returns-clause-nothing : goal.returns-clause-nothing
returns-clause-nothing c = record { sound = refl; whole = nothing_put c.in_ok-new.ensures.has_read }
