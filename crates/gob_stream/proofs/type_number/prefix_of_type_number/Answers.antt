use Rattle.std.proofs.Common.{arith}
use Rattle.gob_stream.proofs.Reader.NumberSteps.{ended_there}
use Rattle.gob_stream.specs.Machine.ReadParts.{more_of_it}
use Rattle.gob_stream.proofs.type_number.prefix_of_type_number.Goals as goal

pub returns-then-taken-used : goal.returns-then-taken-used
returns-then-taken-used g c = ended_there (omega arith) c.refusal.ensures

pub returns : goal.returns
returns g c = more_of_it (omega arith)
