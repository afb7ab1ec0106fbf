use Rattle.std.proofs.Common.{refl}
use Rattle.gob_c.specs.Writing.{isn't_open}
use Rattle.gob_c.proofs.writing.gob_raw_writer_open.Goals as goal

pub returns-in-Err : goal.returns-in-Err
returns-in-Err c = isn't_open c.in-Err.fault c.of_opening.ensures refl
