use Rattle.gob_write.proofs.ShownSaidLaws.{none_read}
use Rattle.gob_write.proofs.shown.ShownWriter.said.Goals as goal

pub returns-in-Ok-clause-none : goal.returns-in-Ok-clause-none
returns-in-Ok-clause-none c =
    let whole = rw (c.table.ensures, c.in-Ok.ensures.cases.0) at c.read_go_line.ensures.whole in
    none_read c.read_go_line.result _ whole
