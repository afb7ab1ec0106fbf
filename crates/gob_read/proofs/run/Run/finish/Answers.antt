use Rattle.gob_read.proofs.Machine.Runs.{finished_extra}
use Rattle.gob_read.proofs.run.Run.finish.Goals as goal

pub returns-then-self-clause-ended : goal.returns-then-self-clause-ended
returns-then-self-clause-ended g c = rw c.refuse.ensures (finished_extra c.if-self.true)
