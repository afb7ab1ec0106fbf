use Rattle.std.proofs.Common.{arith}
use Rattle.gob_read.proofs.Machine.Runs.{judged_deep, judged_short}
use Rattle.gob_read.proofs.run.Run.judge.Goals as goal

pub returns-then-depth_now-self-clause-judged : goal.returns-then-depth_now-self-clause-judged
returns-then-depth_now-self-clause-judged g c = rw c.refuse.ensures (λ T. judged_deep (omega arith))

pub returns-then-self-clause-judged : goal.returns-then-self-clause-judged
returns-then-self-clause-judged g c = rw c.refuse-then-self.ensures (λ T. judged_short (omega arith) c.if-self.true)
