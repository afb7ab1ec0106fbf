use Rattle.std.proofs.Common.{arith}
use Rattle.gob_read.proofs.Machine.Held.{held_is}
use Rattle.gob_read.proofs.run.Run.held.Goals as goal

pub returns : goal.returns
returns g c = λ T t z h. held_is g.B.Builder.STORES c.held.result c.held.ensures c.begun.ensures (λ l. omega arith) h
