use Rattle.std.proofs.Common.{arith}
use Rattle.gob_go_writer.proofs.PartSteps.{vector_bytes}
use Rattle.gob_go_writer.proofs.value.write_description.Goals as goal

pub returns-in-Ok-clause-bytes : goal.returns-in-Ok-clause-bytes
returns-in-Ok-clause-bytes c = vector_bytes _ (λ i l. omega (arith, c.type_inv.out i))
