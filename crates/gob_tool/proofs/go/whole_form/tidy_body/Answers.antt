use Rattle.std.proofs.Common.{arith}
use Rattle.gob_go_writer.proofs.PartSteps.{vector_bytes}
use Rattle.gob_tool.proofs.go.whole_form.tidy_body.Goals as goal

pub returns-clause-bytes : goal.returns-clause-bytes
returns-clause-bytes c = vector_bytes _ (λ i l. omega (arith, c.type_inv.tidied i))
