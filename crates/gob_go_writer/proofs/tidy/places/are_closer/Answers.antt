use Rattle.std.proofs.Common.{arith}
use Rattle.gob_num.proofs.PublicLaws.{bytes_each}
use Rattle.gob_go_writer.proofs.tidy.places.are_closer.Goals as goal

pub returns-clause-bytes : goal.returns-clause-bytes
returns-clause-bytes c = bytes_each c.args.tidied.now (λ i. omega (arith, c.type_inv.tidied i))
