use Rattle.std.proofs.Common.{arith}
use Rattle.gob_num.proofs.PublicLaws.{bytes_each}
use Rattle.gob_go.proofs.ValuesSteps.{unfilled_before}
use Rattle.gob_go.proofs.values.next_values.Goals as goal

pub returns-then-unfilled-gt0 : goal.returns-then-unfilled-gt0
returns-then-unfilled-gt0 c =
    unfilled_before c.args.piece.now (bytes_each c.args.piece.now (λ i. omega (arith, c.type_inv.piece i)))
    c.whole_values-unfilled.ensures
