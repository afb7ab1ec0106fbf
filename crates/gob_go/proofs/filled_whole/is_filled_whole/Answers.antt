use Rattle.std.proofs.Common.{arith, rules}
use Rattle.gob_num.proofs.PublicLaws.{bytes_each}
use Rattle.gob_go.proofs.WholeFilledSteps.{top_whole}
use Rattle.gob_go.proofs.filled_whole.is_filled_whole.Goals as goal

pub returns-in-Some : goal.returns-in-Some
returns-in-Some c = λ same.
    top_whole c.in-Some.end (search rules)
    (bytes_each c.args.body.now (λ i. omega (arith, c.type_inv.body i))) c.in-Some.ensures
