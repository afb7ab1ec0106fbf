use Rattle.std.proofs.Common.{arith, refl}
use Rattle.gob_num.proofs.PublicLaws.{bytes_each}
use Rattle.gob_salvage.proofs.SearchLaws.{value_so}
use Rattle.gob_salvage.proofs.search.Search.look_at.Goals as goal

pub returns-in-Some-clause-value : goal.returns-in-Some-clause-value
returns-in-Some-clause-value c = λ kept noted.
    value_so kept c.args.piece.now c.value_there.result
    (bytes_each c.args.piece.now (λ i. omega (arith, c.type_inv.piece i))) refl c.in-Some.ensures
    (c.value_there.ensures.known kept noted) c.value_there.ensures.whole
