-- A value that holds none is said as one that holds no others.
use Rattle.std.proofs.Common.{arith}
use Rattle.gob_num.proofs.PublicLaws.{bytes_each}
use Rattle.gob_types.specs.Defined.{types}
use Rattle.gob_plain.proofs.FilledTextLaws.{unfilled_body}
use Rattle.gob_plain.proofs.whole_filled.push_filled_text.Goals as goal

pub returns : goal.returns
returns c =
    rw c.into_bytes.ensures.value (unfilled_body c.args.how.tagged c.args.how.style (types c.args.table.now) c.args.id
    c.args.depth c.args.body.now _ (bytes_each c.args.body.now (λ i. omega (arith, c.type_inv.body i)))
    (rw c.in-Some.is at c.in_ok-json.ensures))
