-- A value that holds none is said as one that holds no others.
use Rattle.std.proofs.Common.{arith}
use Rattle.std.specs.Prelude.{string_bytes}
use Rattle.gob_num.proofs.PublicLaws.{bytes_each}
use Rattle.gob_types.specs.Defined.{types}
use Rattle.gob_plain.proofs.FilledTextLaws.{unfilled_text}
use Rattle.gob_plain.proofs.whole_filled.filled_text_of.Goals as goal

pub returns-then-not-may_be_told : goal.returns-then-not-may_be_told
returns-then-not-may_be_told c =
    unfilled_text c.args.how.tagged c.args.how.style (types c.args.table.now) c.args.id c.args.depth c.args.body.now
    (λ text. string_bytes text) (bytes_each c.args.body.now (λ i. omega (arith, c.type_inv.body i)))
    c.plain_text_of.result c.plain_text_of.ensures
