use Rattle.std.proofs.Common.{arith}
use Rattle.gob_num.proofs.TakenLaws.{digits_taken}
use Rattle.gob_num.proofs.unsigned.known_digits.Goals as goal

pub returns-clause-taken : goal.returns-clause-taken
returns-clause-taken c = λ p.
    digits_taken c.args.head c.digits_after-count.result c.from.result c.from-2.result c.from_be_bytes.result
    c.args.digits.now c.told-digits c.fits-digits c.requires (omega arith) c.digits_after-count.ensures c.from.ensures
    c.from-2.ensures p c.from_be_bytes.ensures
