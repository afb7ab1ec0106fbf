use Rattle.std.proofs.Common.{arith, rules}
use Rattle.gob_num.proofs.TakenLaws.{not_padded}
use Rattle.gob_num.proofs.unsigned.take_digits.Goals as goal

pub returns : goal.returns
returns c =
    c.known_digits-number.ensures.taken (not_padded c.args.head c.digits_after.result c.args.digits.now
    (omega (arith, c.told-digits)) (omega (arith, c.digits_after.ensures))
    (λ n. search (rules, c.is_padded.ensures, c.if-is_padded.false)))
