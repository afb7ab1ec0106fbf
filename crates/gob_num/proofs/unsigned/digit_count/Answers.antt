use Rattle.std.proofs.Common.{arith}
use Rattle.gob_num.proofs.WrittenLaws.{enough_digits, least_digits}
use Rattle.gob_num.proofs.unsigned.digit_count.Goals as goal

pub returns-clause-enough : goal.returns-clause-enough
returns-clause-enough c = enough_digits c.args.n (omega arith)

pub returns-clause-least : goal.returns-clause-least
returns-clause-least c = least_digits c.args.n (omega arith) c.requires
