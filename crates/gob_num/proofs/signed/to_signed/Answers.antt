use Rattle.std.proofs.Common.{arith}
use Rattle.std.proofs.lemmas.Int.{ints}
use Rattle.gob_num.proofs.ConversionLaws.{even_signed, odd_signed}
use Rattle.gob_num.proofs.signed.to_signed.Goals as goal

pub returns-then-u-eq0 : goal.returns-then-u-eq0
returns-then-u-eq0 c = even_signed c.args.u _ (omega arith) (omega (arith, ints))

pub returns-else-u-eq0 : goal.returns-else-u-eq0
returns-else-u-eq0 c = odd_signed c.args.u _ (omega arith) (omega (arith, ints))
