use Rattle.std.proofs.Common.{arith}
use Rattle.std.proofs.lemmas.Int.{ints}
use Rattle.gob_num.proofs.ConversionLaws.{twice_signed, below_signed}
use Rattle.gob_num.proofs.signed.to_unsigned.Goals as goal

pub returns-then-i-lt0 : goal.returns-then-i-lt0
returns-then-i-lt0 c = below_signed c.args.i _ (omega (arith, ints)) (omega (arith, ints))

pub returns-else-i-lt0 : goal.returns-else-i-lt0
returns-else-i-lt0 c = twice_signed c.args.i _ (omega (arith, ints)) (omega (arith, ints))
