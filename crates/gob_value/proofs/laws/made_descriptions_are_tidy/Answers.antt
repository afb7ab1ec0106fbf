use Rattle.std.proofs.Common.{arith}
use Rattle.gob_value.proofs.DescribedTidy.{described_tidy}
use Rattle.gob_value.proofs.laws.made_descriptions_are_tidy.Goals as goal

pub returns : goal.returns
returns c t s d own = described_tidy t s d (omega (arith, own.0))
