use Rattle.std.proofs.Common.{arith}
use Rattle.gob_num.proofs.ConversionLaws.{spells_swapped}
use Rattle.gob_num.proofs.pattern.to_pattern.Goals as goal

pub returns : goal.returns
returns c = spells_swapped c.args.u _ (omega arith) c.swap_bytes.ensures
