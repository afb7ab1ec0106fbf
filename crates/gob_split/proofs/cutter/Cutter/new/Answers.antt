use Rattle.std.proofs.Common.{rules, refl}
use Rattle.gob_split.specs.Split.{no_parts}
use Rattle.gob_split.proofs.cutter.Cutter.new.Goals as goal

pub returns : goal.returns
returns c = record { size = refl; split = no_parts; defining = search rules; counts = tt }
