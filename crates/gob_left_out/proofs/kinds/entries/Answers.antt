use Rattle.gob_left_out.proofs.KindLaws.{map_parts}
use Rattle.gob_left_out.proofs.kinds.entries.Goals as goal

pub returns : goal.returns
returns c = map_parts c.in-Map.is c.pair_of.ensures c.pair_of-2.ensures
