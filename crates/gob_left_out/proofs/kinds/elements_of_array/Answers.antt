use Rattle.gob_left_out.proofs.KindLaws.{array_parts}
use Rattle.gob_left_out.proofs.kinds.elements_of_array.Goals as goal

pub returns : goal.returns
returns c = array_parts c.in-Array.is c.pair_of.ensures
