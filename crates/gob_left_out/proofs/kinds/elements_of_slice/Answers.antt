use Rattle.gob_left_out.proofs.KindLaws.{slice_parts}
use Rattle.gob_left_out.proofs.kinds.elements_of_slice.Goals as goal

pub returns : goal.returns
returns c = slice_parts c.in-Slice.is c.pair_of.ensures
