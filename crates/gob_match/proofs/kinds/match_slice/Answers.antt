use Rattle.gob_match.proofs.KindLaws.{others_clash, slices_convert}
use Rattle.gob_match.proofs.kinds.match_slice.Goals as goal

pub returns-in-Slice : goal.returns-in-Slice
returns-in-Slice c = slices_convert c.in-Slice.is c.pair_of.ensures

pub returns-in_default : goal.returns-in_default
returns-in_default c = others_clash _ c.args.wanted.now c.in_default.not-Slice
