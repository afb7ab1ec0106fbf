use Rattle.gob_match.proofs.KindLaws.{others_clash, arrays_convert, lengths_clash}
use Rattle.gob_match.proofs.kinds.match_array.Goals as goal

pub returns-in_default : goal.returns-in_default
returns-in_default c = others_clash _ c.args.wanted.now c.in_default.not-Array

pub returns-then-len-other_len : goal.returns-then-len-other_len
returns-then-len-other_len c = arrays_convert c.in-Array.is c.if-len-other_len.true c.pair_of.ensures

pub returns-else-len-other_len : goal.returns-else-len-other_len
returns-else-len-other_len c = lengths_clash c.in-Array.is c.if-len-other_len.false
