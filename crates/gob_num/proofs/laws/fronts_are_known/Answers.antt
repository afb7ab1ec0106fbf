use Rattle.gob_num.proofs.PrefixLaws.{prefix_begins, begins_prefix}
use Rattle.gob_num.proofs.laws.fronts_are_known.Goals as goal

pub returns : goal.returns
returns c bytes = (prefix_begins, begins_prefix)
