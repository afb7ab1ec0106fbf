use Rattle.gob_num.proofs.PrefixLaws.{begin_somehow, begin_one_way}
use Rattle.gob_num.proofs.laws.bytes_begin_in_one_way.Goals as goal

pub returns-clause-somehow : goal.returns-clause-somehow
returns-clause-somehow c = begin_somehow

pub returns-clause-one_way : goal.returns-clause-one_way
returns-clause-one_way c = begin_one_way
