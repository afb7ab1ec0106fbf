use Rattle.gob_read.proofs.Grammar.Stops.{prefix_stands}
use Rattle.gob_read.proofs.Grammar.Taken.{standing_prefix}
use Rattle.gob_read.proofs.laws.fronts_expect_more.Goals as goal

pub returns-clause-more : goal.returns-clause-more
returns-clause-more c T t z h = prefix_stands h

pub returns-clause-prefix : goal.returns-clause-prefix
returns-clause-prefix c T t z l r h = standing_prefix l r h
