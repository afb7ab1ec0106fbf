use Rattle.gob_counted.proofs.GoLaws.{go_is_countable}
use Rattle.gob_counted.proofs.StrictLaws.{strict_is_countable}
use Rattle.gob_counted.proofs.laws.sessions_are_countable.Goals as goal

pub returns-clause-strict : goal.returns-clause-strict
returns-clause-strict g c = strict_is_countable g.B.Builder.building

pub returns-clause-go : goal.returns-clause-go
returns-clause-go g c = go_is_countable
