use Rattle.gob_match.proofs.HaveLaws.{have}
use Rattle.gob_match.proofs.UniqueLaws.{one}
use Rattle.gob_match.proofs.laws.values_are_received.Goals as goal

pub returns-clause-some : goal.returns-clause-some
returns-clause-some c T U t u v m f = have m.closed f.spelled m.holds

pub returns-clause-one : goal.returns-clause-one
returns-clause-one c T U t u v w x m f p q = one m.closed f.spelled m.holds p q
