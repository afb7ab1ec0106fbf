use Rattle.gob_value.proofs.JudgedLaws.{judged, not_both, one_reason}
use Rattle.gob_value.proofs.laws.descriptions_are_judged.Goals as goal

pub returns-clause-either : goal.returns-clause-either
returns-clause-either c = judged

pub returns-clause-not_both : goal.returns-clause-not_both
returns-clause-not_both c id v s r d = not_both d

pub returns-clause-one : goal.returns-clause-one
returns-clause-one c id v r q m n = one_reason m n
