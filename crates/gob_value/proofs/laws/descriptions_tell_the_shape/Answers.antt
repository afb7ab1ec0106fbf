use Rattle.gob_value.proofs.DescribedLaws.{describes}
use Rattle.gob_value.proofs.JudgedLaws.{one_shape}
use Rattle.gob_value.proofs.laws.descriptions_tell_the_shape.Goals as goal

pub returns-clause-back : goal.returns-clause-back
returns-clause-back c = describes

pub returns-clause-one : goal.returns-clause-one
returns-clause-one c id v r s d e = one_shape d e
