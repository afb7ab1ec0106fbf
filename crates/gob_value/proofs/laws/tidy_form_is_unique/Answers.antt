use Rattle.gob_value.proofs.TidyLaws.{one_tidy, tidy_form}
use Rattle.gob_value.proofs.laws.tidy_form_is_unique.Goals as goal

pub returns-clause-one : goal.returns-clause-one
returns-clause-one c T t v w x p q = one_tidy p q

pub returns-clause-some : goal.returns-clause-some
returns-clause-some c T t v f = tidy_form f.spelled
