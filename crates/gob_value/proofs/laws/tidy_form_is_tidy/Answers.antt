use Rattle.gob_value.proofs.TidyLaws.{tidy_again}
use Rattle.gob_value.proofs.laws.tidy_form_is_tidy.Goals as goal

pub returns : goal.returns
returns c T t v w p = tidy_again p
