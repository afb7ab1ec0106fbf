use Rattle.gob_value.proofs.TidyLaws.{no_deeper}
use Rattle.gob_value.proofs.laws.tidy_form_is_no_deeper.Goals as goal

pub returns : goal.returns
returns c T t v w p = no_deeper p
