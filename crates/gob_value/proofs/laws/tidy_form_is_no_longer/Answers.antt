use Rattle.gob_value.proofs.LengthLaws.{spelled_no_longer}
use Rattle.gob_value.proofs.laws.tidy_form_is_no_longer.Goals as goal

pub returns : goal.returns
returns c T t v w a b p q r = spelled_no_longer p q r
