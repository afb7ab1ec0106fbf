use Rattle.gob_value.proofs.TidyFits.{tidy_fits}
use Rattle.gob_value.proofs.laws.tidy_form_fits.Goals as goal

pub returns : goal.returns
returns c T t v w f h p = tidy_fits f.spelled p h
