use Rattle.gob_lines.proofs.ShownLaws.{value_shown}
use Rattle.gob_lines.proofs.laws.shown_lines_say_the_value.Goals as goal

pub returns : goal.returns
returns c = λ T t v few small p. value_shown few small p.fits.spelled
