use Rattle.gob_lines.proofs.ShownLaws.{shape_shown}
use Rattle.gob_lines.proofs.laws.shown_lines_say_the_shape.Goals as goal

pub returns : goal.returns
returns c = λ id s d small. shape_shown id s d small
