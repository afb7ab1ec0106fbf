use Rattle.gob_lines.proofs.ShapeLaws.{definition_once}
use Rattle.gob_lines.proofs.laws.definition_lines_tell_the_shape.Goals as goal

pub returns : goal.returns
returns c = λ i j s t all x y p q said other. definition_once x y p q said other
