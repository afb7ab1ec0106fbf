use Rattle.gob_go_lines.proofs.FilledLaws.{value_says}
use Rattle.gob_go_lines.proofs.laws.filled_values_are_said.Goals as goal

pub returns : goal.returns
returns c = λ base L T H t limit w v N b spelled nothing holds shows. (value_says H spelled nothing holds shows).1
