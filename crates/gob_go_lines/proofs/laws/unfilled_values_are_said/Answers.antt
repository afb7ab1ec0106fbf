use Rattle.gob_go_lines.proofs.UnfilledLaws.{top_says}
use Rattle.gob_go_lines.proofs.laws.unfilled_values_are_said.Goals as goal

pub returns : goal.returns
returns c = λ T H t limit v b spelled holds within. top_says spelled holds within
