use Rattle.gob_go_lines.proofs.ToldLaws.{told_says}
use Rattle.gob_go_lines.proofs.laws.told_values_are_said.Goals as goal

pub returns : goal.returns
returns c = λ L T H limit ts id b ready small told. told_says L ready small told
