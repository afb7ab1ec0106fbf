use Rattle.gob_go_lines.proofs.OnceLaws.{put_once}
use Rattle.gob_go_lines.proofs.laws.lines_say_one_value.Goals as goal

pub returns : goal.returns
returns c = λ T H limit ts id other b c few p q. put_once few p q
