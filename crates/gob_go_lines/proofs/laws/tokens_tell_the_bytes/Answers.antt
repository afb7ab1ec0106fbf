use Rattle.gob_go_lines.proofs.OnceLaws.{tokens_once}
use Rattle.gob_go_lines.proofs.laws.tokens_tell_the_bytes.Goals as goal

pub returns : goal.returns
returns c = λ T H t limit j k b c x y few p q same. tokens_once x y few p q same
