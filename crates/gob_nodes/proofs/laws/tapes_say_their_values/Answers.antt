use Rattle.gob_nodes.proofs.TapeLaws.{top_says}
use Rattle.gob_nodes.proofs.laws.tapes_say_their_values.Goals as goal

pub returns : goal.returns
returns c = λ T t limit tape v b means spelled deep. top_says tape spelled means.parts deep
