use Rattle.gob_value.proofs.WholeLaws.{tidy_whole}
use Rattle.gob_value.proofs.whole.is_tidy_whole.Goals as goal

pub returns : goal.returns
returns g c = λ found. tidy_whole (c.is_whole_so.ensures found)
