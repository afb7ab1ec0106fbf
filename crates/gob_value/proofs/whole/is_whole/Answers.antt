use Rattle.gob_value.proofs.WholeLaws.{whole_as}
use Rattle.gob_value.proofs.whole.is_whole.Goals as goal

pub returns : goal.returns
returns g c = λ found. whole_as (c.is_whole_so.ensures found)
