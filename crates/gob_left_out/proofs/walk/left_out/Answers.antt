use Rattle.gob_left_out.proofs.NoteLaws.{left_out_at}
use Rattle.gob_left_out.proofs.walk.left_out.Goals as goal

pub returns : goal.returns
returns g c = left_out_at c.new.ensures.items c.new-2.ensures c.in_ok-walk_value.ensures
