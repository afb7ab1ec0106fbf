use Rattle.gob_c.proofs.StreamLaws.{nothing_said}
use Rattle.gob_c.proofs.converting.put_stop.Goals as goal

pub returns-in-Ok : goal.returns-in-Ok
returns-in-Ok c = nothing_said c.args.room.now
