use Rattle.gob_c.proofs.StreamLaws.{nothing_said}
use Rattle.gob_c.proofs.streams.put_fault.Goals as goal

pub returns-in-Ok : goal.returns-in-Ok
returns-in-Ok g c = nothing_said c.args.room.now
