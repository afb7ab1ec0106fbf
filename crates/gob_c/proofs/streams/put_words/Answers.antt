use Rattle.gob_c.proofs.StreamLaws.{nothing_said}
use Rattle.gob_c.proofs.streams.put_words.Goals as goal

pub returns : goal.returns
returns g c = nothing_said c.args.room.now
