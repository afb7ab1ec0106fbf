use Rattle.gob_stream.proofs.Stream.StreamLaws.{wider}
use Rattle.gob_stream.proofs.laws.streams_stay.Goals as goal

pub returns : goal.returns
returns c = λ base L M items bytes T. wider
