use Rattle.std.proofs.Common.{refl}
use Rattle.gob_stream.proofs.Stream.StreamLaws.{one_reading}
use Rattle.gob_stream.proofs.laws.streams_have_one_reading.Goals as goal

pub returns : goal.returns
returns c = λ base L items others bytes T U p q. one_reading p q refl
