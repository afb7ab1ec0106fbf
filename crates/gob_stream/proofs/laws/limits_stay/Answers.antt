use Rattle.gob_stream.proofs.Reader.HasReadLaws.{limits_stay}
use Rattle.gob_stream.proofs.laws.limits_stay.Goals as goal

pub returns : goal.returns
returns c = limits_stay
