use Rattle.gob_stream.proofs.Reader.HonestLaws.{outcome_honest}
use Rattle.gob_stream.proofs.laws.places_are_honest.Goals as goal

pub returns : goal.returns
returns c = outcome_honest
