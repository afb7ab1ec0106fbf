use Rattle.gob_stream.proofs.Stream.StayLaws.{shown_refusal_stays}
use Rattle.gob_stream.proofs.laws.shown_refusals_stay.Goals as goal

pub returns : goal.returns
returns c = shown_refusal_stays
