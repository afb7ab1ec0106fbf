-- No zero is nil.
use Rattle.gob_plain.proofs.NilLaws.{filled_nils}
use Rattle.gob_plain.proofs.laws.zeros_hold_no_nils.Goals as goal

pub returns : goal.returns
returns c = filled_nils
