-- A slice without elements begins with a byte 0.
use Rattle.gob_value.proofs.KeptLaws.{kept_at}
use Rattle.gob_value.proofs.whole.is_dropped_at.Goals as goal

pub returns-in-Slice : goal.returns-in-Slice
returns-in-Slice c = λ kept. kept_at c.args.kind.now c.args.body.now c.args.at (c.is_zero_at.ensures kept)
