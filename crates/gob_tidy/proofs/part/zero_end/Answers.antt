use Rattle.gob_tidy.proofs.DroppedLaws.{zero_stands}
use Rattle.gob_tidy.proofs.part.zero_end.Goals as goal

pub returns-clause-stands : goal.returns-clause-stands
returns-clause-stands c = zero_stands c.args.body.now c.args.at (c.is_zero_at.ensures.zero c.if-not-is_zero_at.false)
