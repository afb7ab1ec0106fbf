-- The blank line, where one was told.
use Rattle.std.proofs.Common.{rules}
use Rattle.gob_progress.proofs.TellingLaws.{tells_blank, tells_nothing}
use Rattle.gob_progress.proofs.meter.Meter.end.Goals as goal

pub returns-then-is_some-clause-told : goal.returns-then-is_some-clause-told
returns-then-is_some-clause-told g c = tells_blank _ _ _ _ c.write.result _ (search rules) c.write.ensures.bytes

pub returns-else-is_some-clause-told : goal.returns-else-is_some-clause-told
returns-else-is_some-clause-told g c = tells_nothing _ _ _
