-- What the meter tells, where bytes were read.
use Rattle.gob_progress.proofs.TellingLaws.{tells_nothing}
use Rattle.gob_progress.proofs.watched.WatchedRead.read.Goals as goal

pub returns-in_default-clause-told : goal.returns-in_default-clause-told
returns-in_default-clause-told g c = tells_nothing _ _ _
