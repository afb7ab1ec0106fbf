use Rattle.gob_join.proofs.TakingLaws.{none_stands}
use Rattle.gob_join.proofs.taking.KnownTypes.new.Goals as goal

pub returns : goal.returns
returns c = λ T U. none_stands c.new-renaming.ensures
