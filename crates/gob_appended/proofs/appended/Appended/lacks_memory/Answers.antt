use Rattle.std.proofs.Common.{refl}
use Rattle.gob_appended.proofs.appended.Appended.lacks_memory.Goals as goal

pub returns : goal.returns
returns g c = refl
