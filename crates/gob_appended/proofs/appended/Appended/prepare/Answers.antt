use Rattle.std.proofs.Common.{refl}
use Rattle.std.proofs.KnownBytes.{Keeps-refl}
use Rattle.gob_appended.proofs.appended.Appended.prepare.Goals as goal

pub loop-init : goal.loop-init
loop-init g c = record { bytes = Keeps-refl _; offsets = λ input given h. h; memory = refl }
