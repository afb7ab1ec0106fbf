use Rattle.std.proofs.Common.{refl, arith}
use Rattle.gob_read.proofs.Machine.ItemSteps.{tag_placed}
use Rattle.gob_read.proofs.state.State.take_tag.Goals as goal

pub returns : goal.returns
returns g c = record { each = tag_placed c.requires.expected (omega arith) refl refl refl }
