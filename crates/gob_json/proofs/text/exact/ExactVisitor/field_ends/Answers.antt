-- One event has its text.
use Rattle.std.proofs.Common.{refl}
use Rattle.gob_walk.specs.Event as event
use Rattle.gob_json.proofs.EventLaws.{told_one}
use Rattle.gob_json.proofs.text.exact.ExactVisitor.field_ends.Goals as goal

pub returns : goal.returns
returns g c = (refl, told_one g.O.TextOut.puts event.field_ends c.put_mark.ensures)
