-- One event has its text.
use Rattle.std.proofs.Common.{refl}
use Rattle.gob_value.specs.Tree as Value
use Rattle.gob_walk.specs.Event as event
use Rattle.gob_json.proofs.EventLaws.{told_one}
use Rattle.gob_json.proofs.text.exact.ExactVisitor.text.Goals as goal

pub returns : goal.returns
returns g c = (refl, told_one g.O.TextOut.puts (event.leaf (Value.text c.args.bytes.now)) c.put_text.ensures)
