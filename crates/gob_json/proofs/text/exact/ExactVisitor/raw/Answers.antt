-- One event has its text.
use Rattle.std.proofs.Common.{refl, None}
use Rattle.gob_walk.specs.Event as event
use Rattle.gob_json.proofs.EventLaws.{told_one}
use Rattle.gob_json.proofs.text.exact.ExactVisitor.raw.Goals as goal

pub returns : goal.returns
returns g c = (refl, told_one g.O.TextOut.puts (event.raw None c.args.bytes.now) c.put_opaque.ensures)
