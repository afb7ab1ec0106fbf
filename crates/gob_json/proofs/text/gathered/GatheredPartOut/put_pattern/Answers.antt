-- The pattern waits behind what was gathered.
use Rattle.gob_json.proofs.GatheredLaws.{gathered_on, gathered_failed}
use Rattle.gob_json.proofs.text.gathered.GatheredPartOut.put_pattern.Goals as goal

pub returns : goal.returns
returns g c = (
  c.in_ok-make_room.ensures.same,
  gathered_on g.O.TextOut.puts _ c.in_ok-make_room.ensures.put c.add_pattern.ensures,
)

pub returns-in_err-make_room : goal.returns-in_err-make_room
returns-in_err-make_room g c = (
  c.in_err-make_room.ensures.same,
  gathered_failed g.O.TextOut.puts g.met.O.TextOut.cut _ _ _ _ _ c.from_residual.result c.from_residual.ensures.1
      c.in_err-make_room.ensures.put,
)
