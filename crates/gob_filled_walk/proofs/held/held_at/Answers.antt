-- A name, the number of a type, and a count.
use Rattle.std.proofs.Common.{arith}
use Rattle.gob_filled_walk.proofs.WalkLaws.{held_stands}
use Rattle.gob_filled_walk.proofs.held.held_at.Goals as goal

pub returns-clause-begins : goal.returns-clause-begins
returns-clause-begins c =
    held_stands c.args.body.now c.in_ok-size.ensures.stands (omega arith) c.in_ok-name.ensures.bytes
    c.in_ok-name.ensures.end c.in_ok-name.ensures.enough c.in_ok-number.ensures.stands c.in_ok-id.ensures.number
    c.in_ok-id.ensures.may c.in_ok-count.ensures.stands c.in_ok-_value.ensures.end
