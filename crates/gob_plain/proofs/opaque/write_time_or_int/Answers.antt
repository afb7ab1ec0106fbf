-- The time that is written is that of the bytes.
use Rattle.gob_plain.specs.BigInt.{SaysInt}
use Rattle.gob_plain.proofs.TimeLaws.{time_said}
use Rattle.gob_plain.proofs.opaque.write_time_or_int.Goals as goal

pub returns-in-Some : goal.returns-in-Some
returns-in-Some c =
    time_said (SaysInt c.args.bytes.now) c.args.bytes.now c.in-Some.time c.in-Some.ensures c.write_moment.ensures
