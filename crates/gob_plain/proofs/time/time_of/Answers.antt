-- The clock and the zone are those of the time.
use Rattle.std.proofs.Common.{◌∙◌, IsTrue, rules}
use Rattle.std.specs.Int.{w128}
use Rattle.std.proofs.lemmas.Int.{to_z-of_z}
use Rattle.gob_plain.proofs.time.time_of.Goals as goal

pub returns : goal.returns
returns c =
    let shown : IsTrue c.is_shown.result = search rules in (
      c.is_shown.ensures.0 shown,
      c.from_nanosecond_in_range.ensures ∙ to_z-of_z w128 c.clock_nanos.result (search rules) ∙ c.clock_nanos.ensures,
      c.zone_of.ensures,
    )
