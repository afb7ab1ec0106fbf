use Rattle.std.proofs.Common.{◌≡◌, drop}
use Rattle.gob_value.specs.View.{field_views}
use Rattle.gob_all.specs.LookUps.{field_at}
use Rattle.gob_all.proofs.look_ups.part_in.Given as goal

-- what is found from here on is what is found in all
abbrev pub invariant-loop-at : goal.invariant-loop-at
invariant-loop-at l = field_at l.number (field_views (drop l.at-index l.present))
    ≡ field_at l.number (field_views l.present)
