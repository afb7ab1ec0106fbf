use Rattle.std.proofs.Common.{arith, refl}
use Rattle.gob_read.proofs.Machine.Runs.{open_in}
use Rattle.gob_read.proofs.Machine.BasicPartSteps.{can_end_fields, end_steps}
use Rattle.gob_read.proofs.run.Run.take_end.Goals as goal

pub end_fields-requires : goal.end_fields-requires
end_fields-requires g c = can_end_fields c.requires.before.before.expected (open_in c.requires.before) c.requires.fresh
    (omega arith)

pub returns-clause-taken : goal.returns-clause-taken
returns-clause-taken g c = end_steps c.requires.before.before.expected (open_in c.requires.before) c.requires.fresh
    c.in_ok-moved.ensures (record { taken = refl; start = refl; number = refl; length_is = refl; depth_is = refl })
