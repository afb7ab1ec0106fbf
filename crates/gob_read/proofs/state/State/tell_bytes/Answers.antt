use Rattle.std.proofs.Common.{arith, refl, take}
use Rattle.gob_read.specs.Event.{raw_start}
use Rattle.gob_read.specs.WellFormed.{a_raw_part}
use Rattle.gob_read.specs.Machine.BasicParts.{told_nothing, told_bytes}
use Rattle.gob_read.proofs.Machine.ToldLaws.{begins_in}
use Rattle.gob_read.proofs.Machine.FirstSteps.{can_start}
use Rattle.gob_read.proofs.Machine.ItemSteps.{can_tell_more, can_end_raw}
use Rattle.gob_read.proofs.Machine.BasicPartSteps.{can_take_told}
use Rattle.gob_read.proofs.state.State.tell_bytes.Goals as goal

pub raw_start-requires : goal.raw_start-requires
raw_start-requires g c = can_start (raw_start c.args.raw) refl c.requires.can.begins
    (a_raw_part (begins_in c.args.self.now.stack))

pub raw_more-requires : goal.raw_more-requires
raw_more-requires g c = can_tell_more (take c.args.n c.args.more.now) (can_take_told c.requires.can c.requires.told
    (omega arith) (omega arith) c.in_ok-raw_start.ensures)

pub leave-requires : goal.leave-requires
leave-requires g c = can_end_raw (take c.args.n c.args.more.now) (can_take_told c.requires.can c.requires.told
    (omega arith) (omega arith) c.in_ok-raw_start.ensures) c.in_ok-raw_more.ensures

pub returns : goal.returns
returns g c = told_bytes refl c.requires.told (omega arith) (omega arith) c.in_ok-raw_start.ensures
    c.in_ok-raw_more.ensures c.in_ok-leave.ensures (record { stack = refl; expected = refl })

pub returns-then-n-eq0 : goal.returns-then-n-eq0
returns-then-n-eq0 g c = told_nothing refl
