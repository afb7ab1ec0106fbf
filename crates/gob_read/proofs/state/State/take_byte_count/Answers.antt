use Rattle.std.proofs.Common.{refl}
use Rattle.gob_read.specs.Event.{raw_start}
use Rattle.gob_read.specs.WellFormed.{a_raw_part, end_of_raw}
use Rattle.gob_read.proofs.Machine.ToldLaws.{begins_in}
use Rattle.gob_read.proofs.Machine.Parts.{if_ok, begins_ended, begins_can_end}
use Rattle.gob_read.proofs.Machine.FirstSteps.{can_start, can_stop, length_ended, length_placed}
use Rattle.gob_read.proofs.state.State.take_byte_count.Goals as goal

pub raw_start-requires : goal.raw_start-requires
raw_start-requires g c = can_start (raw_start c.args.kind) refl c.requires
    (a_raw_part (begins_in c.args.self.now.stack))

pub leave-requires : goal.leave-requires
leave-requires g c = can_stop (raw_start c.args.kind) refl c.requires (a_raw_part (begins_in c.args.self.now.stack))
    end_of_raw c.in_ok-raw_start.ensures

pub after_part-requires : goal.after_part-requires
after_part-requires g c = begins_can_end (length_ended refl c.in_ok-raw_start.ensures c.in_ok-leave.ensures
    c.if-n-eq0.true) c.requires

pub returns-then-n-eq0 : goal.returns-then-n-eq0
returns-then-n-eq0 g c =
    if_ok c.after_part.result
    (λ moved e. begins_ended (length_ended refl c.in_ok-raw_start.ensures c.in_ok-leave.ensures c.if-n-eq0.true) e)
    c.after_part.ensures

pub returns : goal.returns
returns g c = record { each = length_placed refl refl c.in_ok-raw_start.ensures c.if-n-eq0.false }
