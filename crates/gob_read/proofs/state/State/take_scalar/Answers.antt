use Rattle.std.proofs.Common.{refl}
use Rattle.gob_read.specs.Event.{number}
use Rattle.gob_read.specs.WellFormed.{a_number}
use Rattle.gob_read.proofs.Machine.ToldLaws.{begins_in}
use Rattle.gob_read.proofs.Machine.Parts.{if_ok, begins_ended, begins_can_end}
use Rattle.gob_read.proofs.Machine.FirstSteps.{can_start, numbers, number_ended}
use Rattle.gob_read.proofs.state.State.take_scalar.Goals as goal

pub number-requires : goal.number-requires
number-requires g c = can_start (number c.args.basic c.args.told 0) refl c.requires
    (a_number (begins_in c.args.self.now.stack) (numbers c.requires.holds))

pub after_part-requires : goal.after_part-requires
after_part-requires g c = begins_can_end (number_ended refl c.in_ok-number.ensures) c.requires

pub returns : goal.returns
returns g c = if_ok c.after_part.result (λ moved e. begins_ended (number_ended refl c.in_ok-number.ensures) e)
    c.after_part.ensures
