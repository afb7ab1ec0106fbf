use Rattle.std.proofs.Common.{refl}
use Rattle.gob_read.proofs.Machine.Parts.{if_ok}
use Rattle.gob_read.proofs.Machine.ItemSteps.{can_tell_second, second_ended, second_can_end}
use Rattle.gob_read.proofs.state.State.take_imaginary.Goals as goal

pub number-requires : goal.number-requires
number-requires g c = can_tell_second c.to_pattern.result c.requires

pub after_part-requires : goal.after_part-requires
after_part-requires g c = second_can_end refl c.in_ok-number.ensures c.to_pattern.ensures c.requires

pub returns : goal.returns
returns g c = if_ok c.after_part.result
    (λ moved h. record {
      each = λ T t p r d b n. h.each T t _ (second_ended c.requires.expected refl
          c.in_ok-number.ensures c.to_pattern.ensures T t p r d b n);
    }) c.after_part.ensures
