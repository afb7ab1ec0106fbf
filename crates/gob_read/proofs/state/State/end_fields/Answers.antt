use Rattle.std.proofs.Common.{refl}
use Rattle.gob_read.proofs.Machine.Parts.{if_ok}
use Rattle.gob_read.proofs.Machine.FieldSteps.{can_end_struct, struct_can_end, struct_goes_on}
use Rattle.gob_read.proofs.state.State.end_fields.Goals as goal

pub leave-requires : goal.leave-requires
leave-requires g c = can_end_struct c.requires.goes_on

pub after_part-requires : goal.after_part-requires
after_part-requires g c = struct_can_end c.close.ensures c.in_ok-leave.ensures refl c.requires.goes_on

pub returns : goal.returns
returns g c = if_ok c.after_part.result (λ moved e. record {
  each = λ id types next. struct_goes_on c.close.ensures
      c.in_ok-leave.ensures refl e;
}) c.after_part.ensures
