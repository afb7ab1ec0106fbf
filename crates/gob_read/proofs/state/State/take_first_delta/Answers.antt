use Rattle.std.proofs.Common.{refl}
use Rattle.gob_read.specs.Event.{enter}
use Rattle.gob_read.specs.WellFormed.{a_struct}
use Rattle.gob_read.specs.declared.event.GroupKind.TheVariants as group
use Rattle.gob_read.proofs.Machine.ToldLaws.{begins_in}
use Rattle.gob_read.proofs.Machine.FirstSteps.{can_start}
use Rattle.gob_read.proofs.Machine.ItemSteps.{takes_or_blames}
use Rattle.gob_read.proofs.Machine.FieldSteps.{can_begin_struct, struct_can_go_on, struct_begins}
use Rattle.gob_read.proofs.state.State.take_first_delta.Goals as goal

pub enter-requires : goal.enter-requires
enter-requires g c = can_start (enter group.Fields) refl (can_begin_struct c.requires)
    (a_struct (begins_in c.args.self.now.stack))

pub take_field-requires : goal.take_field-requires
take_field-requires g c = struct_can_go_on c.in_ok-open.ensures c.in_ok-enter.ensures c.requires

pub returns : goal.returns
returns g c = takes_or_blames c.take_field.result (λ moved h. struct_begins c.in_ok-open.ensures c.in_ok-enter.ensures
    h) (λ r h. h) c.take_field.ensures
