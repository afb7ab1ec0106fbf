use Rattle.std.proofs.Common.{refl}
use Rattle.gob_value.specs.View.{views}
use Rattle.gob_value.specs.Description.{said_struct, said_fields, gives_struct}
use Rattle.gob_value.specs.ShapeFaults.{IsKindFault}
use Rattle.gob_value.specs.declared.fault.ShapeFault.TheVariants as fault
use Rattle.gob_value.proofs.TestSteps.{not_true}
use Rattle.gob_value.proofs.JudgedLaws.{bad_field, struct_given, fault_at}
use Rattle.gob_value.proofs.described_shape.struct_from.Goals as goal

pub returns-then-not-have_types-clause-fault : goal.returns-then-not-have_types-clause-fault
returns-then-not-have_types-clause-fault c = bad_field _ (not_true c.if-not-have_types.true c.have_types.ensures)

pub returns-in_err-fields-clause-fault : goal.returns-in_err-fields-clause-fault
returns-in_err-fields-clause-fault c = fault_at (IsKindFault (said_struct (said_fields (views c.args.field_types.now))))
    c.from_residual.result fault.Memory c.from_residual.ensures.1 (struct_given (c.if-not-have_types.ensures.0 refl))

pub returns-clause-kind : goal.returns-clause-kind
returns-clause-kind c = gives_struct c.in_ok-fields.ensures
