use Rattle.std.proofs.Common.{subst}
use Rattle.std.proofs.lemmas.Result.{IfOk-from_err}
use Rattle.gob_types.specs.Ready.{HasFieldOf}
use Rattle.gob_value.proofs.description.struct_type.Goals as goal

pub field_types-requires : goal.field_types-requires
field_types-requires c = λ u h. c.requires u (subst (λ fs. HasFieldOf fs u) c.as_slice-fields.ensures h)

pub returns-in_err-given-clause-described : goal.returns-in_err-given-clause-described
returns-in_err-given-clause-described c = IfOk-from_err c.from_residual.result _ c.from_residual.ensures.0

pub returns-in_err-given-clause-counted : goal.returns-in_err-given-clause-counted
returns-in_err-given-clause-counted c = IfOk-from_err c.from_residual.result _ c.from_residual.ensures.0

pub returns-in_err-field_types-clause-described : goal.returns-in_err-field_types-clause-described
returns-in_err-field_types-clause-described c = IfOk-from_err c.from_residual-in_err-field_types.result _
    c.from_residual-in_err-field_types.ensures.0

pub returns-in_err-field_types-clause-counted : goal.returns-in_err-field_types-clause-counted
returns-in_err-field_types-clause-counted c = IfOk-from_err c.from_residual-in_err-field_types.result _
    c.from_residual-in_err-field_types.ensures.0

pub returns-in_err-push-clause-described : goal.returns-in_err-push-clause-described
returns-in_err-push-clause-described c = IfOk-from_err c.from_residual-in_err-push.result _
    c.from_residual-in_err-push.ensures.0

pub returns-in_err-push-clause-counted : goal.returns-in_err-push-clause-counted
returns-in_err-push-clause-counted c = IfOk-from_err c.from_residual-in_err-push.result _
    c.from_residual-in_err-push.ensures.0
