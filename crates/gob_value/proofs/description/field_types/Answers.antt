use Rattle.std.proofs.Common.{arith, refl, length}
use Rattle.std.proofs.lemmas.Option.{slice_get_read}
use Rattle.std.proofs.lemmas.Result.{IfOk-from_err}
use Rattle.gob_value.proofs.DescriptionSteps.{types_more, types_all, counted_more, counted_all}
use Rattle.gob_value.proofs.description.field_types.Goals as goal

pub loop-field-preserved : goal.loop-field-preserved
loop-field-preserved c =
    let fields = c.args.fields.now in
    let i = c.loop-field.field-index in
    let f = c.field-item.result in
    let there = slice_get_read fields (length fields) i f refl c.loop-field-test.true c.field-item.is in
    let reference = c.requires f.id (record { number = i; field = f; there = there; type = refl }) in
    let f_described = c.in_ok-name_and_id.ensures.described (omega arith) in (
      types_more c.loop-field.types.items c.push.new.self.items fields i f c.in_ok-name_and_id.field-0
          c.loop-field.invariant.0 c.field-item.is c.loop-field-test.true
          f_described c.in_ok-push.ensures.items,
      counted_more fields i f c.loop-field.invariant.1 c.field-item.is c.loop-field-test.true
          c.in_ok-name_and_id.ensures.counted,
    )

pub returns-clause-described : goal.returns-clause-described
returns-clause-described c = types_all c.loop-field.types.items c.args.fields.now c.loop-field.field-index
    c.loop-field.invariant.0 c.loop-field-test.false

pub returns-clause-counted : goal.returns-clause-counted
returns-clause-counted c = counted_all c.args.fields.now c.loop-field.field-index c.loop-field.invariant.1
    c.loop-field-test.false

pub returns-in_err-name_and_id-clause-described : goal.returns-in_err-name_and_id-clause-described
returns-in_err-name_and_id-clause-described c = IfOk-from_err c.from_residual.result _ c.from_residual.ensures.0

pub returns-in_err-name_and_id-clause-counted : goal.returns-in_err-name_and_id-clause-counted
returns-in_err-name_and_id-clause-counted c = IfOk-from_err c.from_residual.result _ c.from_residual.ensures.0

pub returns-in_err-push-clause-described : goal.returns-in_err-push-clause-described
returns-in_err-push-clause-described c = IfOk-from_err c.from_residual-in_err-push.result _
    c.from_residual-in_err-push.ensures.0

pub returns-in_err-push-clause-counted : goal.returns-in_err-push-clause-counted
returns-in_err-push-clause-counted c = IfOk-from_err c.from_residual-in_err-push.result _
    c.from_residual-in_err-push.ensures.0
