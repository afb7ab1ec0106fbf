use Rattle.std.proofs.Common.{length, refl}
use Rattle.std.proofs.lemmas.Option.{slice_get_read}
use Rattle.std.proofs.lemmas.Result.{IfOk-from_err}
use Rattle.gob_types.proofs.SetLaws.{adds_none_yet, adds_next, adds_one, adds_each}
use Rattle.gob_types.proofs.readiness.add_field_types.Goals as goal

pub returns : goal.returns
returns c =
    adds_each c.loop-field.invariant c.loop-field-test.false (λ k f there. record {
      number = k;
      field = f;
      there =
          there;
      type = refl;
    })
    (λ u h. (h.number, h.field, h.there, h.type))

pub loop-field-init : goal.loop-field-init
loop-field-init c = adds_none_yet

pub loop-field-preserved : goal.loop-field-preserved
loop-field-preserved c =
    let fields = c.args.fields.now in
    let here = slice_get_read fields (length fields) c.loop-field.field-index c.field-item.result refl
    c.loop-field-test.true c.field-item.is in
    adds_next c.loop-field.invariant here (adds_one _ c.in_ok-add.ensures.added)

pub returns-in_err-add : goal.returns-in_err-add
returns-in_err-add c = IfOk-from_err c.from_residual.result _ c.from_residual.ensures.0
