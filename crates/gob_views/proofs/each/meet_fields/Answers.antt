use Rattle.std.proofs.Common.{length, refl}
use Rattle.std.proofs.lemmas.Option.{slice_get_read}
use Rattle.gob_types.proofs.SetLaws.{adds_each, adds_next, adds_none_yet}
use Rattle.gob_views.proofs.each.meet_fields.Goals as goal

pub returns : goal.returns
returns c =
    adds_each c.loop-field.invariant c.loop-field-test.false (λ k f there. record {
      number = k;
      field = f;
      there = there;
      type = refl;
    })
    (λ u h. (h.number, h.field, h.there, h.type))

pub loop-field-init : goal.loop-field-init
loop-field-init c = adds_none_yet

pub loop-field-preserved : goal.loop-field-preserved
loop-field-preserved c =
    let fields = c.args.fields.now in
    let here = slice_get_read fields (length fields) c.loop-field.field-index c.field-item.result refl
    c.loop-field-test.true c.field-item.is in
    adds_next c.loop-field.invariant here c.in_ok-meet.ensures
