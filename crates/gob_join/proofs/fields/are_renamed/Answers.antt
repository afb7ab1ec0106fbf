use Rattle.std.proofs.Common.{arith}
use Rattle.std.proofs.lemmas.List.{take_all}
use Rattle.gob_join.specs.Renaming.{no_field}
use Rattle.gob_join.proofs.FieldLaws.{fields_at, one_field_more, one_taken}
use Rattle.gob_join.proofs.fields.are_renamed.Goals as goal

pub loop-place-init : goal.loop-place-init
loop-place-init g c = no_field

pub loop-place-preserved : goal.loop-place-preserved
loop-place-preserved g c =
    let same = c.if-fields-others.false in
    fields_at (one_taken c.args.fields.now c.loop-place.place _ (omega arith) c.index-fields-place.is)
    (one_taken c.args.others.now c.loop-place.place _ (omega (arith, same)) c.index-others-place.is)
    (one_field_more c.loop-place.invariant (c.is_renamed_field.ensures c.if-not-is_renamed_field.false))

pub returns : goal.returns
returns g c = λ t.
    let same = c.if-fields-others.false in
    fields_at (take_all c.loop-place.place c.args.fields.now (omega arith))
    (take_all c.loop-place.place c.args.others.now (omega (arith, same))) c.loop-place.invariant
