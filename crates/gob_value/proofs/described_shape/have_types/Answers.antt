use Rattle.std.proofs.Common.{rules, refl, sym, ap, ◌∙◌, w64}
use Rattle.std.proofs.lemmas.Int.{to_z-of_z}
use Rattle.gob_value.specs.Description.{number_in, present_field}
use Rattle.gob_value.proofs.TestSteps.{keep, stop, not_true}
use Rattle.gob_value.proofs.DescriptionSteps.{number_as, have_item, have_none}
use Rattle.gob_value.proofs.described_shape.have_types.Goals as goal

pub returns-then-not-refers : goal.returns-then-not-refers
returns-then-not-refers c =
    let number = c.number_of.result in
    let said = to_z-of_z w64 number (search rules) ∙ c.number_of.ensures
    ∙ ap (λ fs. number_in (present_field 1 fs)) c.fields_within.ensures in
    stop (λ p. not_true c.if-not-refers.true c.refers.ensures (number_as (sym said) p))
    (have_item c.args.field_types.now c.loop-field_type.field_type-index c.field_type-item.result c.field_type-item.is
    c.loop-field_type-test.true) c.loop-field_type.invariant

pub loop-field_type-preserved : goal.loop-field_type-preserved
loop-field_type-preserved c =
    let number = c.number_of.result in
    let said = to_z-of_z w64 number (search rules) ∙ c.number_of.ensures
    ∙ ap (λ fs. number_in (present_field 1 fs)) c.fields_within.ensures in
    keep (number_as said (c.if-not-refers.ensures.0 refl))
    (have_item c.args.field_types.now c.loop-field_type.field_type-index c.field_type-item.result c.field_type-item.is
    c.loop-field_type-test.true) c.loop-field_type.invariant

pub returns : goal.returns
returns c = (
  λ _. c.loop-field_type.invariant.0 (have_none c.args.field_types.now c.loop-field_type.field_type-index
      c.loop-field_type-test.false),
  λ _. refl,
)
