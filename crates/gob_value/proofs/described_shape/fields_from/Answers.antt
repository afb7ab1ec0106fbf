use Rattle.std.proofs.Common.{sym, ap, ◌∙◌, subst}
use Rattle.gob_value.specs.Description.{number_in, name_in, present_field, GivesFields, said_fields}
use Rattle.gob_value.specs.View.{views}
use Rattle.gob_value.proofs.DescriptionSteps.{refers_as, number_as, have_item, GivesSoFar, gives_start, gives_more}
use Rattle.gob_value.proofs.DescriptionSteps.{gives_end}
use Rattle.gob_value.proofs.described_shape.fields_from.Goals as goal

pub field_from-requires : goal.field_from-requires
field_from-requires c =
    number_as (sym (ap (λ fs. number_in (present_field 1 fs)) c.fields_within.ensures))
    ((have_item c.args.field_types.now c.loop-field_type.field_type-index c.field_type-item.result c.field_type-item.is
    c.loop-field_type-test.true).1 c.loop-field_type.invariant.left).0

pub loop-field_type-init : goal.loop-field_type-init
loop-field_type-init c = subst (GivesSoFar c.args.field_types.now 0) (sym c.new-items.ensures.items)
    (gives_start c.args.field_types.now c.requires)

pub loop-field_type-preserved : goal.loop-field_type-preserved
loop-field_type-preserved c =
    gives_more c.args.field_types.now c.loop-field_type.field_type-index c.loop-field_type.items.items
    c.push.new.self.items c.field_type-item.result c.in_ok-field_from.field-0
    c.loop-field_type.invariant c.field_type-item.is c.loop-field_type-test.true
    (c.in_ok-field_from.ensures.name ∙ ap (λ fs. name_in (present_field 0 fs)) c.fields_within.ensures)
    (refers_as (ap (λ fs. number_in (present_field 1 fs)) c.fields_within.ensures) c.in_ok-field_from.ensures.id)
    c.in_ok-push.ensures.items

pub returns : goal.returns
returns c =
    subst (GivesFields (said_fields (views c.args.field_types.now))) (sym c.new.ensures)
    (gives_end c.args.field_types.now c.loop-field_type.field_type-index c.loop-field_type.items.items
    c.loop-field_type.invariant c.loop-field_type-test.false)
