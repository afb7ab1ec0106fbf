use Rattle.gob_value.specs.View.{view}
use Rattle.gob_value.proofs.DescriptionSteps.{said_none}
use Rattle.gob_value.proofs.described_shape.wire_field.Goals as goal

pub returns-then-fields-ne1 : goal.returns-then-fields-ne1
returns-then-fields-ne1 c = said_none (view c.args.described.now) c.fields_within-fields.result.now
    c.fields_within-fields.ensures c.if-fields-ne1.true
