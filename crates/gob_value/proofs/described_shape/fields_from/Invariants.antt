use Rattle.gob_value.proofs.DescriptionSteps.{GivesSoFar}
use Rattle.gob_value.proofs.described_shape.fields_from.Given as goal

abbrev pub invariant-loop-field_type : goal.invariant-loop-field_type
invariant-loop-field_type l = GivesSoFar l.field_types l.field_type-index l.items.items
