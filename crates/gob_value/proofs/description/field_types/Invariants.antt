use Rattle.std.proofs.Common.{◌≡◌, map, take}
use Rattle.gob_value.specs.View.{view}
use Rattle.gob_value.specs.DescriptionLaws.{AreCounted}
use Rattle.gob_value.proofs.DescriptionSteps.{field_type}
use Rattle.gob_value.proofs.description.field_types.Given as goal

-- the fieldTypes so far are those of the first fields
abbrev pub invariant-loop-field : goal.invariant-loop-field
invariant-loop-field l = (map view l.types.items ≡ map field_type (take l.field-index l.fields))
    × AreCounted (take l.field-index l.fields)
