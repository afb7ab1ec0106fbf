-- The greater of what was seen and of what is to come is the greatest, and the names are those of the fields before.
use Rattle.std.proofs.Common.{◌≡◌, [], drop, take, max}
use Rattle.gob_source.specs.Machine.{KnowsNames}
use Rattle.gob_source.specs.Source.{width}
use Rattle.gob_source.proofs.fields.width_of.Given as goal

abbrev pub invariant-loop-field : goal.invariant-loop-field
invariant-loop-field l = record {
  most : max l.width (width (take l.field-index l.fields) (drop l.field-index l.fields)) ≡ width [] l.fields;
  known : KnowsNames l.seen (take l.field-index l.fields);
}
