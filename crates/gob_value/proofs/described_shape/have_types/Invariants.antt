use Rattle.std.proofs.Common.{◌↔◌, drop}
use Rattle.gob_value.specs.View.{views}
use Rattle.gob_value.specs.Description.{said_fields}
use Rattle.gob_value.specs.Machine.Saying.{HaveTypes}
use Rattle.gob_value.proofs.described_shape.have_types.Given as goal

-- it is the rest that tells
abbrev pub invariant-loop-field_type : goal.invariant-loop-field_type
invariant-loop-field_type l = HaveTypes (said_fields (views (drop l.field_type-index l.field_types)))
    ↔ HaveTypes (said_fields (views l.field_types))
