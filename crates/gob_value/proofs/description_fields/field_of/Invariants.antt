use Rattle.std.proofs.Common.{◌≡◌, drop}
use Rattle.gob_value.specs.View.{field_views}
use Rattle.gob_value.specs.Description.{present_field}
use Rattle.gob_value.proofs.description_fields.field_of.Given as goal

-- the field is still to come
abbrev pub invariant-loop-n : goal.invariant-loop-n
invariant-loop-n l = present_field l.number (field_views (drop l.n-index l.fields)) ≡ present_field l.number
    (field_views l.fields)
