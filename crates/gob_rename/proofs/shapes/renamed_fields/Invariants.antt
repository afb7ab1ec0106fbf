-- The fields so far are the first ones, renamed.
use Rattle.std.proofs.Common.{◌≡◌, take, map}
use Rattle.gob_rename.specs.Renaming.{renamed_field}
use Rattle.gob_rename.proofs.shapes.renamed_fields.Given as goal

abbrev pub invariant-loop-field : goal.invariant-loop-field
invariant-loop-field l =
    l.items.items ≡ map (λ f. renamed_field l.renames l.struct_name f) (take l.field-index l.fields)
