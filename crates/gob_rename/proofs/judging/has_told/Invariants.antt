-- It tells of none of the fields so far.
use Rattle.std.proofs.Common.{IsTrue}
use Rattle.gob_types.specs.declared.kind.Field.{Field}
use Rattle.gob_types.proofs.FirstLaws.{FirstAre}
use Rattle.gob_rename.specs.Renaming.{is_told}
use Rattle.gob_rename.proofs.judging.has_told.Given as goal

abbrev pub invariant-loop-field : goal.invariant-loop-field
invariant-loop-field l = FirstAre (λ (f : Field). ¬ IsTrue (is_told l.fn.rename l.fn.struct_name f.name)) l.fields
    l.field-index
