use Rattle.gob_types.specs.declared.kind.Field.{Field}
use Rattle.gob_types.specs.Definable.{IsReference}
use Rattle.gob_types.proofs.FirstLaws.{FirstAre}
use Rattle.gob_types.proofs.definable.are_references.Given as goal

-- a description may refer to the types of the fields so far
abbrev pub invariant-loop-field : goal.invariant-loop-field
invariant-loop-field l = FirstAre (λ (f : Field). IsReference f.id) l.fields l.field-index
