-- The old name is taken in none of the types so far.
use Rattle.gob_types.specs.declared.id.TypeId.{TypeId}
use Rattle.gob_types.specs.declared.kind.Shape.{Shape}
use Rattle.gob_types.specs.Defined.{types}
use Rattle.gob_types.proofs.FirstLaws.{FirstAre}
use Rattle.gob_rename.specs.Fitting.{TakesName}
use Rattle.gob_rename.specs.Renaming.{definitions_of}
use Rattle.gob_rename.proofs.judging.is_taken.Given as goal

abbrev pub invariant-loop-id : goal.invariant-loop-id
invariant-loop-id l = FirstAre (λ (e : TypeId × Shape). ¬ TakesName l.fn.rename e.1) (definitions_of (types l.fn.table))
    l.id-index
