-- Each of the fields so far has a wanted one of its name.
use Rattle.gob_types.specs.declared.kind.Field.{Field}
use Rattle.gob_types.proofs.FirstLaws.{FirstAre}
use Rattle.gob_match.specs.Pairs.{HasName}
use Rattle.gob_left_out.proofs.may.lacks_some.Given as goal

abbrev pub invariant-loop-field : goal.invariant-loop-field
invariant-loop-field l = FirstAre (λ (f : Field). HasName l.fn.wanted f.name) l.fields l.field-index
