-- None of the fields so far has the name.
use Rattle.std.proofs.Common.{◌≡◌}
use Rattle.gob_types.specs.declared.kind.Field.{Field}
use Rattle.gob_types.proofs.FirstLaws.{FirstAre}
use Rattle.gob_convert.proofs.clashing.type_named.Given as goal

abbrev pub invariant-loop-field : goal.invariant-loop-field
invariant-loop-field l = FirstAre (λ (f : Field). ¬ (f.name ≡ l.fn.name)) l.fields l.field-index
