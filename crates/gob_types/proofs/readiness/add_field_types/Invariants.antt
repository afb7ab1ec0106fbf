use Rattle.gob_types.specs.declared.kind.Field.{Field}
use Rattle.gob_types.specs.Machine.Walk.{AddsAll}
use Rattle.gob_types.proofs.SetLaws.{IsAmongFirst}
use Rattle.gob_types.proofs.readiness.add_field_types.Given as goal

-- the types of the fields so far were added
abbrev pub invariant-loop-field : goal.invariant-loop-field
invariant-loop-field l = AddsAll l.initial.met l.met (IsAmongFirst (λ (f : Field). f.id) l.fields l.field-index)
