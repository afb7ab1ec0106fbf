use Rattle.gob_types.specs.declared.kind.Field.{Field}
use Rattle.gob_types.specs.Machine.Walk.{AddsAll}
use Rattle.gob_types.proofs.SetLaws.{IsAmongFirst}
use Rattle.gob_views.proofs.each.meet_fields.Given as goal

-- the types of the fields so far were met
abbrev pub invariant-loop-field : goal.invariant-loop-field
invariant-loop-field l =
    AddsAll l.initial.met.keys l.met.keys (IsAmongFirst (λ (f : Field). f.id) l.fields l.field-index)
