use Rattle.gob_types.specs.declared.id.TypeId.{TypeId}
use Rattle.gob_types.specs.Machine.Walk.{AddsAll}
use Rattle.gob_types.proofs.SetLaws.{IsAmongFirst}
use Rattle.gob_types.proofs.type_set.TypeSet.add_all.Given as goal

-- the ids so far were added
abbrev pub invariant-loop-id : goal.invariant-loop-id
invariant-loop-id l = AddsAll l.initial.self l.self (IsAmongFirst (λ (u : TypeId). u) l.ids l.id-index)
