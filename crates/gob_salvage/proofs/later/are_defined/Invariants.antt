-- Those that were looked at have types.
use Rattle.std.proofs.Common.{ℕ}
use Rattle.gob_types.specs.declared.id.TypeId.{TypeId}
use Rattle.gob_types.specs.Defined.{types}
use Rattle.gob_types.specs.Table.{IsDefined}
use Rattle.gob_types.proofs.FirstLaws.{FirstAre}
use Rattle.gob_salvage.proofs.later.are_defined.Given as goal

abbrev pub invariant-loop-id : goal.invariant-loop-id
invariant-loop-id l = FirstAre (λ (n : ℕ). let id : TypeId = record { 0 = n } in IsDefined (types l.table) id) l.ids
    l.id-index
