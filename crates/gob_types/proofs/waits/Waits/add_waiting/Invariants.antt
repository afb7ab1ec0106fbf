use Rattle.std.proofs.Common.{◌≡◌, ◌⊎◌, Some, Contains}
use Rattle.std.specs.Map.{lookup}
use Rattle.gob_types.specs.declared.id.TypeId.{TypeId}
use Rattle.gob_types.specs.Machine.Entered.{same_id}
use Rattle.gob_types.specs.Machine.Walk.{Grows}
use Rattle.gob_types.proofs.FirstLaws.{FirstAre}
use Rattle.gob_types.proofs.waits.Waits.add_waiting.Given as goal

-- of the users so far those that wait for the type were added
abbrev pub invariant-loop-user : goal.invariant-loop-user
invariant-loop-user l = record {
  grown : Grows l.initial.back l.back;
  has : FirstAre (λ u. lookup (same_id u) l.self.awaited ≡ Some l.fn.id → Contains l.back u) l.users l.user-index;
  only : (u : TypeId) → Contains l.back u → Contains l.initial.back u
      ⊎ (lookup (same_id u) l.self.awaited ≡ Some l.fn.id);
}
