use Rattle.std.proofs.Common.{ℕ, ◌-◌, List, drop, length}
use Rattle.gob_match.specs.declared.common.CommonField.{CommonField}
use Rattle.gob_match.specs.Machine.ReceivingWhole.{RiseFrom, Skips}
use Rattle.gob_match.proofs.receiving_whole.first_from.Given as goal

abbrev pub invariant-fields : goal.invariant-fields
invariant-fields l = record {
  skips : (ds : List CommonField) → Skips l.number (drop l.index l.common) ds
      → Skips l.number (drop l.from l.common) ds;
  rises : (low : ℕ) → RiseFrom low (drop l.from l.common) → (now : ℕ) × RiseFrom now (drop l.index l.common);
}

abbrev pub decreases-fields : goal.decreases-fields
decreases-fields l = length l.common - l.index
