use Rattle.std.proofs.Common.{ℕ, List, length}
use Rattle.gob_types.specs.declared.id.TypeId.{TypeId}
use Rattle.gob_types.specs.Table.{Table}
use Rattle.gob_read.specs.Machine.Steps.{IsEnded, CanEnd}
use Rattle.gob_read.proofs.state.State.after_part.Given as goal

abbrev pub invariant-opens : goal.invariant-opens
invariant-opens g l = record {
  can : CanEnd g.B.Builder.building.received l.self;
  each : (T : Table) (t : TypeId) (z : List ℕ) → IsEnded T t g.B.Builder.building.received l.fn.self z
      → IsEnded T t g.B.Builder.building.received l.self z;
}

abbrev pub decreases-opens : goal.decreases-opens
decreases-opens g l = length l.self.stack
