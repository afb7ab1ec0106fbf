use Rattle.gob_types.specs.Table.{Table}
use Rattle.gob_types.specs.Ready.{Reaches}
use Rattle.gob_types.specs.Machine.Kept.{AreLed, Redirects, WaitsFor}
use Rattle.gob_types.proofs.waits.Waits.take_over.Given as goal

-- the way has come to this type
abbrev pub invariant-loop : goal.invariant-loop
invariant-loop l = record {
  redirected : Redirects l.initial.self.awaited l.self.awaited l.fn.id;
  led : (T : Table) → AreLed T l.initial.self → Reaches T l.fn.id l.fn.from
      → WaitsFor l.initial.self.awaited l.fn.from l.fn.id
      → AreLed T l.self × Reaches T l.fn.id l.at × WaitsFor l.self.awaited l.at l.fn.id;
}
