use Rattle.gob_types.specs.Table.{Table}
use Rattle.gob_types.specs.Machine.Kept.{AreLed, Redirects}
use Rattle.gob_types.proofs.learning.next_awaited.Given as goal

-- some were taken over
abbrev pub invariant-loop : goal.invariant-loop
invariant-loop l = record {
  redirected : Redirects l.initial.waits.awaited l.waits.awaited l.fn.id;
  led : (T : Table) → AreLed T l.initial.waits → AreLed T l.waits;
}
