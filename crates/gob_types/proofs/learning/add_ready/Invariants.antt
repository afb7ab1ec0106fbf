use Rattle.std.proofs.Common.{Contains}
use Rattle.gob_types.specs.declared.id.TypeId.{TypeId}
use Rattle.gob_types.specs.Machine.Walk.{AddsAll, Grows}
use Rattle.gob_types.specs.Machine.Kept.{HandsOn}
use Rattle.gob_types.proofs.SetLaws.{IsAmongFirst}
use Rattle.gob_types.proofs.learning.add_ready.Given as goal

-- the ids so far were added, and the types that name them are in the queue
abbrev pub invariant-loop-id : goal.invariant-loop-id
invariant-loop-id l = record {
  added : AddsAll l.initial.ready l.ready (IsAmongFirst (λ (u : TypeId). u) l.id-items l.id-index);
  queue : Grows l.initial.queue l.queue;
  handed : HandsOn l.waits.awaited l.initial.ready l.ready (Contains l.queue);
}
