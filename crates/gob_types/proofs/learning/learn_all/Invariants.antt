use Rattle.gob_types.specs.Defined.{types}
use Rattle.gob_types.specs.Machine.Walk.{Grows}
use Rattle.gob_types.specs.Machine.Kept.{IsLearning}
use Rattle.gob_types.proofs.learning.learn_all.Given as goal

abbrev pub invariant-loop : goal.invariant-loop
invariant-loop l = record {
  learning : IsLearning (types l.table) l.ready l.waits l.queue;
  grown : Grows l.initial.ready l.ready;
}
