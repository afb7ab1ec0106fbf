use Rattle.gob_types.specs.Machine.Walk.{AreAmong}
use Rattle.gob_types.proofs.type_set.common.Given as goal

abbrev pub invariant-loop-id : goal.invariant-loop-id
invariant-loop-id l = AreAmong l.first l.both
