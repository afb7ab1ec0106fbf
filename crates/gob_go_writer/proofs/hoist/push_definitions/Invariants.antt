use Rattle.std.proofs.Common.{◌≡◌, length}
use Rattle.std.specs.Vec.Iter.{into_iter_items, into_iter_len}
use Rattle.gob_go_writer.proofs.HoistSteps.{DefinesSo}
use Rattle.gob_go_writer.proofs.hoist.push_definitions.Given as goal

abbrev pub invariant-loop-definition : goal.invariant-loop-definition
invariant-loop-definition l =
    DefinesSo (into_iter_items l.initial.definition-iterator) (into_iter_items l.definition-iterator) l.fn.out.items
    l.out.items
    × (into_iter_len l.definition-iterator ≡ length (into_iter_items l.definition-iterator))
