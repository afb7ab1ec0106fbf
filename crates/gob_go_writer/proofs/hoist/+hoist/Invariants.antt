use Rattle.std.proofs.Common.{◌≡◌, length}
use Rattle.std.specs.Vec.Iter.{into_iter_items, into_iter_len}
use Rattle.gob_go_writer.proofs.HoistSteps.{FillSo}
use Rattle.gob_go_writer.proofs.hoist.+hoist.Given as goal

abbrev pub invariant-hoist_value-loop-filling : goal.invariant-hoist_value-loop-filling
invariant-hoist_value-loop-filling l =
    FillSo (into_iter_items l.initial.filling-iterator) (into_iter_items l.filling-iterator) l.hoisted.items
    l.fn.out.items l.out.items
    × (into_iter_len l.filling-iterator ≡ length (into_iter_items l.filling-iterator))
