-- Those so far wait, and with those that are left all do.
use Rattle.std.proofs.Common.{◌≡◌, ◌++◌, Some, length, map}
use Rattle.std.specs.Vec.Iter.{into_iter_items, into_iter_len}
use Rattle.gob_go.specs.declared.filled.Filling.{Filling}
use Rattle.gob_filled_match.proofs.moving.all_waiting.Given as goal

abbrev pub invariant-loop-filling : goal.invariant-loop-filling
invariant-loop-filling l =
    (l.waiting.items ++ map (λ (f : Filling). Some f) (into_iter_items l.filling-iterator)
    ≡ map (λ (f : Filling). Some f) (into_iter_items l.initial.filling-iterator))
    × (into_iter_len l.filling-iterator ≡ length (into_iter_items l.filling-iterator))
