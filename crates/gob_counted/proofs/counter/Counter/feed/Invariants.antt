-- The items of the piece so far were counted.
use Rattle.std.proofs.Common.{◌≡◌, ℕ, List, length}
use Rattle.gob_counted.specs.Calls.{HasCounted, session_of}
use Rattle.gob_counted.proofs.CountLaws.{CountsUpTo}
use Rattle.gob_counted.proofs.counter.Counter.feed.Given as goal

abbrev pub invariant-loop-rest : goal.invariant-loop-rest
invariant-loop-rest g l =
    let D = g.S.Steps.stepping in
    (D.limits (session_of l.self) ≡ D.limits (session_of l.fn.self))
    × ((items : List g.S.Steps.Told) (bytes : List ℕ) → HasCounted D l.fn.self items bytes
    → CountsUpTo D l.self items bytes l.piece l.rest)
    × (¬ D.failed (session_of l.fn.self))

abbrev pub decreases-loop-rest : goal.decreases-loop-rest
decreases-loop-rest g l = length l.rest
