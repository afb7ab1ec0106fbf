-- The reader has gone on to what is left of the piece.
use Rattle.std.proofs.Common.{◌≡◌, ℕ, List, length}
use Rattle.gob_handed.specs.Reading.{HasReadTo}
use Rattle.gob_handed.specs.Waiting.{session_of}
use Rattle.gob_handed.proofs.ReadingLaws.{GoesUpTo}
use Rattle.gob_handed.proofs.reader.Reader.feed.Given as goal

abbrev pub invariant-steps : goal.invariant-steps
invariant-steps g l =
    ((items : List g.S.Steps.Told) (bytes : List ℕ) → HasReadTo g.S.Steps.stepping l.fn.self items bytes
    → GoesUpTo g.S.Steps.stepping g.S.Hands.handouts l.fn.self l.self items bytes l.piece l.rest)
    × (g.S.Steps.stepping.limits (session_of l.self) ≡ g.S.Steps.stepping.limits (session_of l.fn.self))

abbrev pub decreases-steps : goal.decreases-steps
decreases-steps g l = length l.rest
