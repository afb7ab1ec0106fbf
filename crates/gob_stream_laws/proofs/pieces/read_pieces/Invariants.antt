-- The items of the pieces so far are given.
use Rattle.std.proofs.Common.{◌≡◌, take}
use Rattle.gob_stream.specs.Reading.{Given}
use Rattle.gob_stream_laws.specs.Pieces.{joined}
use Rattle.gob_stream_laws.proofs.Outcomes.{HasGiven}
use Rattle.gob_stream_laws.proofs.pieces.read_pieces.Given as goal

abbrev pub invariant-loop-piece : goal.invariant-loop-piece
invariant-loop-piece l = record {
  limits : l.session.limits ≡ l.fn.limits;
  given : Given l.fn.out.items l.out.items (λ given. HasGiven l.session given (joined (take l.piece-index l.pieces)));
}
