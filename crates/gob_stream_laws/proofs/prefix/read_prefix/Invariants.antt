-- So many of the items are read as aren't left, and their bytes alone are taken.
use Rattle.std.proofs.Common.{◌≡◌, ℕ, ◌+◌, List, Some, length}
use Rattle.gob_stream.specs.Calls.Ends.{reader_of}
use Rattle.gob_stream.specs.Item.{item_views}
use Rattle.gob_stream.specs.Reading.{Given, SomeTaken}
use Rattle.gob_stream_laws.proofs.Prefixes.{StandsBehind}
use Rattle.gob_stream_laws.proofs.prefix.read_prefix.Given as goal

abbrev pub invariant-loop-left : goal.invariant-loop-left
invariant-loop-left g l = record {
  limits : l.session.limits ≡ l.fn.limits;
  given : Given l.fn.out.items l.out.items (λ given. (length (item_views given) + l.left ≡ l.fn.count)
      × ((bytes : List ℕ) → g.R.Read.remaining (reader_of l.fn.input) ≡ Some bytes
      → SomeTaken bytes (g.R.Read.remaining (reader_of l.input)) (λ taken. StandsBehind l.session (item_views given)
      taken)));
}

abbrev pub decreases-loop-left : goal.decreases-loop-left
decreases-loop-left g l = l.left
