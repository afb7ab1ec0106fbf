-- The lines of the items that were read went out.
use Rattle.std.proofs.Common.{◌≡◌, ◌≤◌, ◌++◌, ◌-◌, List, ℕ, Option, length, take}
use Rattle.gob_stream.specs.Calls.Ends.{failed_writes, writer_of}
use Rattle.gob_go.specs.Calls.Session.{limits_of}
use Rattle.gob_convert.specs.Machine.Printing.{HasShown, ShowsSo}
use Rattle.gob_convert.proofs.shown.show_piece.Given as goal

abbrev pub invariant-items : goal.invariant-items
invariant-items g l = record {
  limits : limits_of l.session ≡ limits_of l.fn.session;
  writes : failed_writes l.output ≡ failed_writes l.fn.output;
  within : l.used ≤ length l.piece;
  so : (stream : List ℕ) (start : Option (List ℕ))
      → HasShown l.fn.session stream start (g.W.Write.contents (writer_of l.fn.output))
      → ShowsSo l.session (stream ++ l.piece) (stream ++ take l.used l.piece) start
      (g.W.Write.contents (writer_of l.output));
}

-- each turn takes a byte at least
abbrev pub decreases-items : goal.decreases-items
decreases-items g l = length l.piece - l.used
