-- The bytes are those that wait and those behind them, and no line feed stands in what was searched.
use Rattle.std.proofs.Common.{◌≡◌, ◌+◌, ◌-◌, ◌≤◌, ℕ, List, length, take}
use Rattle.std.specs.Io.KnownBytes.{Keeps}
use Rattle.gob_stream.specs.Calls.Ends.{failed_reads, failed_writes, reader_of, writer_of}
use Rattle.gob_stream.specs.Calls.Waiting.{waiting}
use Rattle.gob_write.specs.Lines.{IsLeft}
use Rattle.gob_write.proofs.LineLaws.{HasNoFeed}
use Rattle.gob_write.proofs.lines.next_line.Given as goal

abbrev pub invariant-loop-place : goal.invariant-loop-place
invariant-loop-place g l = record {
  searched : l.searched ≤ length (waiting l.buffered);
  no_feed : HasNoFeed (take l.searched (waiting l.buffered));
  left : (bytes : List ℕ) → IsLeft l.fn.buffered (g.R.Read.remaining (reader_of l.fn.input)) bytes
      → IsLeft l.buffered (g.R.Read.remaining (reader_of l.input)) bytes;
  sent : Keeps (g.W.Write.contents (writer_of l.fn.output)) (g.W.Write.contents (writer_of l.output));
  reads : failed_reads l.input ≡ failed_reads l.fn.input;
  writes : failed_writes l.output ≡ failed_writes l.fn.output;
}

-- a line has no more bytes than the most, so no more of them wait without a line feed
abbrev pub decreases-loop-place : goal.decreases-loop-place
decreases-loop-place g l = l.most + 1 - length (waiting l.buffered)
