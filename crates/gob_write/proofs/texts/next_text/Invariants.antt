-- The bytes are those that wait and those behind them, and the text goes on behind what was searched.
use Rattle.std.proofs.Common.{◌≡◌, ◌+◌, ◌-◌, ℕ, List, length}
use Rattle.std.specs.Io.KnownBytes.{Keeps}
use Rattle.gob_stream.specs.Calls.Ends.{failed_reads, failed_writes, reader_of, writer_of}
use Rattle.gob_stream.specs.Calls.Waiting.{waiting}
use Rattle.gob_write.specs.Lines.{IsLeft}
use Rattle.gob_write.specs.Texts.{IsSearched}
use Rattle.gob_write.proofs.texts.next_text.Given as goal

abbrev pub invariant-reads : goal.invariant-reads
invariant-reads g l = record {
  searched : IsSearched l.searched (waiting l.buffered);
  left : (bytes : List ℕ) → IsLeft l.fn.buffered (g.R.Read.remaining (reader_of l.fn.input)) bytes
      → IsLeft l.buffered (g.R.Read.remaining (reader_of l.input)) bytes;
  sent : Keeps (g.W.Write.contents (writer_of l.fn.output)) (g.W.Write.contents (writer_of l.output));
  reads : failed_reads l.input ≡ failed_reads l.fn.input;
  writes : failed_writes l.output ≡ failed_writes l.fn.output;
}

-- a text has no more bytes than the most, so no more of them wait without its end
abbrev pub decreases-reads : goal.decreases-reads
decreases-reads g l = l.most + 1 - length (waiting l.buffered)
