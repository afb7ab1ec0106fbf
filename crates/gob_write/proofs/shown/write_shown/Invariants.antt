-- So many lines were read, and what they say is written.
use Rattle.std.proofs.Common.{◌≡◌, ℕ, List, [], Option, Some}
use Rattle.std.specs.Prelude.{Bool}
use Rattle.std.specs.Io.KnownBytes.{Appends}
use Rattle.gob_types.specs.Base.{base_table}
use Rattle.gob_stream.specs.Bounds.{Bounds}
use Rattle.gob_stream.specs.Calls.Ends.{failed_reads, failed_writes, reader_of, writer_of}
use Rattle.gob_write.proofs.ShownRunLaws.{HasReadFilled}
use Rattle.gob_write.specs.Shown.{HasWrittenFilled}
use Rattle.gob_write.proofs.shown.write_shown.Given as goal

abbrev pub invariant-loop-number : goal.invariant-loop-number
invariant-loop-number g l = record {
  read : (H : Bool) (L : Bounds) (start : Option (List ℕ)) (bytes : List ℕ)
      → HasWrittenFilled H L l.fn.writer [] [] base_table
      → Appends start (g.W.Write.contents (writer_of l.fn.output)) []
      → g.R.Read.remaining (reader_of l.fn.input) ≡ Some bytes
      → HasReadFilled H L l.fn.most l.writer l.waiting bytes (g.R.Read.remaining (reader_of l.input)) start
      (g.W.Write.contents (writer_of l.output)) l.number;
  reads : failed_reads l.input ≡ failed_reads l.fn.input;
  writes : failed_writes l.output ≡ failed_writes l.fn.output;
}
