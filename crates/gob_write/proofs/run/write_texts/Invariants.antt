-- Some texts were read, the next one begins at the place, and what they say is written.
use Rattle.std.proofs.Common.{◌≡◌, ℕ, List, Option, Some}
use Rattle.std.specs.Io.KnownBytes.{Appends}
use Rattle.gob_stream.specs.Calls.Ends.{failed_reads, failed_writes, reader_of, writer_of}
use Rattle.gob_write.proofs.RunLaws.{HasReadTexts}
use Rattle.gob_write.specs.Says.{HasWrittenTexts, IsWithinTrees, Saying}
use Rattle.gob_write.proofs.run.write_texts.Given as goal

abbrev pub invariant-texts : goal.invariant-texts
invariant-texts g l = record {
  read : (S : Saying) (start : Option (List ℕ)) (bytes : List ℕ) → IsWithinTrees S
      → HasWrittenTexts S l.fn.writer S.items S.bytes S.table
      → Appends start (g.W.Write.contents (writer_of l.fn.output)) S.bytes
      → g.R.Read.remaining (reader_of l.fn.input) ≡ Some bytes
      → HasReadTexts S l.fn.most l.writer l.waiting bytes (g.R.Read.remaining (reader_of l.input)) start
      (g.W.Write.contents (writer_of l.output)) l.place;
  reads : failed_reads l.input ≡ failed_reads l.fn.input;
  writes : failed_writes l.output ≡ failed_writes l.fn.output;
}
