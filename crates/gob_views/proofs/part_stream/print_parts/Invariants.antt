-- The lines of the parts that are behind went out.
use Rattle.std.proofs.Common.{◌≡◌, ◌+◌, ◌-◌, ◌≤◌, List, Option, ℕ}
use Rattle.std.specs.Io.KnownBytes.{Appends}
use Rattle.gob_stream.specs.Calls.Ends.{failed_reads, failed_writes, reader_of, writer_of}
use Rattle.gob_stream.specs.Calls.ReaderOf.{HasReadBy}
use Rattle.gob_filled.specs.Stream.{FilledItem}
use Rattle.gob_go.specs.Calls.Reader.{session_of}
use Rattle.gob_go.specs.Calls.Session.{limits_of, taken_of}
use Rattle.gob_go.specs.GoStepping.{passing_stepping}
use Rattle.gob_views.specs.Values.{IsStyleOf}
use Rattle.gob_views.proofs.EachLaws.{Stands}
use Rattle.gob_views.proofs.part_stream.print_parts.Given as goal

abbrev pub invariant-steps : goal.invariant-steps
invariant-steps g l = record {
  limits : limits_of (session_of l.reader) ≡ limits_of (session_of l.fn.reader);
  reads : failed_reads l.input ≡ failed_reads l.fn.input;
  writes : failed_writes l.output ≡ failed_writes l.fn.output;
  styled : IsStyleOf l.fn.lines l.how.style;
  onward : taken_of (session_of l.fn.reader) ≤ taken_of (session_of l.reader);
  text : List ℕ;
  out : Appends (g.W.Write.contents (writer_of l.fn.output)) (g.W.Write.contents (writer_of l.output)) text;
  stands : (read : Option (List ℕ)) (given : List FilledItem)
      → HasReadBy passing_stepping l.fn.reader read (g.R.Read.remaining (reader_of l.fn.input)) given
      → Stands l.fn.lines l.how.style l.fn.begun l.fn.reader l.reader read (g.R.Read.remaining (reader_of l.input))
      given l.left.ahead l.left.bytes.items text;
}

abbrev pub decreases-steps : goal.decreases-steps
decreases-steps g l = (limits_of (session_of l.reader)).stream + 9 - taken_of (session_of l.reader)
