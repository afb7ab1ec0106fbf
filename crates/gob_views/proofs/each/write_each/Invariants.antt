-- The lines of what was read went out.
use Rattle.std.proofs.Common.{◌≡◌, ◌+◌, ◌-◌}
use Rattle.gob_stream.specs.Calls.Ends.{failed_reads, failed_writes, reader_of, writer_of}
use Rattle.gob_go.specs.Calls.Reader.{session_of}
use Rattle.gob_go.specs.Calls.Session.{limits_of, taken_of}
use Rattle.gob_go.specs.GoStepping.{go_stepping}
use Rattle.gob_tool.specs.Machine.Texts.{WritesSo}
use Rattle.gob_views.specs.Machine.PartStream.{IsLineBy}
use Rattle.gob_views.proofs.each.write_each.Given as goal

abbrev pub invariant-items : goal.invariant-items
invariant-items g l = record {
  limits : limits_of (session_of l.reader) ≡ l.fn.limits;
  reads : failed_reads l.input ≡ failed_reads l.fn.input;
  writes : failed_writes l.output ≡ failed_writes l.fn.output;
  so : WritesSo go_stepping (IsLineBy l.fn.lines) l.reader (g.R.Read.remaining (reader_of l.fn.input))
      (g.R.Read.remaining (reader_of l.input)) (g.W.Write.contents (writer_of l.fn.output))
      (g.W.Write.contents (writer_of l.output));
}

abbrev pub decreases-items : goal.decreases-items
decreases-items g l = (limits_of (session_of l.reader)).stream + 9 - taken_of (session_of l.reader)
