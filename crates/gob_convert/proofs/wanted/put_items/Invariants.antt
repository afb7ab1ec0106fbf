-- Of what was read the definitions in front of the first value are put.
use Rattle.std.proofs.Common.{◌≡◌, ◌+◌, ◌-◌}
use Rattle.gob_stream.specs.Calls.Ends.{failed_reads, reader_of}
use Rattle.gob_go.specs.Calls.Reader.{session_of}
use Rattle.gob_go.specs.Calls.Session.{limits_of, taken_of}
use Rattle.gob_go_writer.specs.Calls.Writer as writer
use Rattle.gob_convert.specs.Machine.Wanted.{FrontSo}
use Rattle.gob_convert.proofs.wanted.put_items.Given as goal

abbrev pub invariant-items : goal.invariant-items
invariant-items g l = record {
  limits : limits_of (session_of l.reader) ≡ limits_of (session_of l.fn.reader);
  same : writer.limits_of l.front.writer ≡ writer.limits_of l.fn.front.writer;
  reads : failed_reads l.wanted ≡ failed_reads l.fn.wanted;
  so : FrontSo l.reader (g.Q.Read.remaining (reader_of l.fn.wanted)) (g.Q.Read.remaining (reader_of l.wanted)) l.first
      l.front;
}

-- each turn takes a byte at least
abbrev pub decreases-items : goal.decreases-items
decreases-items g l = let s = session_of l.reader in (limits_of s).stream + 9 - taken_of s
