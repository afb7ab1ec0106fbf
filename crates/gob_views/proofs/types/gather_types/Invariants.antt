-- What the items say that were read is gathered.
use Rattle.std.proofs.Common.{◌≡◌, ◌+◌, ◌-◌}
use Rattle.gob_go.specs.Calls.Session.{limits_of, taken_of}
use Rattle.gob_stream.specs.Calls.Ends.{failed_reads, reader_of}
use Rattle.gob_go.specs.Calls.Reader.{session_of}
use Rattle.gob_views.specs.Machine.Gathered.{GathersSo}
use Rattle.gob_views.proofs.types.gather_types.Given as goal

abbrev pub invariant-items : goal.invariant-items
invariant-items g l =
    (limits_of (session_of l.reader) ≡ limits_of (session_of l.fn.reader))
    × (failed_reads l.input ≡ failed_reads l.fn.input)
    × GathersSo l.reader (g.R.Read.remaining (reader_of l.fn.input))
    (g.R.Read.remaining (reader_of l.input)) l.gathered

abbrev pub decreases-items : goal.decreases-items
decreases-items g l = (limits_of (session_of l.reader)).stream + 9 - taken_of (session_of l.reader)
