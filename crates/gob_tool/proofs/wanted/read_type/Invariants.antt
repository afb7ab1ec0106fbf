-- The type of the first value that was read is known, and so are the definitions in front of it.
use Rattle.std.proofs.Common.{◌≡◌, ◌+◌, ◌-◌}
use Rattle.gob_stream.specs.Calls.Session.{limits_of, taken_of}
use Rattle.gob_stream.specs.Calls.Ends.{failed_reads, reader_of}
use Rattle.gob_stream.specs.Calls.Reader.{session_of}
use Rattle.gob_tool.specs.Machine.Taken.{FindsSo}
use Rattle.gob_tool.proofs.wanted.read_type.Given as goal

abbrev pub invariant-steps : goal.invariant-steps
invariant-steps g l =
    (limits_of (session_of l.reader) ≡ limits_of (session_of l.fn.reader))
    × (failed_reads l.input ≡ failed_reads l.fn.input)
    × FindsSo l.reader (g.Q.Read.remaining (reader_of l.fn.input)) (g.Q.Read.remaining (reader_of l.input)) l.first
    l.definitions.items

abbrev pub decreases-steps : goal.decreases-steps
decreases-steps g l = (limits_of (session_of l.reader)).stream + 9 - taken_of (session_of l.reader)
