-- The values of what was read are taken in.
use Rattle.std.proofs.Common.{◌≡◌, ◌+◌, ◌-◌, ℕ, List}
use Rattle.gob_filled.specs.Stream.{FilledItem}
use Rattle.gob_go.specs.Calls.Session.{limits_of, taken_of}
use Rattle.gob_stream.specs.Calls.Ends.{failed_reads, failed_writes, reader_of, writer_of}
use Rattle.gob_go.specs.Calls.Reader.{session_of}
use Rattle.gob_go_writer.specs.Calls.Writer.{HasPut}
use Rattle.gob_go_writer.specs.Calls.Writer as writer
use Rattle.gob_join.specs.Machine.Joining.{JoinsSo, ReadsSo}
use Rattle.gob_join.specs.Renaming.{among}
use Rattle.gob_join.proofs.run.join_items.Given as goal

abbrev pub invariant-items : goal.invariant-items
invariant-items g l =
    (limits_of (session_of l.reader) ≡ limits_of (session_of l.fn.reader))
    × ReadsSo l.reader (g.R.Read.remaining (reader_of l.fn.input)) (g.R.Read.remaining (reader_of l.input))
    × ((before : List FilledItem) (out : List ℕ) → HasPut l.fn.writer before out
    → JoinsSo l.reader (g.R.Read.remaining (reader_of l.fn.input)) (g.R.Read.remaining (reader_of l.input)) l.writer
    before out (among l.known.renaming) (g.W.Write.contents (writer_of l.fn.output))
    (g.W.Write.contents (writer_of l.output)))
    × (writer.limits_of l.writer ≡ writer.limits_of l.fn.writer)
    × (failed_reads l.input ≡ failed_reads l.fn.input) × (failed_writes l.output ≡ failed_writes l.fn.output)

abbrev pub decreases-items : goal.decreases-items
decreases-items g l = (limits_of (session_of l.reader)).stream + 9 - taken_of (session_of l.reader)
