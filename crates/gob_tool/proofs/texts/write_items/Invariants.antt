-- The texts of what was read went out.
use Rattle.std.proofs.Common.{◌≡◌, ◌+◌, ◌-◌}
use Rattle.gob_types.specs.Defined.{types}
use Rattle.gob_stream.specs.Calls.Ends.{failed_reads, failed_writes, reader_of, writer_of}
use Rattle.gob_stream.specs.Calls.ReaderOf.{session_of}
use Rattle.gob_tool.specs.Machine.Texts.{WritesSo}
use Rattle.gob_tool.specs.Texts.{IsTextBy}
use Rattle.gob_tool.proofs.texts.write_items.Given as goal

abbrev pub invariant-items : goal.invariant-items
invariant-items g l =
    let d = g.S.Steps.stepping in
    (d.limits (session_of l.reader) ≡ l.fn.limits)
    × (failed_reads l.input ≡ failed_reads l.fn.input)
    × (failed_writes l.output ≡ failed_writes l.fn.output)
    × WritesSo d (IsTextBy d (g.M.TextSteps.of_item l.texts) (g.M.TextSteps.of_value l.texts)) l.reader
    (g.R.Read.remaining (reader_of l.fn.input)) (g.R.Read.remaining (reader_of l.input))
    (g.W.Write.contents (writer_of l.fn.output)) (g.W.Write.contents (writer_of l.output))
    × g.M.TextSteps.fits l.texts l.kept (types (d.table (session_of l.reader)))

abbrev pub decreases-items : goal.decreases-items
decreases-items g l =
    let d = g.S.Steps.stepping in
    (d.limits (session_of l.reader)).stream + 9 - d.taken (session_of l.reader)
