-- All that was taken was counted.
use Rattle.std.proofs.Common.{◌≡◌, ◌+◌, ◌-◌}
use Rattle.gob_stream.specs.Calls.Ends.{failed_reads, reader_of}
use Rattle.gob_stream.specs.Calls.ReaderOf.{session_of}
use Rattle.gob_tool.specs.Machine.Counting.{CountsSo}
use Rattle.gob_tool.proofs.check.count_stream.Given as goal

abbrev pub invariant-loop-reader : goal.invariant-loop-reader
invariant-loop-reader g l =
    (g.S.Steps.stepping.limits (session_of l.reader) ≡ l.fn.limits)
    × (failed_reads l.input ≡ failed_reads l.fn.input)
    × CountsSo g.S.Steps.stepping l.reader (g.R.Read.remaining (reader_of l.fn.input))
    (g.R.Read.remaining (reader_of l.input)) l.items l.bytes

-- each turn takes a byte or counts an item
abbrev pub decreases-loop-reader : goal.decreases-loop-reader
decreases-loop-reader g l =
    let L = g.S.Steps.stepping.limits (session_of l.reader) in
    (L.stream + 9 - l.items) + (L.stream + 9 - l.bytes)
