-- All that was read but what waits was taken, and is kept; the text of its items was put out.
use Rattle.std.proofs.Common.{◌≡◌, ◌+◌, ◌-◌}
use Rattle.gob_explain.specs.Putting.{PutsMore}
use Rattle.gob_stream.specs.Calls.Ends.{failed_reads, reader_of}
use Rattle.gob_stream.specs.Calls.Waiting.{waiting}
use Rattle.gob_why.specs.Machine.Reading.{HasTaken}
use Rattle.gob_why.proofs.reading.read_all.Given as goal

abbrev pub invariant-items : goal.invariant-items
invariant-items g l =
    (l.session.limits ≡ l.fn.session.limits)
    × (failed_reads l.input ≡ failed_reads l.fn.input)
    × (l.kept.explained ≡ l.fn.kept.explained)
    × PutsMore g.O.TextOut.puts l.fn.lines.out l.fn.lines.fault l.lines.out l.lines.fault
    (HasTaken l.fn.kept.explained l.session l.kept.items (g.R.Read.remaining (reader_of l.fn.input))
    (g.R.Read.remaining (reader_of l.input)) (waiting l.waiting) l.kept.item.items l.kept.begin)

-- each turn takes a byte or counts an item
abbrev pub decreases-items : goal.decreases-items
decreases-items g l =
    (l.session.limits.stream + 9 - l.session.taken) + (l.session.limits.stream + 9 - l.kept.items)
