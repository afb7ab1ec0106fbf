-- What waits is what was read so far, and no read failed.
use Rattle.std.proofs.Common.{◌≡◌, ◌+◌, ◌-◌, length}
use Rattle.std.specs.Io.KnownBytes.{Consumes}
use Rattle.gob_stream.specs.Calls.Ends.{failed_reads, reader_of}
use Rattle.gob_stream.specs.Calls.Waiting.{waiting}
use Rattle.gob_salvage.proofs.run.read_all.Given as goal

abbrev pub invariant-reads : goal.invariant-reads
invariant-reads g l =
    Consumes (g.R.Read.remaining (reader_of l.fn.input)) (g.R.Read.remaining (reader_of l.input)) (waiting l.read)
    × (failed_reads l.input ≡ failed_reads l.fn.input)

abbrev pub decreases-reads : goal.decreases-reads
decreases-reads g l = l.most + 1 - length (waiting l.read)
