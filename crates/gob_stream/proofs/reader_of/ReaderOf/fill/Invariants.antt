-- What was read waits behind what waited, and the session is as it was.
use Rattle.std.proofs.Common.{◌≡◌, ℕ, List, Option}
use Rattle.gob_stream.specs.Calls.Ends.{failed_reads, reader_of}
use Rattle.gob_stream.specs.Calls.ReaderOf.{HasFailedBy, HasReadBy, left_to_read, session_of, types_behind, waits_in}
use Rattle.gob_stream.proofs.Reader.ReaderOfLaws.{StandsOn}
use Rattle.gob_stream.proofs.reader_of.ReaderOf.fill.Given as goal

abbrev pub invariant-reads : goal.invariant-reads
invariant-reads g l =
    let D = g.S.Steps.stepping in
    (session_of l.self ≡ session_of l.fn.self)
    × (failed_reads l.input ≡ failed_reads l.fn.input)
    × ((read : Option (List ℕ)) (items : List g.S.Steps.Told)
    → (h : HasReadBy D l.fn.self read (g.R.Read.remaining (reader_of l.fn.input)) items)
    → StandsOn D l.self (types_behind D h) read (g.R.Read.remaining (reader_of l.input)) items)
    × (¬ HasFailedBy D l.fn.self)

abbrev pub decreases-reads : goal.decreases-reads
decreases-reads g l = left_to_read l.self.ended (waits_in l.self) (g.S.Steps.stepping.taken (session_of l.self))
    (g.S.Steps.stepping.limits (session_of l.self)).stream
