-- The definitions of the items that were given were appended.
use Rattle.std.proofs.Common.{◌≡◌, ◌+◌, ◌-◌}
use Rattle.gob_stream.specs.Calls.Ends.{failed_reads, reader_of}
use Rattle.gob_go.specs.Calls.Reader.{session_of}
use Rattle.gob_go.specs.Calls.Session.{limits_of, taken_of}
use Rattle.gob_split.specs.Machine.Defining.{AppendsSo}
use Rattle.gob_split.proofs.definitions.push_definitions.Given as goal

abbrev pub invariant-items : goal.invariant-items
invariant-items g l = record {
  limits : limits_of (session_of l.reader) ≡ l.fn.limits;
  reads : failed_reads l.input ≡ failed_reads l.fn.input;
  so : AppendsSo l.reader (g.R.Read.remaining (reader_of l.fn.input)) (g.R.Read.remaining (reader_of l.input))
      l.fn.defining.items l.defining.items;
}

-- each turn takes a byte at least
abbrev pub decreases-items : goal.decreases-items
decreases-items g l = let s = session_of l.reader in (limits_of s).stream + 9 - taken_of s
