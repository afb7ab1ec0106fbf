-- The definitions that were read are kept, and the type of the first value is known.
use Rattle.std.proofs.Common.{◌≡◌, ◌+◌, ◌-◌}
use Rattle.gob_read.specs.Calls.Builders.{tree_building}
use Rattle.gob_stream.specs.Calls.Ends.{failed_reads, reader_of}
use Rattle.gob_stream.specs.Calls.Reader.{HasReadFrom, session_of}
use Rattle.gob_stream.specs.Calls.Session.{limits_of, taken_of}
use Rattle.gob_write.proofs.TypesLaws.{ReadsSo}
use Rattle.gob_write.proofs.types.read_definitions.Given as goal

abbrev pub invariant-steps : goal.invariant-steps
invariant-steps g l = record {
  limits : limits_of (session_of l.reader) ≡ limits_of (session_of l.fn.reader);
  reads : failed_reads l.input ≡ failed_reads l.fn.input;
  so : ReadsSo (HasReadFrom tree_building l.reader (g.Q.Read.remaining (reader_of l.fn.input))
      (g.Q.Read.remaining (reader_of l.input))) l.first l.definitions.items;
}

abbrev pub decreases-steps : goal.decreases-steps
decreases-steps g l = (limits_of (session_of l.reader)).stream + 9 - taken_of (session_of l.reader)
