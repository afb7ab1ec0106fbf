-- The values of what was read are converted, and the lines of what is written went out.
use Rattle.std.proofs.Common.{◌≡◌, ◌+◌, ◌-◌, ℕ, [], List, Option, Some}
use Rattle.gob_types.specs.Defined.{types}
use Rattle.gob_filled.specs.Stream.{FilledItem}
use Rattle.gob_stream.specs.Calls.Ends.{failed_reads, failed_writes, reader_of, writer_of}
use Rattle.gob_go.specs.Calls.Reader.{session_of}
use Rattle.gob_go.specs.Calls.Session.{limits_of, taken_of}
use Rattle.gob_go_writer.specs.Calls.Writer.{HasPut}
use Rattle.gob_convert.specs.Machine.Converting.{ConvertsSo, KnowsSo}
use Rattle.gob_convert.specs.Machine.Printing.{HasShown}
use Rattle.gob_convert.proofs.take.take_items.Given as goal

abbrev pub invariant-items : goal.invariant-items
invariant-items g l = record {
  limits : limits_of (session_of l.reader) ≡ limits_of (session_of l.fn.reader);
  shown : limits_of l.taking.shown ≡ limits_of (session_of l.fn.reader);
  reads : failed_reads l.input ≡ failed_reads l.fn.input;
  writes : failed_writes l.output ≡ failed_writes l.fn.output;
  knows : KnowsSo l.reader (g.R.Read.remaining (reader_of l.fn.input)) (g.R.Read.remaining (reader_of l.input))
      l.taking.conversion (types l.target.table) l.target.id;
  so : (items : List FilledItem) (out : List ℕ) (start : Option (List ℕ))
      → HasPut l.fn.taking.conversion.writer items out
      → HasShown l.fn.taking.shown out start (g.W.Write.contents (writer_of l.fn.output))
      → (stream : List ℕ) × ConvertsSo l.target.all l.reader (g.R.Read.remaining (reader_of l.fn.input))
      (g.R.Read.remaining (reader_of l.input)) l.taking.conversion (types l.target.table) l.target.id items out
      (Some []) (Some stream) l.fn.taking.conversion.left_out
      × HasShown l.taking.shown stream start (g.W.Write.contents (writer_of l.output));
}

-- each turn takes a byte at least
abbrev pub decreases-items : goal.decreases-items
decreases-items g l = let s = session_of l.reader in (limits_of s).stream + 9 - taken_of s
