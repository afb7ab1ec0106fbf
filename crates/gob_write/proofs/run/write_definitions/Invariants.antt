-- So many definitions went out.
use Rattle.std.proofs.Common.{◌≡◌, []}
use Rattle.gob_types.specs.Base.{base_table}
use Rattle.gob_stream.specs.Calls.Ends.{failed_writes, writer_of}
use Rattle.gob_write.specs.Says.{HasWrittenTexts, IsWithinTrees, Saying}
use Rattle.gob_write.proofs.MakeLaws.{HasWrittenSome}
use Rattle.gob_write.proofs.run.write_definitions.Given as goal

abbrev pub invariant-loop-definition : goal.invariant-loop-definition
invariant-loop-definition g l = record {
  wrote : (S : Saying) → IsWithinTrees S → HasWrittenTexts S l.fn.writer [] [] base_table
      → HasWrittenSome S l.definitions l.definition-index l.writer (g.W.Write.contents (writer_of l.fn.output))
      (g.W.Write.contents (writer_of l.output));
  writes : failed_writes l.output ≡ failed_writes l.fn.output;
}
