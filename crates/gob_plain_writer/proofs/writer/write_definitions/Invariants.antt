-- So many definitions went out.
use Rattle.gob_stream.specs.Bounds.{Bounds, within_trees}
use Rattle.gob_stream.specs.Calls.Ends.{writer_of}
use Rattle.gob_stream.specs.Calls.Writing.{IsNew}
use Rattle.gob_stream.proofs.Written.WriteStreamSteps.{WroteSome}
use Rattle.gob_write.specs.Making.{definitions_of}
use Rattle.gob_plain_writer.proofs.writer.write_definitions.Given as goal

abbrev pub invariant-loop-definition : goal.invariant-loop-definition
invariant-loop-definition g l = record {
  wrote : (L : Bounds) → IsNew l.fn.stream (within_trees L)
      → WroteSome (within_trees L) (definitions_of l.definitions) l.definition-index l.stream
      (g.W.Write.contents (writer_of l.fn.output)) (g.W.Write.contents (writer_of l.output));
}
