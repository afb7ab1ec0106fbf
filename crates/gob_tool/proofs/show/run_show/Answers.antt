use Rattle.gob_stream.specs.Bounds.{within_trees}
use Rattle.gob_stream.specs.Calls.Ends.{reader_of, writer_of}
use Rattle.gob_tool.proofs.ShowLaws.{texts_are_lines}
use Rattle.gob_tool.proofs.show.run_show.Goals as goal

pub returns-clause-shown : goal.returns-clause-shown
returns-clause-shown g c = λ bytes known.
    texts_are_lines (within_trees c.args.limits) bytes (g.R.Read.remaining (reader_of c.run_texts.new.input))
    (g.W.Write.contents (writer_of c.args.output.now)) (g.W.Write.contents (writer_of c.run_texts.new.output))
    c.run_texts.result (c.run_texts.ensures.written bytes known)
