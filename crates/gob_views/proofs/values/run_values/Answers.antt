use Rattle.gob_stream.specs.Bounds.{within_trees}
use Rattle.gob_stream.specs.Calls.Ends.{reader_of, writer_of}
use Rattle.gob_tool.proofs.Profile.TextLaws.{texts_of}
use Rattle.gob_views.specs.Values.{IsPlainLine}
use Rattle.gob_views.proofs.values.run_values.Goals as goal

pub returns-clause-printed : goal.returns-clause-printed
returns-clause-printed g c = λ bytes known.
    texts_of (IsPlainLine c.args.lines) (within_trees c.args.limits) bytes
    (g.R.Read.remaining (reader_of c.run_texts.new.input)) (g.W.Write.contents (writer_of c.args.output.now))
    (g.W.Write.contents (writer_of c.run_texts.new.output)) c.run_texts.result
    (c.run_texts.ensures.written bytes known)
