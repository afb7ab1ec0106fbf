use Rattle.gob_stream.specs.Bounds.{deepest, no_deeper}
use Rattle.gob_stream.specs.Calls.Ends.{reader_of, writer_of}
use Rattle.gob_tool.proofs.RewriteLaws.{rewritten_so}
use Rattle.gob_tool.proofs.rewrite.run_rewrite.Goals as goal

pub returns-clause-rewritten : goal.returns-clause-rewritten
returns-clause-rewritten g c = λ bytes known.
    rewritten_so (no_deeper deepest c.args.limits) bytes (g.R.Read.remaining (reader_of c.run_texts.new.input))
    (g.W.Write.contents (writer_of c.args.output.now)) (g.W.Write.contents (writer_of c.run_texts.new.output))
    c.run_texts.result (c.run_texts.ensures.written bytes known)
