use Rattle.gob_stream.specs.Bounds.{within_trees}
use Rattle.gob_stream.specs.Calls.Ends.{failed_writes, reader_of, writer_of}
use Rattle.gob_why.proofs.ExplainLaws.{explain_ended}
use Rattle.gob_why.proofs.explain.run_explain.Goals as goal

pub returns-clause-explained : goal.returns-clause-explained
returns-clause-explained g c = λ bytes known.
    explain_ended c.args.which (within_trees c.args.limits) bytes
    (g.R.Read.remaining (reader_of c.explain_stream.new.input)) (g.W.Write.contents (writer_of c.args.output.now))
    (g.W.Write.contents (writer_of c.explain_stream.new.output)) (g.W.Write.contents (writer_of c.end_run.new.output))
    c.explain_stream.result c.end_run.result c.end_run.ensures.bytes c.end_run.ensures.ends
    (c.explain_stream.ensures.explained bytes known)

pub returns-clause-writes : goal.returns-clause-writes
returns-clause-writes g c = c.end_run.ensures.writes (failed_writes c.args.output.now) c.explain_stream.ensures.writes

pub returns-clause-flushed : goal.returns-clause-flushed
returns-clause-flushed g c = c.end_run.ensures.flushed (failed_writes c.args.output.now)
    c.explain_stream.ensures.writes
