use Rattle.gob_stream.specs.Bounds.{within_trees}
use Rattle.gob_stream.specs.Calls.Ends.{failed_writes, reader_of, writer_of}
use Rattle.gob_why.proofs.WhyLaws.{why_ended}
use Rattle.gob_why.proofs.run.run_why.Goals as goal

pub returns-clause-told : goal.returns-clause-told
returns-clause-told g c = λ bytes known.
    why_ended (within_trees c.args.limits) bytes (g.R.Read.remaining (reader_of c.tell_stream.new.input))
    (g.W.Write.contents (writer_of c.args.output.now)) (g.W.Write.contents (writer_of c.tell_stream.new.output))
    (g.W.Write.contents (writer_of c.end_run.new.output)) c.tell_stream.result c.end_run.result c.end_run.ensures.bytes
    c.end_run.ensures.ends (c.tell_stream.ensures.told bytes known)

pub returns-clause-writes : goal.returns-clause-writes
returns-clause-writes g c = c.end_run.ensures.writes (failed_writes c.args.output.now) c.tell_stream.ensures.writes

pub returns-clause-flushed : goal.returns-clause-flushed
returns-clause-flushed g c = c.end_run.ensures.flushed (failed_writes c.args.output.now) c.tell_stream.ensures.writes
