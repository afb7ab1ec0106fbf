use Rattle.gob_stream.specs.Calls.Ends.{failed_writes, reader_of, writer_of}
use Rattle.gob_tool.proofs.CheckLaws.{checks_ended}
use Rattle.gob_tool.proofs.check.run_check_in.Goals as goal

pub returns-clause-checked : goal.returns-clause-checked
returns-clause-checked g c = λ bytes known.
    let d = g.S.Steps.stepping in
    checks_ended d.grammar (d.within c.args.limits) bytes (g.R.Read.remaining (reader_of c.check_stream.new.input))
    (g.W.Write.contents (writer_of c.args.output.now)) (g.W.Write.contents (writer_of c.check_stream.new.output))
    (g.W.Write.contents (writer_of c.end_run.new.output)) c.check_stream.result c.end_run.result c.end_run.ensures.bytes
    c.end_run.ensures.ends (c.check_stream.ensures.checked bytes known)

pub returns-clause-writes : goal.returns-clause-writes
returns-clause-writes g c = c.end_run.ensures.writes (failed_writes c.args.output.now) c.check_stream.ensures.writes

pub returns-clause-flushed : goal.returns-clause-flushed
returns-clause-flushed g c = c.end_run.ensures.flushed (failed_writes c.args.output.now) c.check_stream.ensures.writes
