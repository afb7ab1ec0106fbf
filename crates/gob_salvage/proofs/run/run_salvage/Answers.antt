use Rattle.gob_stream.specs.Bounds.{within_trees}
use Rattle.gob_stream.specs.Calls.Ends.{failed_writes, reader_of, writer_of}
use Rattle.gob_salvage.proofs.RunLaws.{salvage_ended}
use Rattle.gob_salvage.proofs.run.run_salvage.Goals as goal

pub returns-clause-kept : goal.returns-clause-kept
returns-clause-kept g c = λ bytes known.
    salvage_ended (within_trees c.args.limits) bytes (g.R.Read.remaining (reader_of c.send_kept.new.input))
    (g.W.Write.contents (writer_of c.args.output.now)) (g.W.Write.contents (writer_of c.send_kept.new.output))
    (g.W.Write.contents (writer_of c.end_run.new.output)) c.send_kept.new.told c.send_kept.result c.end_run.result
    c.end_run.ensures.bytes c.end_run.ensures.ends (c.send_kept.ensures.kept bytes known)

pub returns-clause-writes : goal.returns-clause-writes
returns-clause-writes g c = c.end_run.ensures.writes (failed_writes c.args.output.now) c.send_kept.ensures.writes

pub returns-clause-flushed : goal.returns-clause-flushed
returns-clause-flushed g c = c.end_run.ensures.flushed (failed_writes c.args.output.now) c.send_kept.ensures.writes
