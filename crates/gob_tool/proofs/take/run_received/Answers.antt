use Rattle.gob_stream.specs.Bounds.{within_trees}
use Rattle.gob_stream.specs.Calls.Ends.{failed_reads, failed_writes, reader_of, writer_of}
use Rattle.gob_tool.proofs.EndLaws.{ended_wanted}
use Rattle.gob_tool.proofs.TakeRuns.{take_counts, takes_ended}
use Rattle.gob_tool.proofs.take.run_received.Goals as goal

pub returns-clause-received : goal.returns-clause-received
returns-clause-received g c = λ wanted bytes known left.
    takes_ended c.args.form (within_trees c.args.limits) wanted bytes
    (g.Q.Read.remaining (reader_of c.receive_as_wanted.new.wanted))
    (g.R.Read.remaining (reader_of c.receive_as_wanted.new.input))
    (g.W.Write.contents (writer_of c.args.output.now)) (g.W.Write.contents (writer_of c.receive_as_wanted.new.output))
    (g.W.Write.contents (writer_of c.end_run.new.output)) c.receive_as_wanted.result c.end_run.result
    c.end_run.ensures.bytes
    c.end_run.ensures.ends (c.receive_as_wanted.ensures.received wanted bytes known left)

pub returns-clause-reads : goal.returns-clause-reads
returns-clause-reads g c =
    take_counts (failed_reads c.args.wanted.now) (failed_reads c.receive_as_wanted.new.wanted)
    (failed_reads c.args.input.now)
    (failed_reads c.receive_as_wanted.new.input) c.receive_as_wanted.result c.end_run.result c.end_run.ensures.ends
    c.receive_as_wanted.ensures.reads

pub returns-clause-writes : goal.returns-clause-writes
returns-clause-writes g c =
    c.end_run.ensures.writes (failed_writes c.args.output.now) c.receive_as_wanted.ensures.writes

pub returns-clause-flushed : goal.returns-clause-flushed
returns-clause-flushed g c =
    c.end_run.ensures.flushed (failed_writes c.args.output.now) c.receive_as_wanted.ensures.writes

pub returns-clause-unread : goal.returns-clause-unread
returns-clause-unread g c = ended_wanted _ c.end_run.ensures.ends c.receive_as_wanted.ensures.unread
