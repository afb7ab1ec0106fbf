use Rattle.gob_stream.specs.Bounds.{within_trees}
use Rattle.gob_stream.specs.Calls.Ends.{failed_writes, reader_of, writer_of}
use Rattle.gob_views.proofs.TypeRuns.{types_ended}
use Rattle.gob_views.proofs.types.run_types.Goals as goal

pub returns-clause-written : goal.returns-clause-written
returns-clause-written g c = λ bytes known.
    types_ended c.args.form (within_trees c.args.limits) bytes (g.R.Read.remaining (reader_of c.write_types.new.input))
    (g.W.Write.contents (writer_of c.args.output.now)) (g.W.Write.contents (writer_of c.write_types.new.output))
    (g.W.Write.contents (writer_of c.end_run.new.output)) c.write_types.result c.end_run.result c.end_run.ensures.bytes
    c.end_run.ensures.ends (c.write_types.ensures.written bytes known)

pub returns-clause-writes : goal.returns-clause-writes
returns-clause-writes g c = c.end_run.ensures.writes (failed_writes c.args.output.now) c.write_types.ensures.writes

pub returns-clause-flushed : goal.returns-clause-flushed
returns-clause-flushed g c = c.end_run.ensures.flushed (failed_writes c.args.output.now) c.write_types.ensures.writes
