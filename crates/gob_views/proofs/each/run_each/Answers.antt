use Rattle.std.proofs.Common.{Result, inl, subst, sym, ℕ}
use Rattle.gob_stream.specs.Bounds.{within_trees}
use Rattle.gob_stream.specs.Calls.Ends.{failed_reads, failed_writes, reader_of, writer_of}
use Rattle.gob_tool.specs.Ending.{EndsRun, ends_so, flush_fails}
use Rattle.gob_tool.specs.Showing.{CountsReadFaults}
use Rattle.gob_tool.specs.declared.fault.ToolFault.{ToolFault}
use Rattle.gob_views.proofs.EachRuns.{each_ended}
use Rattle.gob_views.proofs.each.run_each.Goals as goal

pub returns-clause-printed : goal.returns-clause-printed
returns-clause-printed g c = λ bytes known.
    let answer = c.write_each-answer in
    each_ended c.args.lines (within_trees c.args.limits) bytes (g.R.Read.remaining (reader_of answer.new.input))
    (g.W.Write.contents (writer_of c.args.output.now)) (g.W.Write.contents (writer_of answer.new.output))
    (g.W.Write.contents (writer_of c.end_run.new.output)) answer.result c.end_run.result c.end_run.ensures.bytes
    c.end_run.ensures.ends (answer.ensures.printed bytes known)

pub returns-clause-writes : goal.returns-clause-writes
returns-clause-writes g c =
    c.end_run.ensures.writes (failed_writes c.args.output.now) c.write_each-answer.ensures.writes

pub returns-clause-flushed : goal.returns-clause-flushed
returns-clause-flushed g c =
    c.end_run.ensures.flushed (failed_writes c.args.output.now) c.write_each-answer.ensures.writes

reads_ended : (old new : ℕ) {answer result : Result (Unit {0}) ToolFault} → EndsRun answer result
    → CountsReadFaults old new answer → CountsReadFaults old new result
reads_ended old new (ends_so e) h = subst (λ (r : Result (Unit {0}) ToolFault). CountsReadFaults old new r) (sym e) h
reads_ended old new (flush_fails a e) h =
    subst (λ (r : Result (Unit {0}) ToolFault). CountsReadFaults old new r) (sym e)
    (inl (subst (λ (r : Result (Unit {0}) ToolFault). CountsReadFaults old new r) a h))

pub returns-clause-reads : goal.returns-clause-reads
returns-clause-reads g c =
    let answer = c.write_each-answer in
    reads_ended (failed_reads c.args.input.now) (failed_reads answer.new.input) c.end_run.ensures.ends
    answer.ensures.reads
