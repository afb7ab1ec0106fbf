-- What is left of the inputs is what the run left; what the writer has and what was lost are what the run wrote.
use Rattle.std.proofs.Common.{subst, sym}
use Rattle.std.specs.Io.Buffered.{writer_contents}
use Rattle.gob_stream.specs.Bounds.{within_trees}
use Rattle.gob_stream.specs.Calls.Ends.{failed_writes, reader_of, writer_of}
use Rattle.gob_convert.specs.Faults.{OfRun}
use Rattle.gob_tool.specs.Running.{order_limits}
use Rattle.gob_tool.specs.Showing.{CountsWriteFaults}
use Rattle.gob.specs.Converting.{ConvertsOrTakes}
use Rattle.gob.proofs.convert.convert_out.Goals as goal

pub returns-clause-ends : goal.returns-clause-ends
returns-clause-ends g c =
    let renames = c.args.asked.now.renames.items in
    let L = within_trees (order_limits c.args.asked.now.order) in
    let run = c.run_asked-answer in
    let wanted_now = g.Q.Read.remaining (reader_of run.new.wanted) in
    let now = g.R.Read.remaining (reader_of run.new.input) in
    let left = writer_of run.new.output in
    let told = c.args.left_out.now in
    let telling = run.new.left_out in
    let settled = c.settled_as.ensures.settled in
    record {
      answer = run.result;
      lost = settled.lost;
      ends = settled.ends;
      reads = run.ensures.reads;
      writes = subst (λ n. OfRun (CountsWriteFaults 0 n) run.result) (sym c.settled_as.ensures.counted)
          (subst (λ n. OfRun (CountsWriteFaults n (failed_writes run.new.output)) run.result)
          c.new-output.ensures.failures run.ensures.writes);
      does = λ wanted_bytes bytes sought known.
          subst (λ n. ConvertsOrTakes c.args.asked.now.in_lines renames c.args.asked.now.all L wanted_bytes bytes
          wanted_now now
          (writer_contents (λ pipe. g.W.Write.contents pipe.writer) c.args.writer) n told telling run.result)
          settled.all
          (subst (λ w. ConvertsOrTakes c.args.asked.now.in_lines renames c.args.asked.now.all L wanted_bytes bytes
          wanted_now now
          (writer_contents (λ pipe. g.W.Write.contents pipe.writer) w)
          (writer_contents (λ pipe. g.W.Write.contents pipe.writer) left) told telling run.result)
          c.new-output.ensures.writer
          (run.ensures.does wanted_bytes bytes sought known));
    }
