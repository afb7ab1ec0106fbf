-- What is left of the input is what the run left; what the writer has and what was lost are what the run wrote.
use Rattle.std.proofs.Common.{subst, sym}
use Rattle.std.specs.Io.Buffered.{writer_contents}
use Rattle.gob_stream.specs.Bounds.{within_trees}
use Rattle.gob_stream.specs.Calls.Ends.{failed_writes, reader_of, writer_of}
use Rattle.gob_tool.specs.Showing.{CountsWriteFaults}
use Rattle.gob_salvage.specs.Behind.{BehindAnswers}
use Rattle.gob_views.specs.Running.{view_limits}
use Rattle.gob.proofs.salvage.salvage_out.Goals as goal

pub returns-clause-ends : goal.returns-clause-ends
returns-clause-ends g c =
    let front = c.args.front.now in
    let L = within_trees (view_limits c.args.view.now) in
    let run = c.run_salvage_behind-answer in
    let now = g.R.Read.remaining (reader_of run.new.input) in
    let left = writer_of run.new.output in
    let settled = c.settled.ensures.settled in
    record {
      answer = run.result;
      lost = settled.lost;
      ended = settled.told;
      tells = settled.tells;
      answered = settled.answered;
      reads = run.ensures.reads;
      writes = subst (λ n. CountsWriteFaults 0 n run.result) (sym c.settled.ensures.counted)
          (subst (λ n. CountsWriteFaults n (failed_writes run.new.output) run.result) c.new-output.ensures.failures
          run.ensures.writes);
      does = λ bytes known. subst (λ n. BehindAnswers L front bytes now
          (writer_contents (λ pipe. g.W.Write.contents pipe.writer) c.args.writer) n run.new.told run.result)
          settled.all (subst (λ w. BehindAnswers L front bytes now
          (writer_contents (λ pipe. g.W.Write.contents pipe.writer) w)
          (writer_contents (λ pipe. g.W.Write.contents pipe.writer) left) run.new.told run.result)
          c.new-output.ensures.writer (rw c.limits_of.ensures at run.ensures.kept bytes known));
    }
