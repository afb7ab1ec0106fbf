-- The wanted type is found, the lines of the definitions and of what is received go out, and a flush ends it.
use Rattle.std.proofs.Common.{◌∙◌, [], Err, Some, inr, refl}
use Rattle.gob_types.specs.Defined.{types}
use Rattle.gob_stream.specs.Bounds.{within_trees}
use Rattle.gob_stream.specs.Calls.Ends.{failed_writes, reader_of, writer_of}
use Rattle.gob_tool.specs.Showing.{CountsWriteFaults}
use Rattle.gob_tool.specs.declared.fault.ToolFault.TheVariants as fault
use Rattle.gob_tool.proofs.EndLaws.{at_error}
use Rattle.gob_convert.specs.Converting.{in_front}
use Rattle.gob_convert.specs.Faults.{IsAmongRenames, OfRun}
use Rattle.gob_convert.specs.Printing.{TakeGoAnswers}
use Rattle.gob_convert.specs.declared.fault.ConvertFault.TheVariants as stop
use Rattle.gob_convert.proofs.EndingLaws.{among_any, behind_ended, converted_at, ended_own, ended_reads}
use Rattle.gob_convert.proofs.EndingLaws.{no_memory_at_all, target_unfound, target_writes, untouched}
use Rattle.gob_convert.proofs.PrintingLaws.{prints_ended, prints_none, prints_under}
use Rattle.gob_convert.proofs.take.run_take_go.Goals as goal

pub returns-in_err-front-clause-taken : goal.returns-in_err-front-clause-taken
returns-in_err-front-clause-taken g c = λ wanted_bytes bytes wanted known.
    let old = g.W.Write.contents (writer_of c.args.output.now) in
    at_error (λ r. TakeGoAnswers c.args.options.now.renames.now c.args.options.now.all
    (within_trees c.args.options.now.limits)
    wanted_bytes bytes (g.Q.Read.remaining (reader_of c.args.wanted.now))
    (g.R.Read.remaining (reader_of c.args.input.now)) old old
    c.args.left_out.now c.args.left_out.now r) c.from_residual.result (stop.Run fault.Memory)
    c.from_residual.ensures.1 (record {
      stream = [];
      converted = no_memory_at_all c.args.left_out.now (untouched (Some []) known);
      printed = prints_none (within_trees c.args.options.now.limits) old (Err (stop.Run fault.Memory));
    })

pub returns-in_err-target-clause-taken : goal.returns-in_err-target-clause-taken
returns-in_err-target-clause-taken g c = λ wanted_bytes bytes wanted known.
    let old = g.W.Write.contents (writer_of c.args.output.now) in
    let e = c.in_err-target.field-0.0 in
    at_error (λ r. TakeGoAnswers c.args.options.now.renames.now c.args.options.now.all
    (within_trees c.args.options.now.limits)
    wanted_bytes bytes (g.Q.Read.remaining (reader_of c.put_wanted.new.wanted))
    (g.R.Read.remaining (reader_of c.args.input.now)) old old
    c.args.left_out.now c.args.left_out.now r) c.from_residual-in_err-target.result e
    c.from_residual-in_err-target.ensures.1 (record {
      stream = [];
      converted = target_unfound c.args.left_out.now c.put_wanted.new.front e c.in_ok-front.ensures.limits
          (c.in_err-target.ensures.found wanted_bytes wanted) (untouched (Some []) known);
      printed = prints_none (within_trees c.args.options.now.limits) old (Err e);
    })

pub returns-in_err-target-clause-writes : goal.returns-in_err-target-clause-writes
returns-in_err-target-clause-writes g c =
    let n = failed_writes c.args.output.now in
    at_error (λ r. OfRun (CountsWriteFaults n n) r) c.from_residual-in_err-target.result c.in_err-target.field-0.0
    c.from_residual-in_err-target.ensures.1 (target_writes n c.in_err-target.field-0.0 c.in_err-target.ensures.stop)

pub returns-clause-taken : goal.returns-clause-taken
returns-clause-taken g c = λ wanted_bytes bytes wanted known.
    let out = c.take_out-answer in
    let now = g.R.Read.remaining (reader_of out.new.input) in
    let t = c.in_ok-target.target in
    let h = c.in_ok-target.ensures.found wanted_bytes wanted in
    let limits = c.in_ok-target.ensures.limits ∙ c.in_ok-front.ensures.limits in
    let taken = out.ensures.taken (in_front h.items) bytes h.holds.put known in
    record {
      stream = taken.0;
      converted = converted_at h c.in_ok-front.ensures.limits limits c.in_ok-target.ensures.all
          (behind_ended t.all _ bytes now (types t.table) t.id (in_front h.items) (Some []) (Some taken.0)
          (Some taken.0) c.args.left_out.now out.new.left_out out.result c.end_conversion.result refl
          c.end_conversion.ensures.ends taken.1);
      printed = prints_under taken.0 (g.W.Write.contents (writer_of c.args.output.now))
          (g.W.Write.contents (writer_of c.end_conversion.new.output)) c.end_conversion.result limits
          (prints_ended _ taken.0
          (g.W.Write.contents (writer_of c.args.output.now)) (g.W.Write.contents (writer_of out.new.output))
          (g.W.Write.contents (writer_of c.end_conversion.new.output)) c.end_conversion.ensures.bytes out.result
          c.end_conversion.result c.end_conversion.ensures.ends taken.2);
    }

pub returns-clause-among : goal.returns-clause-among
returns-clause-among g c = ended_own (IsAmongRenames _) c.take_out-answer.result c.end_conversion.result
    c.end_conversion.ensures.ends c.take_out-answer.ensures.own (λ f own. among_any _ f own)

pub returns-clause-unread : goal.returns-clause-unread
returns-clause-unread g c = ended_own _ c.take_out-answer.result c.end_conversion.result
    c.end_conversion.ensures.ends c.take_out-answer.ensures.own (λ f own before. absurd (own before))

pub returns-clause-reads : goal.returns-clause-reads
returns-clause-reads g c = ended_reads _ _ _ _ c.take_out-answer.result c.end_conversion.result
    c.in_ok-target.ensures.reads c.end_conversion.ensures.ends c.take_out-answer.ensures.reads

pub returns-clause-writes : goal.returns-clause-writes
returns-clause-writes g c =
    c.end_conversion.ensures.writes (failed_writes c.args.output.now) c.take_out-answer.ensures.writes

pub returns-clause-flushed : goal.returns-clause-flushed
returns-clause-flushed g c =
    inr (c.end_conversion.ensures.flushed (failed_writes c.args.output.now) c.take_out-answer.ensures.writes)
