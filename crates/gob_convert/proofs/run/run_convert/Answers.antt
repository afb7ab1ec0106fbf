-- The wanted type is found, the definitions and what is received go out, and a flush ends it.
use Rattle.std.proofs.Common.{◌∙◌, inr}
use Rattle.gob_types.specs.Defined.{types}
use Rattle.gob_stream.specs.Bounds.{within_trees}
use Rattle.gob_stream.specs.Calls.Ends.{failed_writes, reader_of, writer_of}
use Rattle.gob_tool.specs.Showing.{CountsWriteFaults}
use Rattle.gob_tool.specs.declared.fault.ToolFault.TheVariants as fault
use Rattle.gob_tool.proofs.EndLaws.{at_error}
use Rattle.gob_convert.specs.Faults.{IsAmongRenames, OfRun}
use Rattle.gob_convert.specs.Running.{ConvertAnswers}
use Rattle.gob_convert.specs.declared.fault.ConvertFault.TheVariants as stop
use Rattle.gob_convert.proofs.EndingLaws.{among_any, behind_ended, converted_behind, ended_own, ended_reads}
use Rattle.gob_convert.proofs.EndingLaws.{no_memory_at_all, target_unfound, target_writes, untouched}
use Rattle.gob_convert.proofs.run.run_convert.Goals as goal

pub returns-in_err-front-clause-converted : goal.returns-in_err-front-clause-converted
returns-in_err-front-clause-converted g c = λ wanted_bytes bytes wanted known.
    let old = g.W.Write.contents (writer_of c.args.output.now) in
    at_error (λ r. ConvertAnswers c.args.options.now.renames.now c.args.options.now.all
    (within_trees c.args.options.now.limits)
    wanted_bytes bytes (g.Q.Read.remaining (reader_of c.args.wanted.now))
    (g.R.Read.remaining (reader_of c.args.input.now)) old old
    c.args.left_out.now c.args.left_out.now r) c.from_residual.result (stop.Run fault.Memory)
    c.from_residual.ensures.1 (no_memory_at_all c.args.left_out.now (untouched old known))

pub returns-in_err-target-clause-converted : goal.returns-in_err-target-clause-converted
returns-in_err-target-clause-converted g c = λ wanted_bytes bytes wanted known.
    let old = g.W.Write.contents (writer_of c.args.output.now) in
    let e = c.in_err-target.field-0.0 in
    at_error (λ r. ConvertAnswers c.args.options.now.renames.now c.args.options.now.all
    (within_trees c.args.options.now.limits)
    wanted_bytes bytes (g.Q.Read.remaining (reader_of c.put_wanted.new.wanted))
    (g.R.Read.remaining (reader_of c.args.input.now)) old old
    c.args.left_out.now c.args.left_out.now r) c.from_residual-in_err-target.result e
    c.from_residual-in_err-target.ensures.1
    (target_unfound c.args.left_out.now c.put_wanted.new.front e c.in_ok-front.ensures.limits
    (c.in_err-target.ensures.found wanted_bytes wanted) (untouched old known))

pub returns-in_err-target-clause-writes : goal.returns-in_err-target-clause-writes
returns-in_err-target-clause-writes g c =
    let n = failed_writes c.args.output.now in
    at_error (λ r. OfRun (CountsWriteFaults n n) r) c.from_residual-in_err-target.result c.in_err-target.field-0.0
    c.from_residual-in_err-target.ensures.1 (target_writes n c.in_err-target.field-0.0 c.in_err-target.ensures.stop)

pub returns-clause-converted : goal.returns-clause-converted
returns-clause-converted g c = λ wanted_bytes bytes wanted known.
    let out = c.convert_out-answer in
    let now = g.R.Read.remaining (reader_of out.new.input) in
    let t = c.in_ok-target.target in
    converted_behind (c.in_ok-target.ensures.found wanted_bytes wanted) c.in_ok-front.ensures.limits
    (c.in_ok-target.ensures.limits ∙ c.in_ok-front.ensures.limits) c.in_ok-target.ensures.all
    (λ items h. behind_ended t.all _ bytes now (types t.table) t.id items (g.W.Write.contents (writer_of
    c.args.output.now))
    (g.W.Write.contents (writer_of out.new.output)) (g.W.Write.contents (writer_of c.end_conversion.new.output))
    c.args.left_out.now out.new.left_out out.result c.end_conversion.result c.end_conversion.ensures.bytes
    c.end_conversion.ensures.ends
    (out.ensures.converted items bytes h known))

pub returns-clause-among : goal.returns-clause-among
returns-clause-among g c = ended_own (IsAmongRenames _) c.convert_out-answer.result c.end_conversion.result
    c.end_conversion.ensures.ends c.convert_out-answer.ensures.own (λ f own. among_any _ f own)

pub returns-clause-unread : goal.returns-clause-unread
returns-clause-unread g c = ended_own _ c.convert_out-answer.result c.end_conversion.result
    c.end_conversion.ensures.ends c.convert_out-answer.ensures.own (λ f own before. absurd (own before))

pub returns-clause-reads : goal.returns-clause-reads
returns-clause-reads g c = ended_reads _ _ _ _ c.convert_out-answer.result c.end_conversion.result
    c.in_ok-target.ensures.reads c.end_conversion.ensures.ends c.convert_out-answer.ensures.reads

pub returns-clause-writes : goal.returns-clause-writes
returns-clause-writes g c =
    c.end_conversion.ensures.writes (failed_writes c.args.output.now) c.convert_out-answer.ensures.writes

pub returns-clause-flushed : goal.returns-clause-flushed
returns-clause-flushed g c =
    inr (c.end_conversion.ensures.flushed (failed_writes c.args.output.now) c.convert_out-answer.ensures.writes)
