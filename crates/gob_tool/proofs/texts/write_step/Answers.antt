use Rattle.std.proofs.Common.{◌≡◌, IfErr, subst}
use Rattle.std.specs.Io.KnownBytes.{Appends}
use Rattle.gob_stream.specs.Calls.Ends.{failed_writes, writer_of}
use Rattle.gob_stream.specs.Calls.Writing.{SentPrefix}
use Rattle.gob_tool.specs.Ending.{CountsOnlyWrites}
use Rattle.gob_tool.specs.Fault.{writing_fault}
use Rattle.gob_tool.specs.Texts.{answers, IsStopBy, IsTextBy}
use Rattle.gob_tool.specs.declared.fault.ToolFault.TheVariants as fault
use Rattle.gob_tool.proofs.EndLaws.{at_error, writing_unread}
use Rattle.gob_tool.proofs.TextLaws.{next_at, step_stopped, texts_cut}
use Rattle.gob_tool.proofs.texts.write_step.Goals as goal

pub returns-in_err-step_text-clause-written : goal.returns-in_err-step_text-clause-written
returns-in_err-step_text-clause-written g c = λ read now given h.
    let D = g.S.Steps.stepping in
    let out = g.W.Write.contents (writer_of c.args.output.now) in
    let Is = IsTextBy D (g.M.TextSteps.of_item c.args.texts.now) (g.M.TextSteps.of_value c.args.texts.now) in
    let Stop = IsStopBy D (g.M.TextSteps.stops c.args.texts.now) in
    next_at D Is Stop c.args.reader.now c.step_text.new.reader read now given out out c.from_residual.result
    c.in_err-step_text.field-0.0 c.from_residual.ensures.1
    (λ bytes known start o. step_stopped D Is Stop start out (c.in_err-step_text.ensures.made read now given h) bytes
    known o)

pub returns-in_err-step_text-clause-writes : goal.returns-in_err-step_text-clause-writes
returns-in_err-step_text-clause-writes g c =
    let failures = failed_writes c.args.output.now in
    at_error (λ r. CountsOnlyWrites failures failures r) c.from_residual.result c.in_err-step_text.field-0.0
    c.from_residual.ensures.1 (c.in_err-step_text.ensures.unwritten failures)

pub returns-in_err-send_all-clause-written : goal.returns-in_err-send_all-clause-written
returns-in_err-send_all-clause-written g c = λ read now given h.
    let D = g.S.Steps.stepping in
    let old = g.W.Write.contents (writer_of c.args.output.now) in
    let new = g.W.Write.contents (writer_of c.send_all.new.self) in
    let Is = IsTextBy D (g.M.TextSteps.of_item c.args.texts.now) (g.M.TextSteps.of_value c.args.texts.now) in
    let Stop = IsStopBy D (g.M.TextSteps.stops c.args.texts.now) in
    let m = c.in_ok-step_text.ensures.made read now given h in
    next_at D Is Stop c.args.reader.now c.step_text.new.reader read now given old new
    c.from_residual-in_err-send_all.result (writing_fault c.in_err-send_all.field-0.0)
    c.from_residual-in_err-send_all.ensures.1
    (rw c.in_err-send_all.ensures.fault
    (λ bytes known start o. answers (texts_cut D {Is = Is} start old new m.0
    (subst (λ l. SentPrefix l old new) c.deref.ensures.value c.in_err-send_all.ensures.prefix) bytes known o)))

pub returns-in_err-send_all-clause-unread : goal.returns-in_err-send_all-clause-unread
returns-in_err-send_all-clause-unread g c =
    let e = c.in_err-send_all.field-0.0 in
    at_error (λ r. IfErr r (λ f. f ≡ fault.Read → ⊥)) c.from_residual-in_err-send_all.result (writing_fault e)
    c.from_residual-in_err-send_all.ensures.1 (writing_unread e)

pub returns-clause-written : goal.returns-clause-written
returns-clause-written g c = λ read now given h.
    let old = g.W.Write.contents (writer_of c.args.output.now) in
    let new = g.W.Write.contents (writer_of c.send_all.new.self) in
    let m = c.in_ok-step_text.ensures.made read now given h in (
      c.step_text.new.text.items,
      m,
      subst (λ l. Appends old new l) c.deref.ensures.value c.in_ok-send_all.ensures.ok,
    )
