-- A large item's text goes out while it is made; where none does nothing has changed.
use Rattle.std.proofs.Common.{◌≡◌, IfErr, ap, arith, length, subst}
use Rattle.gob_stream.specs.Calls.Ends.{failed_writes, writer_of}
use Rattle.gob_stream.specs.Calls.ReaderOf.{waits_in}
use Rattle.gob_tool.specs.Ending.{CountsOnlyWrites}
use Rattle.gob_tool.specs.Fault.{writing_fault}
use Rattle.gob_tool.specs.Texts.{answers, IsStopBy, IsTextBy}
use Rattle.gob_tool.specs.declared.fault.ToolFault.TheVariants as fault
use Rattle.gob_tool.proofs.EndLaws.{at_error, writing_unread}
use Rattle.gob_tool.proofs.TextLaws.{next_at, next_still, none_sent, some_sent, texts_cut}
use Rattle.gob_tool.proofs.texts.write_next.Goals as goal

pub returns-in_err-send_large-clause-written : goal.returns-in_err-send_large-clause-written
returns-in_err-send_large-clause-written g c = λ read now given h.
    let d = g.S.Steps.stepping in
    let Is = IsTextBy d (g.M.TextSteps.of_item c.args.texts.now) (g.M.TextSteps.of_value c.args.texts.now) in
    let old = g.W.Write.contents (writer_of c.args.output.now) in
    let new = g.W.Write.contents (writer_of c.send_large.new.output) in
    let Stop = IsStopBy d (g.M.TextSteps.stops c.args.texts.now) in
    let s = c.in_err-send_large.ensures.sent read now given h in
    next_at d Is Stop c.args.reader.now c.send_large.new.reader read now given old new c.from_residual.result
    (writing_fault c.in_err-send_large.field-0.0) c.from_residual.ensures.1
    (rw c.in_err-send_large.ensures.fault
    (λ bytes known start o. answers (texts_cut d {Is = Is} start old new s.1.0 s.2 bytes known o)))

pub returns-in_err-send_large-clause-unread : goal.returns-in_err-send_large-clause-unread
returns-in_err-send_large-clause-unread g c =
    let e = c.in_err-send_large.field-0.0 in
    at_error (λ r. IfErr r (λ f. f ≡ fault.Read → ⊥)) c.from_residual.result (writing_fault e) c.from_residual.ensures.1
    (writing_unread e)

pub returns-in_err-send_large-clause-writes : goal.returns-in_err-send_large-clause-writes
returns-in_err-send_large-clause-writes g c =
    at_error (λ r. CountsOnlyWrites (failed_writes c.args.output.now) (failed_writes c.send_large.new.output) r)
    c.from_residual.result (writing_fault c.in_err-send_large.field-0.0) c.from_residual.ensures.1
    (rw c.in_err-send_large.ensures.fault c.in_err-send_large.ensures.counted)

pub returns-then-branch-clause-written : goal.returns-then-branch-clause-written
returns-then-branch-clause-written g c = λ read now given h.
    let d = g.S.Steps.stepping in
    let Is = IsTextBy d (g.M.TextSteps.of_item c.args.texts.now) (g.M.TextSteps.of_value c.args.texts.now) in
    some_sent d {Is = Is} c.args.reader.now c.send_large.new.reader read now given
    (g.W.Write.contents (writer_of c.args.output.now)) (g.W.Write.contents (writer_of c.send_large.new.output))
    c.in_ok-send_large.field-0 c.if-branch.true (c.in_ok-send_large.ensures.sent read now given h)

pub write_gathered-requires : goal.write_gathered-requires
write_gathered-requires g c =
    let same = none_sent c.in_ok-send_large.field-0 c.if-branch.false c.in_ok-send_large.ensures.same in
    record {
      some = omega (arith, ap (λ r. length (waits_in r)) same.0, c.requires.some);
      so_far = rw same.0 c.requires.so_far;
      fits = c.in_ok-send_large.ensures.fits;
    }

pub returns-clause-written : goal.returns-clause-written
returns-clause-written g c = λ read now given h.
    let d = g.S.Steps.stepping in
    let Is = IsTextBy d (g.M.TextSteps.of_item c.args.texts.now) (g.M.TextSteps.of_value c.args.texts.now) in
    let same = none_sent c.in_ok-send_large.field-0 c.if-branch.false c.in_ok-send_large.ensures.same in
    next_still d Is (IsStopBy d (g.M.TextSteps.stops c.args.texts.now)) c.args.reader.now c.send_large.new.reader
    c.write_gathered.new.reader read now given
    (g.W.Write.contents (writer_of c.args.output.now)) (g.W.Write.contents (writer_of c.send_large.new.output))
    (g.W.Write.contents (writer_of c.write_gathered.new.output)) c.write_gathered.result same.0 same.2
    c.write_gathered.ensures.written h

pub returns-clause-writes : goal.returns-clause-writes
returns-clause-writes g c =
    let same = none_sent c.in_ok-send_large.field-0 c.if-branch.false c.in_ok-send_large.ensures.same in
    subst (λ n. CountsOnlyWrites n (failed_writes c.write_gathered.new.output) c.write_gathered.result) same.1
    c.write_gathered.ensures.writes
