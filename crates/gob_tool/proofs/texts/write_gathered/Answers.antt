use Rattle.std.proofs.Common.{◌∙◌, ◌++◌, List, ℕ, ap, subst}
use Rattle.std.specs.Io.KnownBytes.{Appends}
use Rattle.gob_stream.specs.Calls.Ends.{writer_of}
use Rattle.gob_stream.specs.Calls.Writing.{SentPrefix}
use Rattle.gob_tool.specs.Fault.{writing_fault}
use Rattle.gob_tool.specs.Texts.{answers, IsStopBy, IsTextBy}
use Rattle.gob_tool.proofs.TextLaws.{next_at, texts_cut, texts_stop}
use Rattle.gob_tool.proofs.texts.write_gathered.Goals as goal

pub returns-in_err-send_all-in-Ok-true-clause-written : goal.returns-in_err-send_all-in-Ok-true-clause-written
returns-in_err-send_all-in-Ok-true-clause-written g c = λ read now given h.
    let D = g.S.Steps.stepping in
    let old = g.W.Write.contents (writer_of c.args.output.now) in
    let new = g.W.Write.contents (writer_of c.send_all.new.self) in
    let Is = IsTextBy D (g.M.TextSteps.of_item c.args.texts.now) (g.M.TextSteps.of_value c.args.texts.now) in
    let p = c.pass_texts.ensures.passed read now given h in
    let made = p.2 ∙ ap (λ (l : List ℕ). l ++ p.0) c.clear.ensures.items in
    let Stop = IsStopBy D (g.M.TextSteps.stops c.args.texts.now) in
    next_at D Is Stop c.args.reader.now c.pass_texts.new.reader read now given old new c.from_residual.result
    (writing_fault c.in_err-send_all-in-Ok-true.field-0.0) c.from_residual.ensures.1
    (rw c.in_err-send_all-in-Ok-true.ensures.fault
    (λ bytes known start o. answers (texts_cut D {Is = Is} start old new p.1
    (subst (λ l. SentPrefix l old new) (c.deref.ensures.value ∙ made) c.in_err-send_all-in-Ok-true.ensures.prefix)
    bytes known o)))

pub returns-in_err-send_all-in-Err-clause-written : goal.returns-in_err-send_all-in-Err-clause-written
returns-in_err-send_all-in-Err-clause-written g c = λ read now given h.
    let D = g.S.Steps.stepping in
    let old = g.W.Write.contents (writer_of c.args.output.now) in
    let new = g.W.Write.contents (writer_of c.send_all-in-Err.new.self) in
    let Is = IsTextBy D (g.M.TextSteps.of_item c.args.texts.now) (g.M.TextSteps.of_value c.args.texts.now) in
    let p = c.pass_texts.ensures.passed read now given h in
    let made = p.2 ∙ ap (λ (l : List ℕ). l ++ p.0) c.clear.ensures.items in
    let Stop = IsStopBy D (g.M.TextSteps.stops c.args.texts.now) in
    next_at D Is Stop c.args.reader.now c.pass_texts.new.reader read now given old new
    c.from_residual-in_err-send_all-in-Err.result (writing_fault c.in_err-send_all-in-Err.field-0.0)
    c.from_residual-in_err-send_all-in-Err.ensures.1
    (rw c.in_err-send_all-in-Err.ensures.fault
    (λ bytes known start o. answers (texts_cut D {Is = Is} start old new p.1
    (subst (λ l. SentPrefix l old new) (c.deref-in-Err.ensures.value ∙ made) c.in_err-send_all-in-Err.ensures.prefix)
    bytes known o)))

pub returns-in_ok-send_all-in-Ok-true-clause-written : goal.returns-in_ok-send_all-in-Ok-true-clause-written
returns-in_ok-send_all-in-Ok-true-clause-written g c = λ read now given h.
    let old = g.W.Write.contents (writer_of c.args.output.now) in
    let new = g.W.Write.contents (writer_of c.send_all.new.self) in
    let p = c.pass_texts.ensures.passed read now given h in
    let made = p.2 ∙ ap (λ (l : List ℕ). l ++ p.0) c.clear.ensures.items in (
      p.0,
      (p.1, c.in-Ok-true.ensures.onward c.in-Ok-true.field-0-test),
      subst (λ l. Appends old new l) (c.deref.ensures.value ∙ made) c.in_ok-send_all-in-Ok-true.ensures.ok,
    )

pub returns-in_ok-send_all-in-Err-clause-written : goal.returns-in_ok-send_all-in-Err-clause-written
returns-in_ok-send_all-in-Err-clause-written g c = λ read now given h.
    let D = g.S.Steps.stepping in
    let old = g.W.Write.contents (writer_of c.args.output.now) in
    let new = g.W.Write.contents (writer_of c.send_all-in-Err.new.self) in
    let Is = IsTextBy D (g.M.TextSteps.of_item c.args.texts.now) (g.M.TextSteps.of_value c.args.texts.now) in
    let p = c.pass_texts.ensures.passed read now given h in
    let made = p.2 ∙ ap (λ (l : List ℕ). l ++ p.0) c.clear.ensures.items in
    rw c.from.ensures
    (λ bytes known start o. answers (texts_stop D {Is = Is} start old new p.1
    (subst (λ l. Appends old new l) (c.deref-in-Err.ensures.value ∙ made) c.in_ok-send_all-in-Err.ensures.ok) bytes
    known o))
