use Rattle.std.proofs.Common.{Ok, Err, refl, subst}
use Rattle.gob_types.specs.Defined.{types}
use Rattle.gob_stream.specs.Calls.ReaderOf.{KnowsTypesBy, session_of, types_behind}
use Rattle.gob_stream.specs.Stepping.{StepAnswersBy}
use Rattle.gob_stream.proofs.Reader.ReaderOfLaws.{refusal_at, step_knows, step_stops, steps_at, steps_on}
use Rattle.gob_stream.proofs.reader_of.ReaderOf.step.Goals as goal

pub returns-in_err-step-clause-stepped : goal.returns-in_err-step-clause-stepped
returns-in_err-step-clause-stepped g c = λ read now items h.
    let D = g.S.Steps.stepping in
    let e = c.in_err-step.field-0.0 in
    let s = session_of c.args.self.now in
    steps_at D c.args.self.now (types_behind D h) _ read now items c.from_residual.result e c.from_residual.ensures.1
    (step_stops D c.step.new.self e h
    (subst (λ l. StepAnswersBy D (types_behind D h) s c.step.new.self items h.taken l (Err e)) c.bytes.ensures
    (c.in_err-step.ensures.stepped items h.taken h.gave)))

pub returns-in_err-step-clause-refused : goal.returns-in_err-step-clause-refused
returns-in_err-step-clause-refused g c = λ read now items h.
    let D = g.S.Steps.stepping in
    let e = c.in_err-step.field-0.0 in
    let s = session_of c.args.self.now in
    refusal_at (Unit {0}) (KnowsTypesBy D (D.limits s) read now items (types (D.table c.step.new.self)))
    c.from_residual.result e c.from_residual.ensures.1
    (step_knows D c.step.new.self e h
    (subst (λ l. StepAnswersBy D (types_behind D h) s c.step.new.self items h.taken l (Err e)) c.bytes.ensures
    (c.in_err-step.ensures.stepped items h.taken h.gave)))

pub returns-clause-refused : goal.returns-clause-refused
returns-clause-refused g c = λ read now items h. tt

pub returns-clause-stepped : goal.returns-clause-stepped
returns-clause-stepped g c = λ read now items h.
    let D = g.S.Steps.stepping in
    let s = session_of c.args.self.now in
    steps_on D (types_behind D h) c.in_ok-step.step h c.pass.ensures.bytes
    (record { ended = refl; room = c.pass.ensures.room; limits = c.in_ok-step.ensures.limits })
    (subst (λ l. StepAnswersBy D (types_behind D h) s c.step.new.self items h.taken l (Ok c.in_ok-step.step))
    c.bytes.ensures (c.in_ok-step.ensures.stepped items h.taken h.gave))
