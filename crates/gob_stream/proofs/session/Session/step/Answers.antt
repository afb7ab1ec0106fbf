use Rattle.std.proofs.Common.{ℕ, ◌≢◌, List, Err, arith, ap, subst}
use Rattle.std.proofs.lemmas.Grind.{common_steps}
use Rattle.gob_stream.specs.declared.fault.Fault.TheVariants as faults
use Rattle.gob_stream.specs.Item.{StreamItem}
use Rattle.gob_stream.specs.Calls.Session.{HasRead, StepAnswers}
use Rattle.gob_stream.proofs.FaultSteps.{is_fault, passed}
use Rattle.gob_stream.proofs.Reader.AdvanceSteps.{item_of, never_read, step_bound, step_between, advanced, usable_on}
use Rattle.gob_stream.proofs.Reader.AdvanceSteps.{stopped_by, within_there, takes_on, stops_alike, over_nothing}
use Rattle.gob_stream.proofs.Reader.NumberSteps.{steps_few}
use Rattle.gob_stream.specs.Machine.HasRead.{has_failed}
use Rattle.gob_stream.proofs.Reader.FailedSteps.{not_read}
use Rattle.gob_stream.proofs.session.Session.step.Goals as goal

pub returns-then-is_empty-clause-advances : goal.returns-then-is_empty-clause-advances
returns-then-is_empty-clause-advances g c =
    rw c.nothing.ensures (λ items bytes a. over_nothing (grind (arith, common_steps)) a)

pub take-requires-clause-has_read : goal.take-requires-clause-has_read
take-requires-clause-has_read g c =
    let a = rw (← c.self.view_is) at (c.has_failed.ensures.has_read c.if-has_failed.ensures.failed) in
    within_there c.replace-stage.ensures.value (item_of a.after)

pub overflow_add-self : goal.overflow_add-self
overflow_add-self g c =
    let a = rw (← c.self.view_is) at (c.has_failed.ensures.has_read c.if-has_failed.ensures.failed) in let w =
    item_of a.after in
    let b = step_bound w.bytes c.args.piece.now w.within w.taken_is (takes_on c.replace-stage.ensures.value
    c.in_ok-used.ensures w.in_item).steps in
    let most = c.stream-most.ensures.limits.stream in
    omega arith

pub invariant_of-self-2 : goal.invariant_of-self-2
invariant_of-self-2 g c =
    usable_on (rw (← c.self.view_is) at (c.has_failed.ensures.has_read c.if-has_failed.ensures.failed))
    (λ items bytes a.
    let t = takes_on c.replace-stage.ensures.value c.in_ok-used.ensures a.stage in advanced a t.steps t.some)

pub returns-clause-advances : goal.returns-clause-advances
returns-clause-advances g c = rw (← c.self.view_is) (λ items bytes a.
    let t = takes_on c.replace-stage.ensures.value c.in_ok-used.ensures a.stage in advanced a t.steps t.some)

pub returns-clause-used : goal.returns-clause-used
returns-clause-used g c =
    let a = rw (← c.self.view_is) at (c.has_failed.ensures.has_read c.if-has_failed.ensures.failed) in let w =
    item_of a.after in
    let t = takes_on c.replace-stage.ensures.value c.in_ok-used.ensures w.in_item in
    (λ more. t.some, steps_few t.steps)

pub returns-clause-between : goal.returns-clause-between
returns-clause-between g c =
    let a = rw (← c.self.view_is) at (c.has_failed.ensures.has_read c.if-has_failed.ensures.failed) in let w =
    item_of a.after in
    step_between _ _ w.bytes c.args.piece.now w.taken_is (takes_on c.replace-stage.ensures.value c.in_ok-used.ensures
    w.in_item).steps

pub returns-clause-whole : goal.returns-clause-whole
returns-clause-whole g c =
    let a = rw (← c.self.view_is) at (c.has_failed.ensures.has_read c.if-has_failed.ensures.failed) in let w =
    item_of a.after in
    let t = takes_on c.replace-stage.ensures.value c.in_ok-used.ensures w.in_item in
    rw (← c.self.view_is) (λ few. t.whole (rw c.replace-stage.ensures.value few))

pub returns-clause-limits : goal.returns-clause-limits
returns-clause-limits g c = ap (λ s. s.limits) c.self.view_is

pub returns-in_err-used-clause-advances : goal.returns-in_err-used-clause-advances
returns-in_err-used-clause-advances g c =
    let fault = c.in_err-used.field-0.0 in
    rw (is_fault c.from_residual.result c.from_residual.ensures.1)
    (subst (λ s. (items : List StreamItem) (bytes : List ℕ) → HasRead g.B.Builder.building s items bytes
    → StepAnswers g.B.Builder.building s c.args.self.now items bytes c.args.piece.now (Err fault))
    c.self.view_is
    (λ items bytes a. stopped_by c.args.self.now a (takes_on c.replace-stage.ensures.value c.in_err-used.ensures
    a.stage).steps))

pub returns-in_err-used-clause-types : goal.returns-in_err-used-clause-types
returns-in_err-used-clause-types g c =
    let a = rw (← c.self.view_is) at (c.has_failed.ensures.has_read c.if-has_failed.ensures.failed) in let w =
    item_of a.after in
    rw (is_fault c.from_residual.result c.from_residual.ensures.1, ← c.self.view_is)
    (stops_alike (takes_on c.replace-stage.ensures.value c.in_err-used.ensures w.in_item).steps)

pub returns-in_err-used-clause-taken : goal.returns-in_err-used-clause-taken
returns-in_err-used-clause-taken g c =
    rw (is_fault c.from_residual.result c.from_residual.ensures.1) (ap (λ s. s.taken) c.self.view_is)

pub returns-in_err-used-clause-limits : goal.returns-in_err-used-clause-limits
returns-in_err-used-clause-limits g c = ap (λ s. s.limits) c.self.view_is

pub returns-in_err-used-clause-stays : goal.returns-in_err-used-clause-stays
returns-in_err-used-clause-stays g c = λ f. absurd (c.if-has_failed.ensures.failed f)

pub returns-clause-stays : goal.returns-clause-stays
returns-clause-stays g c = λ f. absurd (c.if-has_failed.ensures.failed f)

pub returns-then-is_empty-clause-stays : goal.returns-then-is_empty-clause-stays
returns-then-is_empty-clause-stays g c = λ f. absurd (c.if-has_failed.ensures.failed f)

pub returns-then-has_failed-clause-advances : goal.returns-then-has_failed-clause-advances
returns-then-has_failed-clause-advances g c = λ items bytes a. not_read a c.if-has_failed.ensures.failed

pub invariant_of-self : goal.invariant_of-self
invariant_of-self g c = has_failed c.replace-stage.ensures.after

pub returns-in_err-used-clause-failed : goal.returns-in_err-used-clause-failed
returns-in_err-used-clause-failed g c =
    rw (is_fault c.from_residual.result c.from_residual.ensures.1) c.replace-stage.ensures.after

pub returns-in_err-used-clause-unread : goal.returns-in_err-used-clause-unread
returns-in_err-used-clause-unread g c =
    let a = rw (← c.self.view_is) at (c.has_failed.ensures.has_read c.if-has_failed.ensures.failed) in let w =
    item_of a.after in
    passed c.from_residual.result (λ fault. fault ≢ faults.Read) c.from_residual.ensures.1
    (never_read (takes_on c.replace-stage.ensures.value c.in_err-used.ensures w.in_item).steps)
