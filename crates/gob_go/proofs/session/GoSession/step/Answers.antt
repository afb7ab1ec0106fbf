use Rattle.std.proofs.Common.{◌≢◌, arith, refl, ap, true}
use Rattle.std.proofs.lemmas.Grind.{common_steps}
use Rattle.gob_num.proofs.PublicLaws.{bytes_each}
use Rattle.gob_stream.specs.declared.fault.Fault.TheVariants as faults
use Rattle.gob_stream.proofs.FaultSteps.{is_fault, passed}
use Rattle.gob_go.specs.Machine.HasRead.{has_failed}
use Rattle.gob_go.proofs.AdvanceSteps.{kept_advance}
use Rattle.gob_go.proofs.AdvanceSteps.{item_of, never_read, advance_bound, steps_few, advance_between, advanced}
use Rattle.gob_go.proofs.AdvanceSteps.{usable_on, stopped_there, within_there, stepped_on, over_nothing, not_read}
use Rattle.gob_go.proofs.session.GoSession.step.Goals as goal

pub returns-then-has_failed-clause-any : goal.returns-then-has_failed-clause-any
returns-then-has_failed-clause-any c = λ keep items bytes a. not_read a c.if-has_failed.ensures.failed

pub returns-then-has_failed-clause-advances : goal.returns-then-has_failed-clause-advances
returns-then-has_failed-clause-advances c = λ items bytes a. not_read a c.if-has_failed.ensures.failed

pub returns-then-is_empty-clause-any : goal.returns-then-is_empty-clause-any
returns-then-is_empty-clause-any c =
    rw c.nothing.ensures (λ keep items bytes a. over_nothing (grind (arith, common_steps)) a)

pub returns-then-is_empty-clause-advances : goal.returns-then-is_empty-clause-advances
returns-then-is_empty-clause-advances c = returns-then-is_empty-clause-any c true

pub returns-then-is_empty-clause-stays : goal.returns-then-is_empty-clause-stays
returns-then-is_empty-clause-stays c = λ f. absurd (c.if-has_failed.ensures.failed f)

pub take-requires : goal.take-requires
take-requires c =
    let a = rw (← c.self.view_is) at (c.has_failed.ensures.has_read c.if-has_failed.ensures.failed) in
    record { has_read = within_there c.replace-stage.ensures.value (item_of a.after) }

pub overflow_add-self : goal.overflow_add-self
overflow_add-self c =
    let a = rw (← c.self.view_is) at (c.has_failed.ensures.has_read c.if-has_failed.ensures.failed) in
    let b = advance_bound a.after (stepped_on c.replace-stage.ensures.value c.in_ok-used.ensures
    (bytes_each c.args.piece.now (λ i. omega (arith, c.type_inv.piece i))) a.after) in
    let most = c.stream-most.ensures.limits.stream in
    omega arith

pub invariant_of-self-2 : goal.invariant_of-self-2
invariant_of-self-2 c =
    let b = bytes_each c.args.piece.now (λ i. omega (arith, c.type_inv.piece i)) in
    let most = c.stream-most.ensures.limits.stream in
    usable_on (rw (← c.self.view_is) at (c.has_failed.ensures.has_read c.if-has_failed.ensures.failed))
    (λ items bytes a. advanced a b (omega arith) (stepped_on c.replace-stage.ensures.value c.in_ok-used.ensures b a)
    (c.in_ok-used.ensures.some (grind (arith, common_steps))))

pub returns-clause-any : goal.returns-clause-any
returns-clause-any c =
    let b = bytes_each c.args.piece.now (λ i. omega (arith, c.type_inv.piece i)) in
    let most = c.stream-most.ensures.limits.stream in
    let some = c.in_ok-used.ensures.some (grind (arith, common_steps)) in
    rw (← c.self.view_is) (λ keep items bytes a. kept_advance a (λ a. advanced a b (omega arith)
    (stepped_on c.replace-stage.ensures.value c.in_ok-used.ensures b a) some))

pub returns-clause-advances : goal.returns-clause-advances
returns-clause-advances c = returns-clause-any c true

pub returns-clause-used : goal.returns-clause-used
returns-clause-used c =
    let a = rw (← c.self.view_is) at (c.has_failed.ensures.has_read c.if-has_failed.ensures.failed) in (
      c.in_ok-used.ensures.some,
      steps_few (stepped_on c.replace-stage.ensures.value c.in_ok-used.ensures
          (bytes_each c.args.piece.now (λ i. omega (arith, c.type_inv.piece i))) a.after),
    )

pub returns-clause-between : goal.returns-clause-between
returns-clause-between c =
    let a = rw (← c.self.view_is) at (c.has_failed.ensures.has_read c.if-has_failed.ensures.failed) in
    advance_between a.after (stepped_on c.replace-stage.ensures.value c.in_ok-used.ensures
    (bytes_each c.args.piece.now (λ i. omega (arith, c.type_inv.piece i))) a.after)

pub returns-clause-limits : goal.returns-clause-limits
returns-clause-limits c = ap (λ s. s.limits) c.self.view_is

pub returns-clause-stays : goal.returns-clause-stays
returns-clause-stays c = λ f. absurd (c.if-has_failed.ensures.failed f)

pub invariant_of-self : goal.invariant_of-self
invariant_of-self c = has_failed c.replace-stage.ensures.after

pub returns-in_err-used-clause-any : goal.returns-in_err-used-clause-any
returns-in_err-used-clause-any c =
    let b = bytes_each c.args.piece.now (λ i. omega (arith, c.type_inv.piece i)) in
    rw (is_fault c.from_residual.result c.from_residual.ensures.1) (λ keep items bytes a.
    stopped_there (record c.args.self.now { types = c.take.new.table }) c.self.view_is refl
    (λ h. stepped_on c.replace-stage.ensures.value c.in_err-used.ensures b h) a)

pub returns-in_err-used-clause-advances : goal.returns-in_err-used-clause-advances
returns-in_err-used-clause-advances c = returns-in_err-used-clause-any c true

pub returns-in_err-used-clause-failed : goal.returns-in_err-used-clause-failed
returns-in_err-used-clause-failed c =
    rw (is_fault c.from_residual.result c.from_residual.ensures.1) c.replace-stage.ensures.after

pub returns-in_err-used-clause-taken : goal.returns-in_err-used-clause-taken
returns-in_err-used-clause-taken c =
    rw (is_fault c.from_residual.result c.from_residual.ensures.1) (ap (λ s. s.taken) c.self.view_is)

pub returns-in_err-used-clause-limits : goal.returns-in_err-used-clause-limits
returns-in_err-used-clause-limits c = ap (λ s. s.limits) c.self.view_is

pub returns-in_err-used-clause-stays : goal.returns-in_err-used-clause-stays
returns-in_err-used-clause-stays c = λ f. absurd (c.if-has_failed.ensures.failed f)

pub returns-in_err-used-clause-unread : goal.returns-in_err-used-clause-unread
returns-in_err-used-clause-unread c =
    let a = rw (← c.self.view_is) at (c.has_failed.ensures.has_read c.if-has_failed.ensures.failed) in
    passed c.from_residual.result (λ fault. fault ≢ faults.Read) c.from_residual.ensures.1
    (never_read (stepped_on c.replace-stage.ensures.value c.in_err-used.ensures
    (bytes_each c.args.piece.now (λ i. omega (arith, c.type_inv.piece i))) a.after))
