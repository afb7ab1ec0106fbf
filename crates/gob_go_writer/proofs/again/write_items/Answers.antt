use Rattle.std.proofs.Common.{length, take, arith, refl, ◌∙◌, subst, ap, length-drop}
use Rattle.std.proofs.lemmas.List.{take_rest, take_all}
use Rattle.gob_stream.specs.Bounds.{within_trees}
use Rattle.gob_stream.proofs.FaultSteps.{passed}
use Rattle.gob_go.specs.Calls.Session.{limits_of}
use Rattle.gob_go_writer.specs.Calls.Again.{HasWritten, StopsAgain}
use Rattle.gob_go_writer.proofs.AgainSteps.{further, step_further}
use Rattle.gob_go_writer.proofs.again.write_items.Goals as goal

pub steps-init : goal.steps-init
steps-init c = record { written = c.requires; limits = refl; within = omega arith; onward = omega arith }

pub write_next-requires : goal.write_next-requires
write_next-requires c = record { bytes = take c.steps.used c.args.bytes.now; has = c.steps.invariant.written }

pub steps-preserved : goal.steps-preserved
steps-preserved c =
    let bytes = c.args.bytes.now in
    let used = c.steps.used in
    let i = c.steps.invariant in
    let step = c.in_ok-used.ensures.used in
    let rest = ap length (take_rest bytes used) in
    record {
      written = subst (λ b. HasWritten c.write_next.new.session b c.write_next.new.out.items)
          (step_further bytes used c.in_ok-used.field-0)
          (c.in_ok-used.ensures.written (take used bytes) i.written);
      limits = c.write_next.ensures.limits ∙ i.limits;
      within = omega (arith, i.within, step.1, rest, length-drop used bytes);
      onward = omega (arith, i.within, i.onward, c.if-used-bytes.false, step.0, rest, length-drop used bytes);
    }

pub returns-then-used-bytes-clause-written : goal.returns-then-used-bytes-clause-written
returns-then-used-bytes-clause-written c = subst (λ b. HasWritten c.steps.session b c.steps.out.items)
    (take_all c.steps.used c.args.bytes.now (omega arith)) c.steps.invariant.written

pub returns-clause-written : goal.returns-clause-written
returns-clause-written c = subst (λ b. HasWritten c.steps.session b c.steps.out.items)
    (take_all c.steps.used c.args.bytes.now (let n = c.steps.invariant.onward in omega arith)) c.steps.invariant.written

pub returns-in_err-used-clause-stops : goal.returns-in_err-used-clause-stops
returns-in_err-used-clause-stops c =
    let bytes = c.args.bytes.now in
    let used = c.steps.used in
    let i = c.steps.invariant in
    passed c.from_residual.result _ c.from_residual.ensures.1
    (subst (λ L. StopsAgain (within_trees L) bytes c.in_err-used.field-0.0) i.limits
    (subst (λ b. StopsAgain (within_trees (limits_of c.steps.session)) b c.in_err-used.field-0.0) (further bytes used)
    (c.in_err-used.ensures.stops (take used bytes) i.written)))
