-- What stands whole is passed, and anything else is read on with a step.
use Rattle.std.proofs.Common.{◌≡◌, ◌∙◌, ap, arith, drop, length, refl}
use Rattle.gob_stream.specs.Calls.ReaderOf.{types_behind, waits_in}
use Rattle.gob_tool.proofs.CheckLaws.{counts_passed, counts_step, next_stops, passes_none}
use Rattle.gob_tool.proofs.check.count_next.Goals as goal

pub returns-then-passed-gt0-clause-counted : goal.returns-then-passed-gt0-clause-counted
returns-then-passed-gt0-clause-counted g c = λ read now given h.
    counts_passed g.S.Steps.stepping c.pass_values-passed.ensures.passed h

pub step-requires : goal.step-requires
step-requires g c =
    let p = c.pass_values-passed.ensures in
    let none : c.pass_values-passed.result.items ≡ 0 = omega arith in
    let same = p.left ∙ ap (λ n. drop n (waits_in c.args.reader.now)) (p.passed.none none) in
    record { some = omega (arith, ap length same, c.requires) }

pub returns-in_err-step-clause-counted : goal.returns-in_err-step-clause-counted
returns-in_err-step-clause-counted g c = λ read now given h.
    let d = g.S.Steps.stepping in
    let p = c.pass_values-passed.ensures in
    let none : c.pass_values-passed.result.items ≡ 0 = omega arith in
    let still = passes_none d p.passed none h in
    next_stops d c.args.reader.now c.pass_values-passed.new.self c.step.new.self (types_behind d still.0) read now given
    c.from_residual.result c.in_err-step.field-0.0 c.from_residual.ensures.1 p.limits
    (c.in_err-step.ensures.stepped read now given still.0)

pub returns-clause-counted : goal.returns-clause-counted
returns-clause-counted g c = λ read now given h.
    let d = g.S.Steps.stepping in
    let p = c.pass_values-passed.ensures in
    let none : c.pass_values-passed.result.items ≡ 0 = omega arith in
    let still = passes_none d p.passed none h in
    counts_step d _ still.1 (c.in_ok-step.ensures.stepped read now given still.0) refl c.count_given.ensures
