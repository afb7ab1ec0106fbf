-- The item of a value that waits whole is passed, and the type of it kept; of anything else what it says is kept.
use Rattle.std.proofs.Common.{refl}
use Rattle.gob_stream.specs.declared.session.Advance.{Advance}
use Rattle.gob_stream.proofs.Reader.SessionSteps.{passed_on}
use Rattle.gob_go.specs.declared.item.GoItem.{GoItem}
use Rattle.gob_views.specs.Machine.Gathered.{GathersNext}
use Rattle.gob_views.proofs.TypeRuns.{gathers_passed, gathers_step, gathers_stopped}
use Rattle.gob_views.proofs.types.gather_next.Goals as goal

pub returns-in-Some-clause-gathered : goal.returns-in-Some-clause-gathered
returns-in-Some-clause-gathered c = λ read now s.
    gathers_passed s c.in-Some.ensures c.pass.ensures.passed c.in_ok-keep_type.ensures

pub returns-in_err-step-clause-gathered : goal.returns-in_err-step-clause-gathered
returns-in_err-step-clause-gathered c = λ read now s.
    let r = c.args.reader.now in
    let e = c.in_err-step.field-0.0 in
    passed_on (λ res. GathersNext r c.step.new.self read now c.args.gathered.now res)
    c.from_residual-in_err-step.result e c.from_residual-in_err-step.ensures.1
    (gathers_stopped (Advance GoItem) _ c.step.new.self now e s.has.gave.table s refl
    (c.in_err-step.ensures.stepped read now s.given s.has) (c.in_err-step.ensures.refused read now s.given s.has))

pub returns-clause-gathered : goal.returns-clause-gathered
returns-clause-gathered c = λ read now s.
    gathers_step s c.in_ok-step.ensures.used (c.in_ok-step.ensures.stepped read now s.given s.has)
    c.in_ok-kept.ensures
