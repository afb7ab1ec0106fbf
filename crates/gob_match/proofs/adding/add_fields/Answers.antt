use Rattle.std.proofs.Common.{subst, length, refl}
use Rattle.std.proofs.lemmas.Option.{slice_get_read}
use Rattle.std.proofs.lemmas.Result.{IfOk-from_err}
use Rattle.gob_match.specs.declared.step.TypeStep.TheVariants as step
use Rattle.gob_match.specs.Machine.Search.{AddsPairs}
use Rattle.gob_match.proofs.ConversionLaws.{adds_next, adds_all}
use Rattle.gob_match.proofs.FoundLaws.{IsStepTo}
use Rattle.gob_match.proofs.adding.add_fields.Goals as goal

pub loop-field-preserved : goal.loop-field-preserved
loop-field-preserved c =
    let common = c.args.common.now in
    let there = slice_get_read common (length common) c.loop-field.field-index c.field-item.result refl
    c.loop-field-test.true c.field-item.is in
    adds_next c.loop-field.invariant there
    (subst (λ n. AddsPairs c.loop-field.found c.add.new.self c.args.place
    (IsStepTo (step.Named n) c.field-item.result.pair)) c.in_ok-copied_name.ensures c.in_ok-add.ensures.added)

pub returns : goal.returns
returns c = adds_all c.loop-field.invariant c.loop-field-test.false

pub returns-in_err-copied_name : goal.returns-in_err-copied_name
returns-in_err-copied_name c = IfOk-from_err c.from_residual.result _ c.from_residual.ensures.0

pub returns-in_err-add : goal.returns-in_err-add
returns-in_err-add c = IfOk-from_err c.from_residual-in_err-add.result _ c.from_residual-in_err-add.ensures.0
