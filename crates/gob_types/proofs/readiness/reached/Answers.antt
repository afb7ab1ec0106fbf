use Rattle.std.proofs.Common.{◌≡◌, sym, subst, arith}
use Rattle.std.proofs.lemmas.Result.{IfOk-from_err}
use Rattle.gob_types.specs.Defined.{types}
use Rattle.gob_types.specs.Machine.Walk.{AddsAll}
use Rattle.gob_types.proofs.FirstLaws.{read_at}
use Rattle.gob_types.proofs.SetLaws.{adds_one}
use Rattle.gob_types.proofs.WalkLaws.{met_start, met_undefined, met_names, met_all}
use Rattle.gob_types.proofs.readiness.reached.Goals as goal

pub loop-next-init : goal.loop-next-init
loop-next-init c =
    met_start (types c.args.table.now) c.args.id _
    (subst (λ ids. AddsAll ids c.add.new.self (λ u. c.args.id ≡ u)) c.new-met.ensures
    (adds_one _ c.in_ok-add.ensures.added))

pub loop-next-preserved-in_default : goal.loop-next-preserved-in_default
loop-next-preserved-in_default c =
    let at = read_at c.loop-next.next _ c.as_slice.ensures (omega (arith, c.loop-next-test.true, c.count.ensures.count))
    in
    met_undefined (types c.args.table.now) c.args.id _ c.loop-next.met c.loop-next.next c.loop-next.invariant at
    (sym c.in_default.ensures)

pub loop-next-preserved : goal.loop-next-preserved
loop-next-preserved c =
    let at = read_at c.loop-next.next _ c.as_slice.ensures (omega (arith, c.loop-next-test.true, c.count.ensures.count))
    in
    met_names (types c.args.table.now) c.args.id _ c.in-Some.shape.now c.loop-next.met c.add_names.new.met
    c.loop-next.next c.loop-next.invariant at (sym c.in-Some.ensures) c.in_ok-add_names.ensures

pub returns : goal.returns
returns c = met_all (types c.args.table.now) c.args.id c.loop-next.met c.loop-next.next c.loop-next.invariant
    (omega (arith, c.loop-next-test.false, c.count.ensures.count))

pub returns-in_err-add : goal.returns-in_err-add
returns-in_err-add c = IfOk-from_err c.from_residual.result _ c.from_residual.ensures.0

pub returns-in_err-add_names : goal.returns-in_err-add_names
returns-in_err-add_names c = IfOk-from_err c.from_residual-in_err-add_names.result _
    c.from_residual-in_err-add_names.ensures.0
