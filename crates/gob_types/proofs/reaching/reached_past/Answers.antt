use Rattle.std.proofs.Common.{◌≡◌, length, ap, sym, subst, arith}
use Rattle.std.proofs.lemmas.Result.{IfOk-from_err}
use Rattle.gob_types.specs.Defined.{types}
use Rattle.gob_types.specs.Machine.Walk.{AddsAll}
use Rattle.gob_types.proofs.FirstLaws.{contains_read, read_at, next_less}
use Rattle.gob_types.proofs.SetLaws.{adds_one}
use Rattle.gob_types.proofs.KeptLaws.{past_start, past_known, past_names, past_all}
use Rattle.gob_types.proofs.reaching.reached_past.Goals as goal

pub loop-next-init : goal.loop-next-init
loop-next-init c =
    past_start (types c.args.table.now) c.args.known.now c.args.id _
    (subst (λ ids. AddsAll ids c.add.new.self (λ u. c.args.id ≡ u)) c.requires (adds_one _ c.in_ok-add.ensures.added))

pub loop-next-preserved-then-contains : goal.loop-next-preserved-then-contains
loop-next-preserved-then-contains c =
    let at = read_at c.loop-next.next _ c.as_slice.ensures (omega (arith, c.loop-next-test.true, c.count.ensures.count))
    in
    past_known c.loop-next.invariant at (c.contains.ensures.0 c.if-contains.true)

pub returns-in_default : goal.returns-in_default
returns-in_default c =
    let at = read_at c.loop-next.next _ c.as_slice.ensures (omega (arith, c.loop-next-test.true, c.count.ensures.count))
    in
    (c.loop-next.invariant.sound _ (contains_read c.loop-next.met c.loop-next.next _ at), sym c.in_default.ensures)

pub loop-next-preserved : goal.loop-next-preserved
loop-next-preserved c =
    let at = read_at c.loop-next.next _ c.as_slice.ensures (omega (arith, c.loop-next-test.true, c.count.ensures.count))
    in
    past_names c.loop-next.invariant at (sym c.in-Some.ensures) c.in_ok-add_names.ensures

pub returns : goal.returns
returns c = past_all c.loop-next.invariant (omega (arith, c.loop-next-test.false, c.count.ensures.count))

pub bounds-as_slice-next : goal.bounds-as_slice-next
bounds-as_slice-next c = omega (arith, c.loop-next-test.true, c.count.ensures.count, ap length c.as_slice.ensures)

pub loop-next-smaller-then-contains : goal.loop-next-smaller-then-contains
loop-next-smaller-then-contains c = next_less c.loop-next-test.true c.count.ensures.small

pub loop-next-smaller : goal.loop-next-smaller
loop-next-smaller c = next_less c.loop-next-test.true c.count.ensures.small

pub returns-in_err-add : goal.returns-in_err-add
returns-in_err-add c = IfOk-from_err c.from_residual.result _ c.from_residual.ensures.0

pub returns-in_err-add_names : goal.returns-in_err-add_names
returns-in_err-add_names c = IfOk-from_err c.from_residual-in_err-add_names.result _
    c.from_residual-in_err-add_names.ensures.0
