use Rattle.std.proofs.Common.{◌<◌, length, ap, arith, subst}
use Rattle.std.proofs.lemmas.Bool.Decides.{when_true, when_false}
use Rattle.std.proofs.lemmas.Option.{slice_get-get_or}
use Rattle.std.proofs.lemmas.Result.{IfOk-from_err}
use Rattle.gob_types.specs.declared.id.TypeId.{TypeId}
use Rattle.gob_types.specs.Defined.{types}
use Rattle.gob_types.specs.Ready.{IsGrounded}
use Rattle.gob_types.specs.Machine.Walk.{IsLeastBad}
use Rattle.gob_types.proofs.FirstLaws.{contains_read, read_at}
use Rattle.gob_types.proofs.LeastLaws.{least_pass, least_take, least_end}
use Rattle.gob_types.proofs.readiness.least_bottomless.Goals as goal

pub judge-requires-clause-complete : goal.judge-requires-clause-complete
judge-requires-clause-complete c =
    let zero_id : TypeId = record { 0 = 0 } in
    let met = c.args.met.now in
    let here : c.loop-id.id-index < length met =
    omega (arith, c.loop-id-test.true, ap length c.as_slice-id-items.ensures) in
    c.requires _ (contains_read met c.loop-id.id-index _ (read_at c.loop-id.id-index zero_id c.as_slice-id-items.ensures
    here))

pub loop-id-preserved-then-branch : goal.loop-id-preserved-then-branch
loop-id-preserved-then-branch c =
    let T = types c.args.table.now in
    let ids = c.as_slice-id-items.result.now in
    let at = slice_get-get_or ids c.loop-id.id-index _ c.loop-id-test.true in
    let grounded = when_true _ _ c.if-branch.true c.in_ok-judge.ensures.judged in
    record {
      known = c.in_ok-judge.ensures.known;
      least = least_pass (IsGrounded T) (λ u. ¬ IsGrounded T u) ids c.loop-id.id-index _ c.loop-id.least
          c.loop-id.invariant.least at grounded (λ bad. bad grounded);
    }

pub loop-id-preserved : goal.loop-id-preserved
loop-id-preserved c =
    let T = types c.args.table.now in
    let ids = c.as_slice-id-items.result.now in
    let at = slice_get-get_or ids c.loop-id.id-index _ c.loop-id-test.true in
    let bad = when_false _ _ c.if-branch.false c.in_ok-judge.ensures.judged in
    let e = c.lesser.ensures in
    record {
      known = c.in_ok-judge.ensures.known;
      least = least_take (IsGrounded T) (λ u. ¬ IsGrounded T u) ids c.loop-id.id-index _ c.loop-id.least c.lesser.result
          (λ u good is_bad. is_bad good) c.loop-id.invariant.least at bad e.either e.below e.below_least;
    }

pub returns : goal.returns
returns c =
    let T = types c.args.table.now in
    subst (λ ids. IsLeastBad (IsGrounded T) (λ u. ¬ IsGrounded T u) ids c.loop-id.least) c.as_slice-id-items.ensures
    (least_end (IsGrounded T) (λ u. ¬ IsGrounded T u) c.as_slice-id-items.result.now c.loop-id.id-index c.loop-id.least
    c.loop-id.invariant.least c.loop-id-test.false)

pub returns-in_err-judge : goal.returns-in_err-judge
returns-in_err-judge c = IfOk-from_err c.from_residual.result _ c.from_residual.ensures.0
