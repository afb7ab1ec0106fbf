use Rattle.std.proofs.Common.{◌<◌, Contains, List, length, ap, sym, arith, subst}
use Rattle.std.proofs.lemmas.Bool.Decides.{when_true, when_false}
use Rattle.std.proofs.lemmas.Option.{slice_get-get_or}
use Rattle.std.proofs.lemmas.Result.{IfOk-from_err}
use Rattle.gob_types.specs.declared.id.TypeId.{TypeId}
use Rattle.gob_types.proofs.FirstLaws.{contains_read, read_at, none_first, more_first, all_first}
use Rattle.gob_types.proofs.KeptLaws.{past_complete, past_ready, past_bottomless, trusted, knows_as}
use Rattle.gob_types.proofs.learning.are_grounded.Goals as goal

pub loop-id-init : goal.loop-id-init
loop-id-init c = record {
  known = knows_as (trusted c.requires.known c.in_ok-common.ensures)
      c.of-grounds.ensures.grounded c.of-grounds.ensures.bottomless;
  all = none_first;
}

pub judge-requires-clause-complete : goal.judge-requires-clause-complete
judge-requires-clause-complete c =
    let zero_id : TypeId = record { 0 = 0 } in
    let met = c.args.met.now in
    let here : c.loop-id.id-index < length met =
    omega (arith, c.loop-id-test.true, ap length c.as_slice-id-items.ensures) in
    past_complete c.requires.known c.requires.met _ (contains_read met c.loop-id.id-index _
    (read_at c.loop-id.id-index zero_id c.as_slice-id-items.ensures here))

pub returns-then-not-branch : goal.returns-then-not-branch
returns-then-not-branch c =
    let zero_id : TypeId = record { 0 = 0 } in
    let met = c.args.met.now in
    let here : c.loop-id.id-index < length met =
    omega (arith, c.loop-id-test.true, ap length c.as_slice-id-items.ensures) in
    past_bottomless c.requires.known c.requires.met (contains_read met c.loop-id.id-index _
    (read_at c.loop-id.id-index zero_id c.as_slice-id-items.ensures here))
    (when_false _ _ c.if-not-branch.true c.in_ok-judge.ensures.judged)

pub loop-id-preserved : goal.loop-id-preserved
loop-id-preserved c = record {
  known = c.in_ok-judge.ensures.known;
  all = more_first c.loop-id.invariant.all (slice_get-get_or c.as_slice-id-items.result.now c.loop-id.id-index _
      c.loop-id-test.true) (when_true _ _ c.if-not-branch.false c.in_ok-judge.ensures.judged);
}

pub returns : goal.returns
returns c = past_ready c.requires.known c.requires.met (λ u there. all_first c.loop-id.invariant.all
    c.loop-id-test.false (subst (λ (ids : List TypeId). Contains ids u) (sym c.as_slice-id-items.ensures) there))

pub returns-in_err-common : goal.returns-in_err-common
returns-in_err-common c = IfOk-from_err c.from_residual.result _ c.from_residual.ensures.0

pub returns-in_err-judge : goal.returns-in_err-judge
returns-in_err-judge c = IfOk-from_err c.from_residual-in_err-judge.result _ c.from_residual-in_err-judge.ensures.0
