use Rattle.std.proofs.Common.{List, Contains, subst}
use Rattle.std.proofs.lemmas.Option.{slice_get-get_or}
use Rattle.std.proofs.lemmas.Result.{IfOk-from_err}
use Rattle.gob_types.specs.declared.id.TypeId.{TypeId}
use Rattle.gob_types.specs.Machine.Walk.{AddsOne, AddsAll}
use Rattle.gob_types.proofs.FirstLaws.{contains_read, contains_at}
use Rattle.gob_types.proofs.SetLaws.{adds_next, adds_one, adds_each}
use Rattle.gob_types.proofs.GrowsLaws.{grows_then, grows_by, grows_as}
use Rattle.gob_types.proofs.WaitLaws.{hands_same, hands_one}
use Rattle.gob_types.proofs.learning.add_ready.Goals as goal

pub loop-id-preserved-then-not-branch : goal.loop-id-preserved-then-not-branch
loop-id-preserved-then-not-branch c =
    let a = subst (AddsOne c.loop-id.ready c.add.new.self _) c.if-not-branch.true c.in_ok-add.ensures.added in
    record {
      added = adds_next c.loop-id.invariant.added (slice_get-get_or c.as_slice-id-items.result.now c.loop-id.id-index _
          c.loop-id-test.true) (adds_one _ c.in_ok-add.ensures.added);
      queue = c.loop-id.invariant.queue;
      handed = hands_same c.loop-id.invariant.handed a;
    }

pub loop-id-preserved : goal.loop-id-preserved
loop-id-preserved c =
    let a = subst (AddsOne c.loop-id.ready c.add.new.self _) c.if-not-branch.false c.in_ok-add.ensures.added in
    let more = c.in_ok-add_all.ensures.added in
    record {
      added = adds_next c.loop-id.invariant.added (slice_get-get_or c.as_slice-id-items.result.now c.loop-id.id-index _
          c.loop-id-test.true) (adds_one _ c.in_ok-add.ensures.added);
      queue = grows_then c.loop-id.invariant.queue c.add_all.ensures.grown;
      handed = hands_one c.loop-id.invariant.handed a c.add_all.ensures.grown (λ u k. more.has u (c.users.ensures u k));
    }

pub returns-in_err-add-clause-grown : goal.returns-in_err-add-clause-grown
returns-in_err-add-clause-grown c = grows_as (grows_by c.loop-id.invariant.added) c.in_err-add.ensures.unchanged

pub returns-in_err-add_all-clause-grown : goal.returns-in_err-add_all-clause-grown
returns-in_err-add_all-clause-grown c = grows_then (grows_by c.loop-id.invariant.added)
    (grows_by (adds_one _ c.in_ok-add.ensures.added))

pub returns-clause-grown : goal.returns-clause-grown
returns-clause-grown c = grows_by c.loop-id.invariant.added

pub returns-clause-added : goal.returns-clause-added
returns-clause-added c =
    let ids = c.as_slice-id-items.result.now in
    let i = c.loop-id.invariant in
    let a : AddsAll c.args.ready.now c.loop-id.ready (Contains ids) = adds_each i.added c.loop-id-test.false
    (contains_read ids) (contains_at ids) in
    record {
      added = subst (λ (l : List TypeId). AddsAll c.args.ready.now c.loop-id.ready (Contains l))
          c.as_slice-id-items.ensures a;
      queued = i.queue;
      handed = i.handed;
    }

pub returns-in_err-add-clause-added : goal.returns-in_err-add-clause-added
returns-in_err-add-clause-added c = IfOk-from_err c.from_residual.result _ c.from_residual.ensures.0

pub returns-in_err-add_all-clause-added : goal.returns-in_err-add_all-clause-added
returns-in_err-add_all-clause-added c = IfOk-from_err c.from_residual-in_err-add_all.result _
    c.from_residual-in_err-add_all.ensures.0
