use Rattle.std.proofs.lemmas.Option.{slice_get-get_or}
use Rattle.std.proofs.lemmas.Result.{IfOk-from_err}
use Rattle.gob_types.proofs.FirstLaws.{contains_read, contains_at}
use Rattle.gob_types.proofs.SetLaws.{adds_none_yet, adds_next, adds_one, adds_each}
use Rattle.gob_types.proofs.GrowsLaws.{grows_by, grows_as}
use Rattle.gob_types.proofs.type_set.TypeSet.add_all.Goals as goal

pub returns-clause-added : goal.returns-clause-added
returns-clause-added c =
    let ids = c.args.ids.now in
    adds_each c.loop-id.invariant c.loop-id-test.false (contains_read ids)
    (contains_at ids)

pub loop-id-init : goal.loop-id-init
loop-id-init c = adds_none_yet

pub loop-id-preserved : goal.loop-id-preserved
loop-id-preserved c = adds_next c.loop-id.invariant (slice_get-get_or c.args.ids.now c.loop-id.id-index _
    c.loop-id-test.true) (adds_one _ c.in_ok-add.ensures.added)

pub returns-clause-grown : goal.returns-clause-grown
returns-clause-grown c = grows_by c.loop-id.invariant

pub returns-in_err-add-clause-grown : goal.returns-in_err-add-clause-grown
returns-in_err-add-clause-grown c = grows_as (grows_by c.loop-id.invariant) c.in_err-add.ensures.unchanged

pub returns-in_err-add-clause-added : goal.returns-in_err-add-clause-added
returns-in_err-add-clause-added c = IfOk-from_err c.from_residual.result _ c.from_residual.ensures.0
