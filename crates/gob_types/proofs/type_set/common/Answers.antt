use Rattle.std.proofs.lemmas.Result.{IfOk-from_err}
use Rattle.gob_types.proofs.KeptLaws.{among_more}
use Rattle.gob_types.proofs.type_set.common.Goals as goal

pub loop-id-preserved : goal.loop-id-preserved
loop-id-preserved c = among_more _ c.loop-id.invariant (c.contains.ensures.0 c.if-not-contains.false)
    c.in_ok-add.ensures.added

pub returns-in_err-add : goal.returns-in_err-add
returns-in_err-add c = IfOk-from_err c.from_residual.result _ c.from_residual.ensures.0
