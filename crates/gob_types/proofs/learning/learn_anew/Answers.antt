use Rattle.std.proofs.lemmas.Result.{IfOk-from_err}
use Rattle.gob_types.proofs.WaitLaws.{queue_all}
use Rattle.gob_types.proofs.learning.learn_anew.Goals as goal

pub learn_all-requires : goal.learn_all-requires
learn_all-requires c = queue_all _ c.requires c.new-waits.ensures.awaited c.new-waits.ensures.left c.in_ok-ids.ensures

pub returns-in_err-ids-clause-settled : goal.returns-in_err-ids-clause-settled
returns-in_err-ids-clause-settled c = IfOk-from_err c.from_residual.result _ c.from_residual.ensures.0

pub returns-in_err-learn_all-clause-settled : goal.returns-in_err-learn_all-clause-settled
returns-in_err-learn_all-clause-settled c = IfOk-from_err c.from_residual-in_err-learn_all.result _
    c.from_residual-in_err-learn_all.ensures.0
