use Rattle.std.proofs.lemmas.Result.{IfOk-from_err}
use Rattle.gob_types.proofs.WaitLaws.{settled_kept}
use Rattle.gob_types.proofs.table.Table.new.Goals as goal

pub invariant_of-result : goal.invariant_of-result
invariant_of-result c = settled_kept c.in_ok-waits.ensures.settled

pub returns-in_err-definitions-clause-base : goal.returns-in_err-definitions-clause-base
returns-in_err-definitions-clause-base c = IfOk-from_err c.from_residual.result _ c.from_residual.ensures.0

pub returns-in_err-definitions-clause-most : goal.returns-in_err-definitions-clause-most
returns-in_err-definitions-clause-most c = IfOk-from_err c.from_residual.result _ c.from_residual.ensures.0

pub returns-in_err-waits-clause-base : goal.returns-in_err-waits-clause-base
returns-in_err-waits-clause-base c = IfOk-from_err c.from_residual-in_err-waits.result _
    c.from_residual-in_err-waits.ensures.0

pub returns-in_err-waits-clause-most : goal.returns-in_err-waits-clause-most
returns-in_err-waits-clause-most c = IfOk-from_err c.from_residual-in_err-waits.result _
    c.from_residual-in_err-waits.ensures.0
