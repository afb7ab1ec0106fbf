use Rattle.std.proofs.Common.{arith}
use Rattle.std.proofs.lemmas.Result.{IfOk-from_err}
use Rattle.gob_tape.proofs.ValueLaws.{elements_start, elements_on, elements_end}
use Rattle.gob_tape.proofs.values.take_elements.Goals as goal

pub elements-init : goal.elements-init
elements-init c = elements_start c.new-values.ensures.items

pub elements-preserved : goal.elements-preserved
elements-preserved c = elements_on c.take_part-value.result c.elements.invariant (omega arith) c.take_part-value.ensures
    c.in_ok-push.ensures.items

pub returns : goal.returns
returns c = elements_end (omega arith) c.elements.invariant

pub returns-in_err-push : goal.returns-in_err-push
returns-in_err-push c = IfOk-from_err c.from_residual.result _ c.from_residual.ensures.0
