use Rattle.std.proofs.Common.{arith}
use Rattle.std.proofs.lemmas.Result.{IfOk-from_err}
use Rattle.gob_tape.proofs.ValueLaws.{pairs_start, pairs_on, pairs_end}
use Rattle.gob_tape.proofs.values.take_pairs.Goals as goal

pub pairs-init : goal.pairs-init
pairs-init c = pairs_start c.new-values.ensures.items

pub pairs-preserved : goal.pairs-preserved
pairs-preserved c = pairs_on c.take_part-key.result c.take_part-value.result c.pairs.invariant (omega arith)
    c.take_part-key.ensures c.take_part-value.ensures c.in_ok-push.ensures.items

pub returns : goal.returns
returns c = pairs_end (omega arith) c.pairs.invariant

pub returns-in_err-push : goal.returns-in_err-push
returns-in_err-push c = IfOk-from_err c.from_residual.result _ c.from_residual.ensures.0
