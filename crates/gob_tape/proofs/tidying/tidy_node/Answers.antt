use Rattle.std.proofs.lemmas.Result.{IfOk-from_err}
use Rattle.gob_tape.proofs.TidyingLaws.{node_tells}
use Rattle.gob_tape.proofs.tidying.tidy_node.Goals as goal

pub returns : goal.returns
returns g c = λ nodes due n h inside q. node_tells c.args.node n h inside c.in_ok-tell_node.ensures c.end_parts.ensures
    q

pub returns-in_err-tell_node : goal.returns-in_err-tell_node
returns-in_err-tell_node g c = IfOk-from_err c.from_residual.result _ c.from_residual.ensures.0
