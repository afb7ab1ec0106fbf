use Rattle.std.proofs.lemmas.Result.{on_ok_weaker}
use Rattle.gob_types.specs.Defined.{types}
use Rattle.gob_handed.proofs.HandoutLaws.{go_defined, go_valued}
use Rattle.gob_handed.proofs.go.push_item.Goals as goal

pub returns-in-Define-clause-unfolded : goal.returns-in-Define-clause-unfolded
returns-in-Define-clause-unfolded c =
    on_ok_weaker c.push_handout.result (λ e. go_defined (types c.args.table.now) c.in-Define.is e)
    c.push_handout.ensures.pushed

pub returns-in-Put-clause-unfolded : goal.returns-in-Put-clause-unfolded
returns-in-Put-clause-unfolded c =
    on_ok_weaker c.push_put.result (λ g. go_valued (types c.args.table.now) c.in-Put.is g) c.push_put.ensures.unfolded
