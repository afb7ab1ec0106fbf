use Rattle.std.proofs.lemmas.Result.{on_ok_weaker}
use Rattle.gob_types.specs.Defined.{types}
use Rattle.gob_handed.proofs.HandoutLaws.{extends_none, extends_on, put_so}
use Rattle.gob_handed.proofs.go.push_put.Goals as goal

pub returns-in_err-content-clause-extends : goal.returns-in_err-content-clause-extends
returns-in_err-content-clause-extends c = extends_none _

pub returns-in_err-push_inner_ids-clause-extends : goal.returns-in_err-push_inner_ids-clause-extends
returns-in_err-push_inner_ids-clause-extends c = extends_none _

pub returns-clause-unfolded : goal.returns-clause-unfolded
returns-clause-unfolded c =
    let T = types c.args.table.now in
    on_ok_weaker c.push_handout.result (λ e. put_so T c.in_ok-content.content
    (rw c.deref.ensures.value at c.in_ok-push_definitions.ensures.pushed) e
    (λ w f. rw c.new-ids.ensures.items at (c.in_ok-push_inner_ids.ensures T c.args.id w f))
    c.in_ok-content.ensures.value c.in_ok-content.ensures.nodes) c.push_handout.ensures.pushed

pub returns-clause-extends : goal.returns-clause-extends
returns-clause-extends c = extends_on c.push_definitions.ensures.extends c.push_handout.ensures.extends
