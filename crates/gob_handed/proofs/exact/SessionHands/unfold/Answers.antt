use Rattle.std.proofs.lemmas.Result.{on_ok_weaker}
use Rattle.gob_handed.proofs.HandoutLaws.{defined, valued}
use Rattle.gob_handed.proofs.exact.SessionHands.unfold.Goals as goal

pub returns-in-Define-clause-unfolded : goal.returns-in-Define-clause-unfolded
returns-in-Define-clause-unfolded g c =
    on_ok_weaker c.push_handout.result (λ e. defined g.B.Builder.building.means c.in-Define.is e)
    c.push_handout.ensures.pushed

pub returns-clause-unfolded : goal.returns-clause-unfolded
returns-clause-unfolded g c =
    on_ok_weaker c.push_handout-in-Put.result (λ e. valued g.B.Builder.building.means c.in-Put.is e)
    c.push_handout-in-Put.ensures.pushed
