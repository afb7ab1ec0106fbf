use Rattle.gob_types.proofs.WaitLaws.{led_names}
use Rattle.std.proofs.lemmas.Result.{on_ok_weaker}
use Rattle.gob_types.proofs.learning.begin.Goals as goal

pub returns-clause-led : goal.returns-clause-led
returns-clause-led c led = on_ok_weaker c.begin.result (λ n. led_names led n c.in_ok-names_of.ensures
    c.begin.ensures.awaited) c.begin.ensures.left
