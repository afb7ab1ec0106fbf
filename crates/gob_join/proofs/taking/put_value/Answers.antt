use Rattle.std.proofs.Common.{refl}
use Rattle.gob_join.proofs.NumberLaws.{on_ok}
use Rattle.gob_join.proofs.TakingLaws.{value_put}
use Rattle.gob_join.proofs.taking.put_value.Goals as goal

pub returns-clause-taken : goal.returns-clause-taken
returns-clause-taken c = λ items bytes h.
    on_ok c.put_item.result (λ p. value_put refl c.in_ok-id.ensures c.in_ok-value.ensures p)
    (c.put_item.ensures.taken items bytes h)
