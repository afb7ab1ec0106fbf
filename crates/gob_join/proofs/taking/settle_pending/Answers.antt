use Rattle.gob_join.proofs.NumberLaws.{on_ok}
use Rattle.gob_join.proofs.TakingLaws.{all_settled}
use Rattle.gob_join.proofs.taking.settle_pending.Goals as goal

pub returns-clause-settled : goal.returns-clause-settled
returns-clause-settled c = λ items bytes h r.
    on_ok c.define_all.result (λ d. all_settled r c.in_ok-number.ensures d)
    (c.define_all.ensures.defined items bytes h)
