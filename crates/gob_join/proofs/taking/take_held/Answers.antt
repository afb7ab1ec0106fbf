use Rattle.std.proofs.Common.{refl}
use Rattle.gob_join.proofs.NumberLaws.{on_ok}
use Rattle.gob_join.proofs.TakingLaws.{held_taken}
use Rattle.gob_join.proofs.taking.take_held.Goals as goal

pub returns-clause-taken : goal.returns-clause-taken
returns-clause-taken c = λ v fs items bytes h r m.
    let s = c.in_ok-settle_pending.ensures.settled items bytes h r in
    on_ok c.put_item.result (λ p. held_taken refl c.in_ok-value.ensures m s p)
    (c.put_item.ensures.taken _ _ s.on.put)
