use Rattle.std.proofs.Common.{refl}
use Rattle.gob_join.proofs.NumberLaws.{on_ok}
use Rattle.gob_join.proofs.TakingLaws.{shape_put}
use Rattle.gob_join.proofs.taking.put_shape.Goals as goal

pub returns-clause-put : goal.returns-clause-put
returns-clause-put c = λ items bytes h.
    on_ok c.put_item.result (λ p. shape_put refl (c.definable.ensures.0 c.if-not-definable.false)
    c.in_ok-described.ensures.described p) (c.put_item.ensures.taken items bytes h)
