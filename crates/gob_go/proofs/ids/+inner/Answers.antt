use Rattle.std.proofs.Math.ListN.{drop_of_length-le}
use Rattle.gob_go.proofs.IdLaws.{filling_kept, inner_kept, none_kept}
use Rattle.gob_go.proofs.ids.+inner.Goals as goal

pub push_inner_ids-loop-filling-init : goal.push_inner_ids-loop-filling-init
push_inner_ids-loop-filling-init t c = λ T fs a. none_kept _ a

pub push_inner_ids-loop-filling-preserved : goal.push_inner_ids-loop-filling-preserved
push_inner_ids-loop-filling-preserved t c = λ T fs a.
    filling_kept c.filling-item.result c.deref-filling-items.ensures.value c.filling-item.is c.loop-filling-test.true
    (c.loop-filling.invariant T fs a) (λ w m. c.in_ok-push_filling.ensures T w m)

pub push_inner_ids-returns : goal.push_inner_ids-returns
push_inner_ids-returns t c = λ T type w m.
    inner_kept c.deref-filling-items.ensures.value
    (drop_of_length-le c.deref-filling-items.result.now c.loop-filling-test.false)
    (λ fs a. c.loop-filling.invariant T fs a) m
