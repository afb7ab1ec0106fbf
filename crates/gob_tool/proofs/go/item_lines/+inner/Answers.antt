use Rattle.std.proofs.Math.ListN.{drop_of_length-le}
use Rattle.gob_tool.proofs.Profile.LineLaws.{filling_made, inner_made}
use Rattle.gob_tool.proofs.go.item_lines.+inner.Goals as goal

pub push_inner-loop-filling-preserved : goal.push_inner-loop-filling-preserved
push_inner-loop-filling-preserved t c = λ fs a.
    filling_made c.filling-item.result c.deref-filling-items.ensures.value c.filling-item.is c.loop-filling-test.true
    (c.loop-filling.invariant fs a) c.in_ok-push_filling.ensures

pub push_inner-returns : goal.push_inner-returns
push_inner-returns t c = λ type w m.
    inner_made c.deref-filling-items.ensures.value
    (drop_of_length-le c.deref-filling-items.result.now c.loop-filling-test.false) c.loop-filling.invariant m
