-- From filling to filling its name is kept, and those in its value.
use Rattle.std.proofs.Math.ListN.{drop_of_length-le}
use Rattle.gob_views.proofs.NamingLaws.{filling_named, inner_named, none_named}
use Rattle.gob_views.proofs.gathered.+names.Goals as goal

pub keep_names-loop-filling-init : goal.keep_names-loop-filling-init
keep_names-loop-filling-init t c = λ T fs a. none_named _ a

pub keep_names-loop-filling-preserved : goal.keep_names-loop-filling-preserved
keep_names-loop-filling-preserved t c = λ T fs a.
    filling_named c.filling-item.result c.deref-filling-items.ensures.value c.filling-item.is c.loop-filling-test.true
    (c.loop-filling.invariant T fs a) (λ w m. c.in_ok-keep_filling.ensures T w m)

pub keep_names-returns : goal.keep_names-returns
keep_names-returns t c = λ T type w m.
    inner_named c.deref-filling-items.ensures.value
    (drop_of_length-le c.deref-filling-items.result.now c.loop-filling-test.false)
    (λ fs a. c.loop-filling.invariant T fs a) m
