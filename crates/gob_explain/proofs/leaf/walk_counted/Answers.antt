-- A count, and so many bytes behind it.
use Rattle.std.proofs.Common.{◌∷◌, arith}
use Rattle.gob_read.specs.Expected.{any}
use Rattle.gob_explain.specs.Open.{a_value}
use Rattle.gob_explain.specs.Walk.{between}
use Rattle.gob_explain.specs.Machine.Walking.{SpellsOne}
use Rattle.gob_explain.proofs.PartLaws.{raw_none, raw_whole}
use Rattle.gob_explain.proofs.TakesLaws.{goes_on, takes_raw, takes_size}
use Rattle.gob_explain.proofs.WalkLaws.{any_range, walk_failed, walks_on_raw}
use Rattle.gob_explain.proofs.leaf.walk_counted.Goals as goal

pub returns-in_err-count : goal.returns-in_err-count
returns-in_err-count g c = λ T t s base around most p outer way d l b f h.
    walk_failed g.O.RowSink.tells _ _ _ _ _ _ _ _ _ _ _ _
    c.from_residual.result
    c.from_residual.ensures.1
    (c.in_err-count.ensures.walks T (a_value t base p ∷ outer) (goes_on t base p outer) any most way l (takes_size d b f
    h) any_range)

pub returns-then-count-eq0 : goal.returns-then-count-eq0
returns-then-count-eq0 g c = λ T t s base around most p outer way d l b f h.
    let first = c.in_ok-count.ensures.walks T (a_value t base p ∷ outer) (goes_on t base p outer) any most way l
    (takes_size d b f h) any_range in
    let c' = between c.args.at c.in_ok-count.behind c.args.body.now in
    (c', raw_none c' f h c.if-count-eq0.true first.1.3, first.0)

pub returns : goal.returns
returns g c = λ T t s base around most p outer way d l b f h.
    let first = c.in_ok-count.ensures.walks T (a_value t base p ∷ outer) (goes_on t base p outer) any most way l
    (takes_size d b f h) any_range in
    let size = between c.args.at c.in_ok-count.behind c.args.body.now in
    walks_on_raw g.O.RowSink.tells g.met.O.RowSink.joined (SpellsOne T c.args.part.id) most _ p size first.0
    c.walk_raw.result
    (c.walk_raw.ensures T _ _ most way first.0.inside (omega arith) (takes_raw p size d b f h (omega arith) first.1.3))
    (λ x e. raw_whole size x f h e first.1.3)
