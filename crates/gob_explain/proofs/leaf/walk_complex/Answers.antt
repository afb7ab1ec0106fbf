-- Two numbers, one behind the other.
use Rattle.std.proofs.Common.{◌≡◌, ◌∷◌, ◌++◌, ap, refl, subst, sym}
use Rattle.gob_types.specs.declared.kind.Kind.{Kind}
use Rattle.gob_types.specs.declared.kind.Kind.TheVariants as kind
use Rattle.gob_types.specs.declared.basic.Basic.TheVariants as basic
use Rattle.gob_value.specs.Top.{IsStruct}
use Rattle.gob_read.specs.Expected.{any, first_allowed}
use Rattle.gob_explain.specs.Open.{a_value}
use Rattle.gob_explain.specs.Walk.{between}
use Rattle.gob_explain.proofs.PartLaws.{complex_whole}
use Rattle.gob_explain.proofs.TakesLaws.{goes_on, takes_first, takes_second}
use Rattle.gob_explain.proofs.WalkLaws.{any_range, fails_then, told_more, told_then, walk_failed}
use Rattle.gob_explain.proofs.leaf.walk_complex.Goals as goal

no_struct : {k : Kind} → k ≡ kind.Basic basic.Complex → ¬ IsStruct k
no_struct e = subst (λ k. ¬ IsStruct k) (sym e) (λ i. i)

pub returns-in_err-behind : goal.returns-in_err-behind
returns-in_err-behind g c = λ T t s base around most p outer way d l b f e.
    walk_failed g.O.RowSink.tells _ _ _ _ _ _ _ _ _ _ _ _
    c.from_residual.result
    c.from_residual.ensures.1
    (c.in_err-behind.ensures.walks T (a_value t base p ∷ outer) (goes_on t base p outer) any most way l
    (takes_first d b f (no_struct e) (ap first_allowed e) refl) any_range)

pub returns-in_err-end : goal.returns-in_err-end
returns-in_err-end g c = λ T t s base around most p outer way d l b f e.
    let first = c.in_ok-behind.ensures.walks T (a_value t base p ∷ outer) (goes_on t base p outer) any most way l
    (takes_first d b f (no_struct e) (ap first_allowed e) refl) any_range in
    let real = between c.args.at c.in_ok-behind.behind c.args.body.now in
    walk_failed g.O.RowSink.tells _ _ _ _ _ _ _ _ _ _ _ _
    c.from_residual-in_err-end.result c.from_residual-in_err-end.ensures.1
    (fails_then g.O.RowSink.tells g.met.O.RowSink.joined most _ first.0 _
    (c.in_err-end.ensures.walks T _ (goes_on t base (p ++ real) outer) any most way first.0.inside
    (takes_second p real d b f e first.1.3) any_range))

pub returns : goal.returns
returns g c = λ T t s base around most p outer way d l b f e.
    let first = c.in_ok-behind.ensures.walks T (a_value t base p ∷ outer) (goes_on t base p outer) any most way l
    (takes_first d b f (no_struct e) (ap first_allowed e) refl) any_range in
    let real = between c.args.at c.in_ok-behind.behind c.args.body.now in
    let imaginary = between c.in_ok-behind.behind c.in_ok-end.end c.args.body.now in
    let second = c.in_ok-end.ensures.walks T _ (goes_on t base (p ++ real) outer) any most way first.0.inside
    (takes_second p real d b f e first.1.3) any_range in (
      real ++ imaginary,
      complex_whole real imaginary f e first.1.3 second.1.3,
      told_more g.O.RowSink.tells p real imaginary
          (told_then g.O.RowSink.tells g.met.O.RowSink.joined first.0 second.0),
    )
