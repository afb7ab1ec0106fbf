-- By the basic type.
use Rattle.std.proofs.Common.{◌≡◌, ◌≢◌, ◌∷◌, ap, ◌∙◌, refl, subst, sym}
use Rattle.gob_types.specs.declared.kind.Kind.{Kind}
use Rattle.gob_types.specs.declared.kind.Kind.TheVariants as kind
use Rattle.gob_types.specs.declared.basic.Basic.{Basic}
use Rattle.gob_types.specs.declared.basic.Basic.TheVariants as basic
use Rattle.gob_value.specs.Top.{IsStruct}
use Rattle.gob_read.specs.Expected.{first_allowed}
use Rattle.gob_explain.specs.Open.{a_value}
use Rattle.gob_explain.specs.Walk.{HasRawBytes, between, opened}
use Rattle.gob_explain.proofs.PartLaws.{number_whole}
use Rattle.gob_explain.proofs.TakesLaws.{goes_on, opened_once, takes_first}
use Rattle.gob_explain.proofs.WalkLaws.{in_range, walk_failed}
use Rattle.gob_explain.proofs.leaf.walk_basic.Goals as goal

no_struct : {k : Kind} (b : Basic) → k ≡ kind.Basic b → ¬ IsStruct k
no_struct b e = subst (λ k. ¬ IsStruct k) (sym e) (λ i. i)

-- what begins no interface is allowed as it is
as_it_is : (b : Basic) → b ≢ basic.Interface → first_allowed (kind.Basic b) ≡ opened (first_allowed (kind.Basic b))
as_it_is basic.Bool n = refl
as_it_is basic.Int n = refl
as_it_is basic.Uint n = refl
as_it_is basic.Float n = refl
as_it_is basic.Bytes n = refl
as_it_is basic.Str n = refl
as_it_is basic.Complex n = refl
as_it_is basic.Interface n = absurd (n refl)

pub returns-in-Bytes : goal.returns-in-Bytes
returns-in-Bytes g c = λ T t s base around most p outer way d l b f e n.
    c.walk_counted.ensures T t s base around most p outer way d l b f
    (subst HasRawBytes (sym (e ∙ ap kind.Basic c.in-Bytes.is)) tt)

pub returns-in-Str : goal.returns-in-Str
returns-in-Str g c = λ T t s base around most p outer way d l b f e n.
    c.walk_counted-in-Str.ensures T t s base around most p outer way d l b f
    (subst HasRawBytes (sym (e ∙ ap kind.Basic c.in-Str.is)) tt)

pub returns-in-Complex : goal.returns-in-Complex
returns-in-Complex g c = λ T t s base around most p outer way d l b f e n.
    c.walk_complex.ensures T t s base around most p outer way d l b f (e ∙ ap kind.Basic c.in-Complex.is)

pub returns-in_err-end-in_default : goal.returns-in_err-end-in_default
returns-in_err-end-in_default g c = λ T t s base around most p outer way d l b f e n.
    let allowed = opened (first_allowed (kind.Basic c.args.basic)) in
    walk_failed g.O.RowSink.tells _ _ _ _ _ _ _ _ _ _ _ _
    c.from_residual.result
    c.from_residual.ensures.1
    (c.in_err-end-in_default.ensures.walks T (a_value t base p ∷ outer) (goes_on t base p outer) allowed most way l
    (takes_first d b f (no_struct c.args.basic e) (ap first_allowed e ∙ as_it_is c.args.basic n)
    (opened_once (first_allowed (kind.Basic c.args.basic)))) c.allowed_of.ensures)

pub returns-in_ok-end-in_default : goal.returns-in_ok-end-in_default
returns-in_ok-end-in_default g c = λ T t s base around most p outer way d l b f e n.
    let allowed = opened (first_allowed (kind.Basic c.args.basic)) in
    let first = c.in_ok-end-in_default.ensures.walks T (a_value t base p ∷ outer) (goes_on t base p outer) allowed most
    way l
    (takes_first d b f (no_struct c.args.basic e) (ap first_allowed e ∙ as_it_is c.args.basic n)
    (opened_once (first_allowed (kind.Basic c.args.basic)))) c.allowed_of.ensures in (
      between c.args.at c.in_ok-end-in_default.end c.args.body.now,
      number_whole c.args.basic f e c.in_default.not-Bytes c.in_default.not-Str c.in_default.not-Complex n
          (in_range allowed c.allowed_of.ensures first.1.3 first.1.1 first.1.2) first.1.3,
      first.0,
    )
