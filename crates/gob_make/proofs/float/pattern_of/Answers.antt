use Rattle.std.proofs.Common.{◌≡◌, ℕ, List, Option, Some, None, Bor, IfSome, codes, refl, rules, sym, subst, true}
use Rattle.std.specs.Float.{float_is_finite}
use Rattle.std.specs.Float.Ieee.{Float, binary64, to_bits}
use Rattle.ryu.specs.Parse.{parse_float}
use Rattle.json.specs.Json as json
use Rattle.json.specs.declared.token.Token.TheVariants as taken
use Rattle.gob_make.specs.Leaf.{ReadsFloat}
use Rattle.gob_make.specs.Leaf as leaf
use Rattle.gob_make.specs.Tells.{IsFloat}
use Rattle.gob_make.proofs.float.pattern_of.Goals as goal

number_float : (r : Option ℕ) (s : Bor (List ℕ)) → IfSome r (λ p. (x : Float) × (parse_float binary64 s.now ≡ Some x)
    × (float_is_finite x ≡ true) × (p ≡ to_bits binary64 x)) → IfSome r (IsFloat (Some (taken.Number s)))
number_float None s h = tt
number_float (Some p) s h =
    (json.number s.now, subst (λ q. ReadsFloat (json.number s.now) q) (sym h.3) (leaf.of_number h.1 h.2), refl)

named_float : (s : Bor (List ℕ)) (name : List ℕ) (p : ℕ) → s.now ≡ name → ReadsFloat (json.string name) p
    → IsFloat (Some (taken.String s)) p
named_float s name p e r = (json.string s.now, subst (λ n. ReadsFloat (json.string n) p) (sym e) r, refl)

pub returns-in-Some-Number : goal.returns-in-Some-Number
returns-in-Some-Number c =
    let e : c.args.token ≡ Some (taken.Number c.in-Some-Number.text) = search rules in
    subst (λ k. IfSome c.finite_of.result (IsFloat k)) (sym e)
    (number_float c.finite_of.result c.in-Some-Number.text c.finite_of.ensures)

pub returns-in-Some-String-NaN : goal.returns-in-Some-String-NaN
returns-in-Some-String-NaN c =
    let e : c.args.token ≡ Some (taken.String c.in-Some-String-NaN.field-0-0) = search rules in
    subst (λ k. IsFloat k 9221120237041090561) (sym e)
    (named_float c.in-Some-String-NaN.field-0-0 (codes "NaN") 9221120237041090561 (rw e at c.in-Some-String-NaN.is-NaN)
    leaf.of_no_number)

pub returns-in-Some-String-Infinity : goal.returns-in-Some-String-Infinity
returns-in-Some-String-Infinity c =
    let e : c.args.token ≡ Some (taken.String c.in-Some-String-Infinity.field-0-0) = search rules in
    subst (λ k. IsFloat k 9218868437227405312) (sym e)
    (named_float c.in-Some-String-Infinity.field-0-0 (codes "Infinity") 9218868437227405312
    (rw e at c.in-Some-String-Infinity.is-Infinity) leaf.of_infinity)

pub returns-in-Some-String-text : goal.returns-in-Some-String-text
returns-in-Some-String-text c =
    let e : c.args.token ≡ Some (taken.String c.in-Some-String-text.field-0-0) = search rules in
    subst (λ k. IsFloat k 18442240474082181120) (sym e)
    (named_float c.in-Some-String-text.field-0-0 (codes "-Infinity") 18442240474082181120
    (rw e at c.in-Some-String-text.is-text) leaf.of_negative_infinity)
