-- Which tokens stand behind the bracket that closes.
use Rattle.std.proofs.Common.{◌≡◌, ℕ, ◌≤◌, List, [], ◌∷◌, ◌∙◌, Bool, true, false, length, refl, ap, sym, arith}
use Rattle.std.specs.Prelude.{Option, Some, if◌then◌else◌}
use Rattle.gob_go_source.specs.declared.token.Token.{Token}
use Rattle.gob_go_source.specs.Brackets.{behind_close, closes_at, depth_after}

pub first_of : {A : Type 0} (b : Bool) (x y : A) → b ≡ true → (if b then x else y) ≡ x
first_of true x y e = refl
first_of false x y e = cc

pub second_of : {A : Type 0} (b : Bool) (x y : A) → b ≡ false → (if b then x else y) ≡ y
second_of true x y e = cc
second_of false x y e = refl

pub closed_here : (d : ℕ) {t : Token} {ts us : List Token} → ts ≡ t ∷ us → closes_at d t ≡ true
    → behind_close d ts ≡ Some us
closed_here d {t = t} {us = us} e h =
    ap (behind_close d) e ∙ first_of (closes_at d t) (Some us) (behind_close (depth_after d t) us) h

pub closed_later : (d n : ℕ) {t : Token} {ts us : List Token} → ts ≡ t ∷ us → closes_at d t ≡ false
    → n ≡ depth_after d t → behind_close n us ≡ behind_close d ts
closed_later d n {t = t} {us = us} e h same =
    ap (λ (k : ℕ). behind_close k us) same
    ∙ sym (ap (behind_close d) e ∙ second_of (closes_at d t) (Some us) (behind_close (depth_after d t) us) h)

pub within_by : (b : Bool) (t : Token) (ts us : List Token) (o : Option (List Token))
    → (o ≡ Some us → length us ≤ length ts) → (if b then Some ts else o) ≡ Some us → length us ≤ length (t ∷ ts)
within_by true t ts us o h e = let same : ts ≡ us = cc in omega (arith, ap length same)
within_by false t ts us o h e = omega (arith, h e)

pub close_within : (d : ℕ) (ts us : List Token) → behind_close d ts ≡ Some us → length us ≤ length ts
close_within d [] us e = cc
close_within d (t ∷ ts) us e =
    within_by (closes_at d t) t ts us (behind_close (depth_after d t) ts) (close_within (depth_after d t) ts us) e
