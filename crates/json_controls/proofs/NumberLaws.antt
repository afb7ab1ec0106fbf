-- The bytes of a number are below 127.
use Rattle.std.proofs.Common.{◌≡◌, ℕ, suc, ◌+◌, ◌<◌, ◌≤◌, Bool, true, false, cond, ◌&&◌, ◌||◌, ◌==◌, List, [], ◌∷◌}
use Rattle.std.proofs.Common.{◌++◌, drop, Option, Some, None, is_some, option_and_then, inl, inr, ◌⊎◌, refl, sym, ap}
use Rattle.std.proofs.Common.{◌∙◌}
use Rattle.std.proofs.Common.{subst, arith, append_assoc, nat_lt}
use Rattle.std.proofs.lemmas.Bool.{eqb-true, leb-true, lt-ltb, and_parts, and_from, or_cases, cases_Bool, true≢false}
use Rattle.std.proofs.lemmas.List.{append-nil}
use Rattle.std.specs.List.{prefix_len}
use Rattle.std.specs.Char.{is_ascii_digit}
use Rattle.json.specs.Word.{head, after_digits, after_minus, after_sign, after_whole, after_fraction, after_exponent}
use Rattle.json.specs.Word.{after_number}
use Rattle.json.specs.Print.{IsNumber}
use Rattle.json_controls.proofs.StepLaws.{are_small}

-- a text is bytes below 127, and then the rest
abbrev Prefix : List ℕ → List ℕ → Type 0
Prefix t r = (e : List ℕ) × (t ≡ e ++ r) × (are_small e ≡ true)

no_prefix : (t : List ℕ) → Prefix t t
no_prefix t = ([], refl, refl)

smalls_both : (e f : List ℕ) → are_small e ≡ true → are_small f ≡ true → are_small (e ++ f) ≡ true
smalls_both [] f p q = q
smalls_both (x ∷ e) f p q = let h = and_parts _ _ p in and_from _ _ h.0 (smalls_both e f h.1 q)

prefixes : {t r q : List ℕ} → Prefix t r → Prefix r q → Prefix t q
prefixes {q = q} a b = (
  a.0 ++ b.0,
  a.1 ∙ ap (λ l. a.0 ++ l) b.1 ∙ sym (append_assoc a.0 b.0 q),
  smalls_both a.0 b.0 a.2 b.2,
)

-- a byte that is known
first_prefix : (c : ℕ) (t : List ℕ) → c < 127 → (head t == c) ≡ true → Prefix t (drop 1 t)
first_prefix c [] l e = no_prefix []
first_prefix c (x ∷ t) l e =
    let is = eqb-true x c e in (x ∷ [], refl, and_from _ _ (lt-ltb x 127 (omega (arith, is))) refl)

digit_small : (x : ℕ) → is_ascii_digit x ≡ true → x < 127
digit_small x e = let high = leb-true x 57 (and_parts _ _ e).1 in omega arith

digits_prefix : (t : List ℕ) → Prefix t (drop (prefix_len is_ascii_digit t) t)
digits_prefix [] = no_prefix []
digits_prefix (x ∷ t) = by (digits_prefix t) (is_ascii_digit x) refl
  where
    by : Prefix t (drop (prefix_len is_ascii_digit t) t) → (d : Bool) → is_ascii_digit x ≡ d
        → Prefix (x ∷ t) (drop (cond d (1 + prefix_len is_ascii_digit t) 0) (x ∷ t))
    by f false e = no_prefix (x ∷ t)
    by f true e =
        let one : suc (prefix_len is_ascii_digit t) ≡ 1 + prefix_len is_ascii_digit t = omega arith in (
          x ∷ f.0,
          ap (λ l. x ∷ l) f.1 ∙ ap (λ k. (x ∷ f.0) ++ drop k (x ∷ t)) one,
          and_from _ _ (lt-ltb x 127 (digit_small x e)) f.2,
        )

-- what a part of the grammar leaves of a text
abbrev Leaves : (List ℕ → Option (List ℕ)) → Type 0
Leaves f = (t r : List ℕ) → f t ≡ Some r → Prefix t r

some_is : {a b : List ℕ} → Some a ≡ Some b → a ≡ b
some_is {a = a} e = ap (λ o. unwrap o) e
  where
    unwrap : Option (List ℕ) → List ℕ
    unwrap None = a
    unwrap (Some x) = x

digits_leave : Leaves after_digits
digits_leave t r e = by (prefix_len is_ascii_digit t == 0) e
  where
    by : (z : Bool) → cond z None (Some (drop (prefix_len is_ascii_digit t) t)) ≡ Some r → Prefix t r
    by true e = absurd (true≢false (sym (ap is_some e)))
    by false e = subst (Prefix t) (some_is e) (digits_prefix t)

if_first : (c : ℕ) (t : List ℕ) → c < 127 → (b : Bool) → (head t == c) ≡ b → Prefix t (cond b (drop 1 t) t)
if_first c t l true e = first_prefix c t l e
if_first c t l false e = no_prefix t

minus_prefix : (t : List ℕ) → Prefix t (after_minus t)
minus_prefix t = if_first 45 t (omega arith) (head t == 45) refl

sign_prefix : (t : List ℕ) → Prefix t (after_sign t)
sign_prefix t = by (cases_Bool (head t == 45)) (cases_Bool (head t == 43))
  where
    by : ((head t == 45) ≡ true) ⊎ ((head t == 45) ≡ false) → ((head t == 43) ≡ true) ⊎ ((head t == 43) ≡ false)
        → Prefix t (after_sign t)
    by (inl a) b = rw a (first_prefix 45 t (omega arith) a)
    by (inr a) (inl b) = rw (a, b) (first_prefix 43 t (omega arith) b)
    by (inr a) (inr b) = rw (a, b) (no_prefix t)

whole_leave : Leaves after_whole
whole_leave t r e = by (head t == 48) refl e
  where
    by : (z : Bool) → (head t == 48) ≡ z → cond z (Some (drop 1 t)) (after_digits t) ≡ Some r → Prefix t r
    by true a e = subst (Prefix t) (some_is e) (first_prefix 48 t (omega arith) a)
    by false a e = digits_leave t r e

fraction_leave : Leaves after_fraction
fraction_leave t r e = by (head t == 46) refl e
  where
    by : (z : Bool) → (head t == 46) ≡ z → cond z (after_digits (drop 1 t)) (Some t) ≡ Some r → Prefix t r
    by true a e = prefixes (first_prefix 46 t (omega arith) a) (digits_leave (drop 1 t) r e)
    by false a e = subst (Prefix t) (some_is e) (no_prefix t)

exponent_leave : Leaves after_exponent
exponent_leave t r e = by ((head t == 101) || (head t == 69)) refl e
  where
    mark : ((head t == 101) ≡ true) ⊎ ((head t == 69) ≡ true) → Prefix t (drop 1 t)
    mark (inl a) = first_prefix 101 t (omega arith) a
    mark (inr a) = first_prefix 69 t (omega arith) a

    by : (z : Bool) → ((head t == 101) || (head t == 69)) ≡ z
        → cond z (after_digits (after_sign (drop 1 t))) (Some t) ≡ Some r → Prefix t r
    by true a e =
        prefixes (mark (or_cases (head t == 101) (head t == 69) a))
        (prefixes (sign_prefix (drop 1 t)) (digits_leave (after_sign (drop 1 t)) r e))
    by false a e = subst (Prefix t) (some_is e) (no_prefix t)

then_leave : (f : List ℕ → Option (List ℕ)) → Leaves f → (t : List ℕ) (o : Option (List ℕ))
    → ((q : List ℕ) → o ≡ Some q → Prefix t q) → (r : List ℕ) → option_and_then f o ≡ Some r → Prefix t r
then_leave f l t None h r e = absurd (true≢false (sym (ap is_some e)))
then_leave f l t (Some q) h r e = prefixes (h q refl) (l q r e)

number_leave : Leaves after_number
unfolding after_number
number_leave t r e =
    then_leave after_exponent exponent_leave t (option_and_then after_fraction (after_whole (after_minus t)))
    (then_leave after_fraction fraction_leave t (after_whole (after_minus t))
    (λ q f. prefixes (minus_prefix t) (whole_leave (after_minus t) q f))) r e

pub number_small : (s : List ℕ) → IsNumber s → are_small s ≡ true
number_small s n =
    let f = number_leave s [] n in subst (λ l. are_small l ≡ true) (sym (f.1 ∙ append-nil f.0)) f.2
