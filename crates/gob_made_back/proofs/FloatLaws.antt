-- A float of math/big has one text.
use Rattle.std.proofs.Common.{◌≡◌, ◌∙◌, ◌+◌, ◌*◌, ◌/◌, ◌%◌, ◌-◌, ◌^◌, ◌<◌, ◌++◌, ℕ, ℤ, zero, suc, List, [], ◌∷◌}
use Rattle.std.proofs.Common.{ap, arith}
use Rattle.std.proofs.Common.{inl, inr, length, mul-div_cancel, mul_assoc, mul_comm, pow-suc, refl, subst, sym}
use Rattle.std.proofs.lemmas.Bool.{cases_lt, cases_order}
use Rattle.std.proofs.lemmas.Int.{ints}
use Rattle.std.proofs.lemmas.Nat.{pow-add}
use Rattle.std.proofs.lemmas.Str.{digit_value_digit}
use Rattle.std.proofs.lemmas.Str.Parse.{digit_from_value}
use Rattle.std.specs.Char.{digit_value}
use Rattle.std.specs.Prelude.{slice_index}
use Rattle.std.specs.Str.Parse.{AllDigits, digits_value, digits_value_after}
use Rattle.gob_plain.specs.FloatText.{IsFloatText, IsPlaced, IsScaled, is_finite, is_infinite, is_zero, minus}
use Rattle.gob_plain.specs.FloatText.{pointed}
use Rattle.gob_made_back.proofs.DigitLaws.{as_many_once, decimal_once}

value_behind : (n : ℕ) (ds es : List ℕ)
    → digits_value_after 10 n (ds ++ es) ≡ digits_value_after 10 (digits_value_after 10 n ds) es
value_behind n [] es = refl
value_behind n (d ∷ ds) es = value_behind (n * 10 + digit_value d) ds es

digit_at : (ds : List ℕ) (i : ℕ) → AllDigits 10 ds → i < length ds → digit_value (slice_index ds i) < 10
digit_at [] i d l = let never : ⊥ = omega (arith, l) in absurd never
digit_at (c ∷ ds) zero d l = d.0
digit_at (c ∷ ds) (suc i) d l = digit_at ds i d.1 (omega (arith, l))

last_of : (c : ℕ) (ds : List ℕ) (m : ℕ) → AllDigits 10 (c ∷ ds)
    → digits_value_after 10 m (c ∷ ds) % 10 ≡ digit_value (slice_index (c ∷ ds) (length ds))
last_of c [] m d = let small : digit_value c < 10 = d.0 in omega arith
last_of c (e ∷ ds) m d = last_of e ds (m * 10 + digit_value c) d.1

-- digits of which the last one isn't 0 say no multiple of 10
no_tens : (m k : ℕ) (ds : List ℕ) → 0 < length ds → AllDigits 10 ds → (slice_index ds (length ds - 1) ≡ 48 → ⊥)
    → digits_value_after 10 m ds ≡ k * 10 → ⊥
no_tens m k [] some d last e = omega (arith, some)
no_tens m k (c ∷ ds) some d last e =
    let at : length (c ∷ ds) - 1 ≡ length ds = omega arith in
    let zero_digit : digit_value (slice_index (c ∷ ds) (length ds)) ≡ 0 =
    sym (last_of c ds m d) ∙ (let z : digits_value_after 10 m (c ∷ ds) % 10 ≡ 0 = omega (arith, e) in z) in
    let is = digit_value_digit (slice_index (c ∷ ds) (length ds))
    (digit_from_value (slice_index (c ∷ ds) (length ds)) (digit_at (c ∷ ds) (length ds) d (omega arith))) in
    last (ap (slice_index (c ∷ ds)) at ∙ sym is ∙ ap (λ n. n + 48) zero_digit)

some_power : (a : ℕ) → 0 < 10 ^ a
some_power zero = omega arith
some_power (suc a) = omega (arith, some_power a, pow-suc 10 a)

cancel : (x y c : ℕ) → 0 < c → x * c ≡ y * c → x ≡ y
cancel x y c some e = sym (mul-div_cancel x some) ∙ ap (λ n. n / c) e ∙ mul-div_cancel y some

tens_moved : (y a k : ℕ) → y * 10 ^ (a + k) ≡ y * 10 ^ k * 10 ^ a
tens_moved y a k =
    ap (λ p. y * p) (pow-add 10 a k ∙ mul_comm (10 ^ a) (10 ^ k)) ∙ sym (mul_assoc y (10 ^ k) (10 ^ a))

shift_once : (x y a k : ℕ) → x * 10 ^ a ≡ y * 10 ^ (a + k) → x ≡ y * 10 ^ k
shift_once x y a k e = cancel x (y * 10 ^ k) (10 ^ a) (some_power a) (e ∙ tens_moved y a k)

-- the same digits behind the point, of one number
same_parts : {n m p q : ℕ} {s t : List ℕ} (x : IsPlaced n p s) (y : IsPlaced m q t) → length x.part ≡ length y.part
    → digits_value 10 (x.whole ++ x.part) ≡ digits_value 10 (y.whole ++ y.part) → s ≡ t
same_parts x y l e =
    let r = as_many_once (digits_value 10 x.whole) (digits_value 10 y.whole) x.part y.part l x.digits y.digits
    (sym (value_behind 0 x.whole x.part) ∙ e ∙ value_behind 0 y.whole y.part) in
    let whole = decimal_once x.whole y.whole
    (record { numeral = x.numeral; shortest = x.shortest; value = r.0 })
    (record { numeral = y.numeral; shortest = y.shortest; value = refl }) in
    x.is ∙ ap (λ (w : List ℕ). w ++ pointed x.part) whole ∙ ap (λ (d : List ℕ). y.whole ++ pointed d) r.1 ∙ sym y.is

-- no number is a multiple of ten where it has a last digit behind the point
no_more_places : {n m p q : ℕ} {s t : List ℕ} (k : ℕ) (x : IsPlaced n p s) (y : IsPlaced m q t)
    → 0 < length y.part
    → digits_value 10 (y.whole ++ y.part) ≡ digits_value 10 (x.whole ++ x.part) * 10 ^ suc k → ⊥
no_more_places k x y some e =
    let v = digits_value 10 (x.whole ++ x.part) in
    no_tens (digits_value 10 y.whole) (v * 10 ^ k) y.part some y.digits (y.last some)
    (sym (value_behind 0 y.whole y.part) ∙ e ∙ ap (λ p. v * p) (pow-suc 10 k) ∙ sym (mul_assoc v (10 ^ k) 10))

placed_once : {n p : ℕ} {s t : List ℕ} (d : ℕ) → IsPlaced n p s → IsPlaced (n * 10 ^ d) (p + d) t → s ≡ t
placed_once {n = n} {p = p} d x y =
    let v = digits_value 10 (x.whole ++ x.part) in
    let w = digits_value 10 (y.whole ++ y.part) in
    let a = x.dropped in
    let b = y.dropped in
    let counted = x.count in
    let all = y.count in
    let value : w * 10 ^ b ≡ v * 10 ^ (a + d) =
    y.value ∙ ap (λ m. m * 10 ^ d) (sym x.value) ∙ mul_assoc v (10 ^ a) (10 ^ d)
    ∙ ap (λ m. v * m) (sym (pow-add 10 a d)) in
    elim (cases_order (length x.part) (length y.part)) [
      | inl same ↦
          let drops : b ≡ a + d = omega arith in
          same_parts x y same (sym (cancel w v (10 ^ (a + d)) (some_power (a + d))
          (ap (λ m. w * 10 ^ m) (sym drops) ∙ value)))
      | inr (inl less) ↦
          let k = length y.part - suc (length x.part) in
          let drops : a + d ≡ b + suc k = omega arith in
          absurd (no_more_places k x y (omega arith) (shift_once w v b (suc k)
          (value ∙ ap (λ m. v * 10 ^ m) drops)))
      | inr (inr more) ↦
          let k = length x.part - suc (length y.part) in
          let drops : b ≡ a + d + suc k = omega arith in
          absurd (no_more_places k y x (omega arith) (shift_once v w (a + d) (suc k)
          (sym value ∙ ap (λ m. w * 10 ^ m) drops)))
    ]

tens_are : (d : ℕ) → 2 ^ d * 5 ^ d ≡ 10 ^ d
tens_are zero = refl
tens_are (suc d) =
    ap (λ x. x * 5 ^ suc d) (pow-suc 2 d) ∙ ap (λ y. 2 ^ d * 2 * y) (pow-suc 5 d)
    ∙ (let z : 2 ^ d * 2 * (5 ^ d * 5) ≡ 2 ^ d * 5 ^ d * 10 = omega arith in z) ∙ ap (λ x. x * 10) (tens_are d)
    ∙ sym (pow-suc 10 d)

scaled_up : {m bits n k p q : ℕ} {e : ℤ} (d : ℕ) → q ≡ p + d → IsScaled m bits e n p → IsScaled m bits e k q
    → k ≡ n * 10 ^ d
scaled_up {m = m} {p = p} {q = q} d is x y =
    let u = x.up in
    let first = x.balanced in
    let second = y.balanced in
    let up : y.up ≡ u + d = omega (arith, ints) in
    y.value ∙ ap (λ i. m * 2 ^ i * 5 ^ q) up ∙ ap (λ i. m * 2 ^ (u + d) * 5 ^ i) is
    ∙ ap (λ i. m * i * 5 ^ (p + d)) (pow-add 2 u d) ∙ ap (λ i. m * (2 ^ u * 2 ^ d) * i) (pow-add 5 p d)
    ∙ regroup m (2 ^ u) (2 ^ d) (5 ^ p) (5 ^ d) ∙ ap (λ i. m * 2 ^ u * 5 ^ p * i) (tens_are d)
    ∙ ap (λ i. i * 10 ^ d) (sym x.value)
  where
    regroup : (a b c f g : ℕ) → a * (b * c) * (f * g) ≡ a * b * f * (c * g)
    regroup a b c f g = omega arith

finite_once : {m bits n k p q : ℕ} {e : ℤ} {s t : List ℕ} → IsScaled m bits e n p → IsPlaced n p s
    → IsScaled m bits e k q → IsPlaced k q t → s ≡ t
finite_once {n = n} {k = k} {p = p} {q = q} {s = s} {t = t} x f y g = elim (cases_lt p q) [
  | inl less ↦ let is : q ≡ p + (q - p) = omega arith in up (q - p) is
  | inr more ↦ let is : p ≡ q + (p - q) = omega arith in down (p - q) is
]
  where
    up : (d : ℕ) → q ≡ p + d → s ≡ t
    up d is =
        placed_once d f (subst (λ j. IsPlaced (n * 10 ^ d) j t) is
        (subst (λ i. IsPlaced i q t) (scaled_up d is x y) g))

    down : (d : ℕ) → p ≡ q + d → s ≡ t
    down d is =
        sym (placed_once d g (subst (λ j. IsPlaced (k * 10 ^ d) j s) is
        (subst (λ i. IsPlaced i p s) (scaled_up d is y x) f)))

pub float_text_once : {b s t : List ℕ} → IsFloatText b s → IsFloatText b t → s ≡ t
float_text_once (is_zero e) (is_zero f) = refl
float_text_once {b = b} (is_finite {rest = r} e x f) (is_finite {rest = q} h y g) =
    ap (λ (l : List ℕ). minus b ++ l) (finite_once x f y g)
float_text_once (is_infinite e) (is_infinite f) = refl
float_text_once {b = b} (is_zero e) (is_finite f y g) =
    let never : ⊥ = omega (arith, sym e ∙ f) in absurd never
float_text_once (is_zero e) (is_infinite f) = let never : ⊥ = omega (arith, sym e ∙ f) in absurd never
float_text_once (is_finite e x f) (is_zero g) = let never : ⊥ = omega (arith, sym e ∙ g) in absurd never
float_text_once (is_finite e x f) (is_infinite g) = let never : ⊥ = omega (arith, sym e ∙ g) in absurd never
float_text_once (is_infinite e) (is_zero f) = let never : ⊥ = omega (arith, sym e ∙ f) in absurd never
float_text_once (is_infinite e) (is_finite f y g) = let never : ⊥ = omega (arith, sym e ∙ f) in absurd never
