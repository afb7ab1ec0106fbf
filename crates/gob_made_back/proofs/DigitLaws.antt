-- A number has one text of digits without zeros in front.
use Rattle.std.proofs.Common.{◌≡◌, ◌∙◌, ◌+◌, ◌*◌, ◌^◌, ◌<◌, ◌≤◌, ℕ, zero, suc, List, [], ◌∷◌, ap, arith, length, refl}
use Rattle.std.proofs.Common.{sym}
use Rattle.std.proofs.Common.{inl, inr, pow-suc, mul_comm, mul_assoc, add-mul, mul-le-mul_right, one-mul}
use Rattle.std.specs.Char.{digit_value}
use Rattle.std.specs.Str.Parse.{AllDigits, digits_value, digits_value_after}
use Rattle.std.proofs.lemmas.Bool.{cases_lt, cases_order}
use Rattle.std.proofs.lemmas.Int.Digits.{digits_value-lt}
use Rattle.std.proofs.lemmas.Str.{digit_value_digit}
use Rattle.std.proofs.lemmas.Str.Parse.{digit_from_value}
use Rattle.gob_plain.specs.BigInt.{IsDecimalOf}

digit_once : (c d : ℕ) → digit_value c < 10 → digit_value d < 10 → digit_value c ≡ digit_value d → c ≡ d
digit_once c d p q e =
    sym (digit_value_digit c (digit_from_value c p)) ∙ ap (λ n. n + 48) e
    ∙ digit_value_digit d (digit_from_value d q)

-- so many digits behind a number
pub as_many_once : (m n : ℕ) (ds es : List ℕ) → length ds ≡ length es → AllDigits 10 ds → AllDigits 10 es
    → digits_value_after 10 m ds ≡ digits_value_after 10 n es → (m ≡ n) × (ds ≡ es)
as_many_once m n [] [] l p q e = (e, refl)
as_many_once m n [] (c ∷ es) l p q e = let never : ⊥ = omega (arith, l) in absurd never
as_many_once m n (d ∷ ds) [] l p q e = let never : ⊥ = omega (arith, l) in absurd never
as_many_once m n (d ∷ ds) (c ∷ es) l p q e =
    let r = as_many_once (m * 10 + digit_value d) (n * 10 + digit_value c) ds es (omega (arith, l)) p.1 q.1 e in
    let small : digit_value d < 10 = p.0 in
    let less : digit_value c < 10 = q.0 in
    let same : m * 10 + digit_value d ≡ n * 10 + digit_value c = r.0 in
    let front : m ≡ n = omega arith in
    let digit : digit_value d ≡ digit_value c = omega arith in
    (front, ap (λ (x : ℕ). x ∷ ds) (digit_once d c small less digit) ∙ ap (λ (l : List ℕ). c ∷ l) r.1)

pub grows : (n : ℕ) (ds : List ℕ) → n * 10 ^ length ds ≤ digits_value_after 10 n ds
grows n [] = omega arith
grows n (d ∷ ds) =
    let next = grows (n * 10 + digit_value d) ds in
    let more = add-mul (n * 10) (digit_value d) (10 ^ length ds) in
    let power : 10 ^ length (d ∷ ds) ≡ 10 ^ length ds * 10 = pow-suc 10 (length ds) in
    let whole : n * 10 ^ length (d ∷ ds) ≡ n * 10 * 10 ^ length ds =
    ap (λ p. n * p) (power ∙ mul_comm (10 ^ length ds) 10) ∙ sym (mul_assoc n 10 (10 ^ length ds)) in
    omega arith

pub power_grows : (i j : ℕ) → i ≤ j → 10 ^ i ≤ 10 ^ j
power_grows i zero l = omega (arith, ap (λ k. 10 ^ k) (let z : i ≡ 0 = omega arith in z))
power_grows i (suc j) l =
    elim (cases_lt i (suc j)) [
      | inl less ↦ omega (arith, power_grows i j (omega arith), pow-suc 10 j)
      | inr more ↦ omega (arith, ap (λ k. 10 ^ k) (let z : i ≡ suc j = omega arith in z))
    ]

-- no text of one number is longer than another
none_longer : {n : ℕ} (ds es : List ℕ) → IsDecimalOf n ds → IsDecimalOf n es → length ds < length es → ⊥
none_longer ds [] p q l = omega (arith, l)
none_longer ds (c ∷ es) p q l =
    let below = digits_value-lt 10 ds p.numeral.1 in
    let some : 0 < length ds = p.numeral.0 in
    let digit = digit_value_digit c (digit_from_value c q.numeral.1.0) in
    let first : c ≡ 48 → ⊥ = λ e. let one = q.shortest e in omega (arith, one, l, some) in
    let least : 1 ≤ 0 * 10 + digit_value c = omega (arith, digit, first) in
    let power = power_grows (length ds) (length es) (omega (arith, l)) in
    let above = grows (0 * 10 + digit_value c) es in
    let more = mul-le-mul_right (10 ^ length es) least in
    let is : digits_value_after 10 (0 * 10 + digit_value c) es ≡ digits_value 10 ds = q.value ∙ sym p.value in
    omega (arith, below, power, above, more, is, one-mul (10 ^ length es))

pub decimal_once : {n : ℕ} (ds es : List ℕ) → IsDecimalOf n ds → IsDecimalOf n es → ds ≡ es
decimal_once ds es p q =
    elim (cases_order (length ds) (length es)) [
      | inl same ↦ (as_many_once 0 0 ds es same p.numeral.1 q.numeral.1 (p.value ∙ sym q.value)).1
      | inr (inl less) ↦ absurd (none_longer ds es p q less)
      | inr (inr more) ↦ absurd (none_longer es ds q p more)
    ]
