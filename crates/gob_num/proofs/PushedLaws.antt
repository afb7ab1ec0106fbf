-- One more byte of a number under way.
use Rattle.std.proofs.Common.{◌≡◌, ◌≢◌, ℕ, zero, suc, ◌+◌, ◌-◌, ◌*◌, ◌^◌, ◌<◌, ◌≤◌, inl, inr, List, [], ◌∷◌, ◌++◌}
use Rattle.std.proofs.Common.{length, arith, refl, sym, ap, ◌∙◌, subst, length-append}
use Rattle.std.proofs.Math.Nat.{pow-succ'}
use Rattle.std.proofs.lemmas.Bool.{cases_lt}
use Rattle.std.proofs.lemmas.Nat.{mul-add-lt}
use Rattle.gob_num.specs.Unsigned.{big_endian, IsUnsigned, IsUnsignedPrefix, BeginsNumber, IsNotMinimal}
use Rattle.gob_num.specs.Machine.Counters.{digits, pushed, AreCounters}
use Rattle.gob_num.proofs.DigitLaws.{pow256_mono, bytes-append, big_endian-snoc, two_digits, length-digits}
use Rattle.gob_num.proofs.DigitLaws.{big_endian-digits, digits-step, no_digits}
use Rattle.gob_num.proofs.PrefixLaws.{counted, begins_prefix}

-- one digit more, and some are still to come
grows : (h : ℕ) (ds : List ℕ) (b : ℕ) → BeginsNumber (h ∷ ds) → b < 256 → (ds ≡ [] → 0 < b) → h + length ds + 1 < 256
    → BeginsNumber (h ∷ ds ++ b ∷ [])
grows h [] b f l n e = (f.0, omega arith, n refl, (l, tt))
grows h (d ∷ ds) b f l n e =
    (f.0, omega (arith, length-append ds (b ∷ [])), f.2, (f.3.0, bytes-append ds (b ∷ []) f.3.1 (l, tt)))

-- the last digit
ends : (h : ℕ) (ds : List ℕ) (b : ℕ) → BeginsNumber (h ∷ ds) → b < 256 → (ds ≡ [] → 128 ≤ b) → h + length ds + 1 ≡ 256
    → IsUnsigned (big_endian ds * 256 + b) (h ∷ ds ++ b ∷ [])
ends h [] b f l n e =
    let m = n refl in
    let same : big_endian (b ∷ []) ≡ 0 * 256 + b = omega arith in
    subst (λ k. IsUnsigned k (h ∷ b ∷ [])) same (counted h b [] f.0 (omega arith) (omega arith) (l, tt) (omega arith))
ends h (d ∷ ds) b f l n e =
    let total = length-append ds (b ∷ []) in
    let c = counted h d (ds ++ b ∷ []) f.0 (omega arith) f.2 (f.3.0, bytes-append ds (b ∷ []) f.3.1 (l, tt))
    (two_digits d (ds ++ b ∷ []) f.2 (omega arith)) in
    subst (λ k. IsUnsigned k (h ∷ d ∷ (ds ++ b ∷ []))) (big_endian-snoc (d ∷ ds) b) c

-- where this is the first digit, it shows no padding
abbrev pub NotPadded : ℕ → ℕ → ℕ → Type 0
NotPadded count left b = left ≡ count → ¬ IsNotMinimal ((256 - count) ∷ b ∷ [])

module _ (c left value b : ℕ) (a : AreCounters (suc c) left value) (byte : b < 256) (first : NotPadded (suc c) left b)
  where
    some_digit : digits (suc c - left) value ≡ [] → left ≡ suc c
    some_digit e = let l = length-digits (suc c - left) value in let z : length (digits (suc c - left) value) ≡ 0 = ap
        length e in let le = a.left_le in omega arith

    not_zero : digits (suc c - left) value ≡ [] → 1 < left → 0 < b
    not_zero e l =
        elim (cases_lt 0 b) [
          | inl p ↦ p
          | inr p ↦ absurd (let q = some_digit e in first q
              (inr (let f = a.few in (omega arith, omega arith, omega arith))))
        ]

    not_low : digits (suc c - left) value ≡ [] → left ≡ 1 → 128 ≤ b
    not_low e l =
        elim (cases_lt b 128) [
          | inr p ↦ p
          | inl p ↦ absurd (let q = some_digit e in first q (inl (omega arith, p)))
        ]

    pub more_prefix : 1 < left → BeginsNumber (pushed (suc c) left value ++ b ∷ [])
    more_prefix l =
        let n = length-digits (suc c - left) value in
        let f = a.few in
        let le = a.left_le in
        grows (255 - c) (digits (suc c - left) value) b a.prefix byte (λ e. not_zero e l) (omega arith)

    pub done_spells : left ≡ 1 → IsUnsigned (value * 256 + b) (pushed (suc c) left value ++ b ∷ [])
    done_spells l =
        let n = length-digits (suc c - left) value in
        let f = a.few in
        let v : big_endian (digits (suc c - left) value) ≡ value = big_endian-digits (suc c - left) value a.fits in
        subst (λ k. IsUnsigned (k * 256 + b) (pushed (suc c) left value ++ b ∷ [])) v
        (ends (255 - c) (digits (suc c - left) value) b a.prefix byte (λ e. not_low e l) (omega arith))

    pub more_pushed : 1 < left → pushed (suc c) (left - 1) (value * 256 + b) ≡ pushed (suc c) left value ++ b ∷ []
    more_pushed l =
        let le = a.left_le in
        let e : suc c - (left - 1) ≡ suc (suc c - left) = omega arith in
        ap (λ k. (255 - c) ∷ digits k (value * 256 + b)) e
        ∙ ap (λ ds. (255 - c) ∷ ds) (digits-step (suc c - left) value b byte)

    pub more_counters : 1 < left → AreCounters (suc c) (left - 1) (value * 256 + b)
    more_counters l =
        let le = a.left_le in
        let e : suc c - (left - 1) ≡ suc (suc c - left) = omega arith in
        record {
          few = a.few;
          left_le = omega arith;
          some_left = λ _. omega arith;
          fits = rw (e, pow-succ' 256 (suc c - left)) (mul-add-lt value 256 b (256 ^ (suc c - left)) a.fits byte);
          prefix = subst BeginsNumber (sym (more_pushed l)) (more_prefix l);
        }

    pub fits_more : 0 < left → value * 256 + b < 2 ^ 64
    fits_more l =
        let f = a.few in
        let v = a.fits in
        omega (arith, pow256_mono (suc c - left) 7 (omega arith))

-- what a digit that shows no padding leaves
pub record AfterDigit (count left value b r : ℕ) (bytes : List ℕ) : Type 0 where
  pub fits : value * 256 + r < 2 ^ 64
  pub done : left ≡ 1 → IsUnsigned (value * 256 + r) (bytes ++ b ∷ [])
  pub prefix : left ≢ 1 → IsUnsignedPrefix (bytes ++ b ∷ [])
  pub counters : left ≢ 1 → AreCounters count (left - 1) (value * 256 + r)
  pub next : left ≢ 1 → pushed count (left - 1) (value * 256 + r) ≡ bytes ++ b ∷ []

pub after_digit : (count left value b r : ℕ) (bytes : List ℕ) → AreCounters count left value
    → pushed count left value ≡ bytes → (count ≡ 0 → ⊥) → b < 256 → r ≡ b → NotPadded count left b
    → AfterDigit count left value b r bytes
after_digit zero left value b r bytes a v z l e p = absurd (z refl)
after_digit (suc c) left value b r bytes a v z l e p =
    let some : 0 < left = a.some_left (omega arith) in
    let same : value * 256 + b ≡ value * 256 + r = ap (λ k. value * 256 + k) (sym e) in
    record {
      fits = subst (λ k. k < 2 ^ 64) same (fits_more c left value b a l p some);
      done = λ o. subst (λ k. IsUnsigned k (bytes ++ b ∷ [])) same
          (subst (λ bs. IsUnsigned (value * 256 + b) (bs ++ b ∷ [])) v (done_spells c left value b a l p o));
      prefix = λ o. begins_prefix (subst (λ bs. BeginsNumber (bs ++ b ∷ [])) v
          (more_prefix c left value b a l p (omega arith)));
      counters = λ o. subst (λ k. AreCounters (suc c) (left - 1) k) same
          (more_counters c left value b a l p (omega arith));
      next = λ o. subst (λ k. pushed (suc c) (left - 1) k ≡ bytes ++ b ∷ []) same
          (more_pushed c left value b a l p (omega arith) ∙ ap (λ bs. bs ++ b ∷ []) v);
    }

pub padded_judged : (count left value b : ℕ) (bytes : List ℕ) → AreCounters count left value
    → pushed count left value ≡ bytes → (count ≡ 0 → ⊥) → left ≡ count → IsNotMinimal ((256 - count) ∷ b ∷ [])
    → IsNotMinimal (bytes ++ b ∷ [])
padded_judged zero left value b bytes a v z e n = absurd (z refl)
padded_judged (suc c) left value b bytes a v z e n =
    let none : digits (suc c - left) value ≡ [] = no_digits (suc c - left) value (omega arith) in
    let head : 256 - suc c ≡ 255 - c = omega arith in
    let same : bytes ≡ (255 - c) ∷ [] = sym v ∙ ap (λ ds. (255 - c) ∷ ds) none in
    subst (λ bs. IsNotMinimal (bs ++ b ∷ [])) (sym same) (subst (λ h. IsNotMinimal (h ∷ b ∷ [])) head n)

-- the counters after a head
pub begun : (b count : ℕ) → 248 ≤ b → b < 256 → b + count ≡ 256 → AreCounters count count 0
    × (pushed count count 0 ≡ b ∷ [])
begun b zero l h e = absurd (omega arith)
begun b (suc c) l h e =
    let z : suc c - suc c ≡ 0 = omega arith in
    let n : 255 - c ≡ b = omega arith in
    let d = no_digits (suc c - suc c) 0 z in
    let same : pushed (suc c) (suc c) 0 ≡ b ∷ [] = cc in (
      record {
        few = omega arith;
        left_le = omega arith;
        some_left = λ _. omega arith;
        fits = rw z (omega arith);
        prefix = subst BeginsNumber (sym same) (l, h);
      },
      same,
    )
