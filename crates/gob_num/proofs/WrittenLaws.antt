-- What the writers append.
use Rattle.std.proofs.Common.{◌≡◌, ℕ, zero, suc, ◌+◌, ◌-◌, ◌*◌, ◌/◌, ◌%◌, ◌^◌, ◌<◌, ◌≤◌, List, [], ◌∷◌, ◌++◌, length}
use Rattle.std.proofs.Common.{take, drop, arith, sym, ap, ◌∙◌, append_assoc}
use Rattle.std.proofs.Math.Nat.{add-zero, div-div-eq-div-mul, pow-le-pow_right, pow-succ'}
use Rattle.std.proofs.lemmas.Nat.{leading_length}
use Rattle.std.specs.Int.Count.{count_leading_zeros}
use Rattle.std.proofs.Math.Seq.{drop-append_seam, take-append_seam, take-length}
use Rattle.std.proofs.lemmas.List.{append-nil}
use Rattle.gob_num.specs.Unsigned.{IsUnsigned}
use Rattle.gob_num.specs.Machine.Counters.{digits}
use Rattle.gob_num.proofs.DigitLaws.{length-digits, bits_of_digits}
use Rattle.gob_num.proofs.UnsignedLaws.{counted_digits}

-- the low digits stand behind the others
digits-add : (j k n : ℕ) → (prefix : List ℕ) × (length prefix ≡ j) × (digits (j + k) n ≡ prefix ++ digits k n)
unfolding digits
digits-add j zero n = (digits j n, length-digits j n, rw add-zero (sym (append-nil (digits j n))))
digits-add j (suc k) n =
    let r = digits-add j k (n / 256) in
    let e : j + suc k ≡ suc (j + k) = omega arith in
    (r.0, r.1, rw (e, r.2) (append_assoc r.0 (digits k (n / 256)) ((n % 256) ∷ [])))

pub digits_8 : (n : ℕ)
    → digits 8 n ≡ n / 72057594037927936 % 256 ∷ n / 281474976710656 % 256 ∷ n / 1099511627776 % 256 ∷ n / 4294967296 %
    256 ∷ n / 16777216 % 256 ∷ n / 65536 % 256 ∷ n / 256 % 256 ∷ n % 256 ∷ []
unfolding digits
digits_8 n = simp div-div-eq-div-mul

-- the last of the eight bytes
pub last_digits : (count n : ℕ) (bytes : List ℕ) → count ≤ 8 → bytes ≡ digits 8 n
    → take (8 - (8 - count)) (drop (8 - count) bytes) ≡ digits count n
last_digits count n bytes l e =
    let r = digits-add (8 - count) count n in
    let s : (8 - count) + count ≡ 8 = omega arith in
    let t : 8 - (8 - count) ≡ count = omega arith in
    let whole : bytes ≡ r.0 ++ digits count n = e ∙ ap (λ k. digits k n) (sym s) ∙ r.2 in
    let behind : drop (8 - count) bytes ≡ digits count n = after_prefix r.0 (digits count n) (8 - count) bytes r.1 whole
    in
    rw (t, behind) (take_whole count (digits count n) (length-digits count n))
  where
    after_prefix : (prefix xs : List ℕ) (k : ℕ) (bytes : List ℕ) → length prefix ≡ k → bytes ≡ prefix ++ xs
        → drop k bytes ≡ xs
    after_prefix prefix xs k bytes e w = rw (w, ← e) (drop-append_seam prefix xs)

    take_whole : (k : ℕ) (xs : List ℕ) → length xs ≡ k → take k xs ≡ xs
    take_whole k xs e = rw (← e) (take-length xs)

-- the bytes that a writer appends
pub written : (count n : ℕ) (copied rest : List ℕ) → 128 ≤ n → (0 < count) × (count ≤ 8) → n < 256 ^ count
    → 256 ^ (count - 1) ≤ n → copied ≡ digits count n
    → IsUnsigned n (take (count + 1) ((256 - count) ∷ (copied ++ rest)))
written zero n copied rest large range high low e = absurd (omega arith)
written (suc k) n copied rest large range high low e =
    let l : length copied ≡ suc k = ap length e ∙ length-digits (suc k) n in
    let t : take (suc k) (copied ++ rest) ≡ digits (suc k) n = rw (← l) (take-append_seam copied rest) ∙ e in
    let s : suc k + 1 ≡ suc (suc k) = omega arith in
    let h : 256 - suc k ≡ 255 - k = omega arith in
    let z : suc k - 1 ≡ k = omega arith in
    rw (s, t, h) (counted_digits k n (omega arith) large high (rw z at low))

-- ---- how many digits hold a number, by the zero bits above it
pub enough_digits : (n : ℕ) → n < 2 ^ 64 → n < 256 ^ (8 - count_leading_zeros 64 n / 8)
enough_digits n fits =
    let l = leading_length 64 n fits in
    let room : 2 ^ l.0 ≤ 2 ^ (8 * (8 - count_leading_zeros 64 n / 8)) = pow-le-pow_right (omega arith)
    (let s = l.1 in omega arith) in
    rw (bits_of_digits (8 - count_leading_zeros 64 n / 8)) (let b = l.2 in omega arith)

pub least_digits : (n : ℕ) → n < 2 ^ 64 → 0 < n → 256 ^ (8 - count_leading_zeros 64 n / 8 - 1) ≤ n
least_digits n fits some =
    let l = leading_length 64 n fits in
    least l.0 (8 - count_leading_zeros 64 n / 8 - 1) l.2 l.3 (let s = l.1 in let p = positive l.0 l.2 in omega arith)
  where
    positive : (m : ℕ) → n < 2 ^ m → 0 < m
    positive zero h = absurd (omega arith)
    positive (suc m) h = omega arith

    least : (m k : ℕ) → n < 2 ^ m → 2 ^ m ≤ 2 * n + 1 → 8 * k < m → 256 ^ k ≤ n
    least m k h g l =
        let room : 2 ^ suc (8 * k) ≤ 2 ^ m = pow-le-pow_right (omega arith) (omega arith) in
        let twice : 2 ^ suc (8 * k) ≡ 2 * 2 ^ (8 * k) = pow-succ' 2 (8 * k) in
        rw (bits_of_digits k) (omega arith)
