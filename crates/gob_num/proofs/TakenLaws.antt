-- What is taken from the front of a piece.
use Rattle.std.proofs.Common.{◌≡◌, ℕ, zero, suc, ◌+◌, ◌-◌, ◌*◌, ◌/◌, ◌^◌, ◌<◌, ◌≤◌, inl, inr, List, [], ◌∷◌, ◌++◌}
use Rattle.std.proofs.Common.{length, get_or, take, drop, w64, arith, sym, ap, ◌∙◌, subst, length-append}
use Rattle.std.specs.Int.{from_be_bytes}
use Rattle.std.proofs.lemmas.Bool.{cases_lt}
use Rattle.std.proofs.lemmas.List.{take-append-le, take-append-drop, length-take-le}
use Rattle.gob_num.specs.Unsigned.{big_endian, AreBytes, IsUnsigned, short, IsUnsignedPrefix, BeginsNumber}
use Rattle.gob_num.specs.Unsigned.{IsNotMinimal}
use Rattle.gob_num.specs.Taken.{TakesUnsigned}
use Rattle.gob_num.specs.declared.unsigned.Taken.{Taken}
use Rattle.gob_num.specs.declared.unsigned.Taken.TheVariants.{Whole, More, BadHead, NotMinimal}
use Rattle.gob_num.proofs.DigitLaws.{bytes_prefix, bytes_each, big_endian-take, from_be_bytes-big_endian}
use Rattle.gob_num.proofs.DigitLaws.{bits_of_digits}
use Rattle.gob_num.proofs.DigitLaws.{two_digits}
use Rattle.gob_num.proofs.PrefixLaws.{counted, begins_prefix, prefix_begins}

pub empty_taken : (piece : List ℕ) → length piece ≡ 0 → IsUnsignedPrefix piece
empty_taken [] e = begins_prefix tt
empty_taken (b ∷ piece) e = absurd (omega arith)

pub short_taken : (piece rest : List ℕ) (h n : ℕ) → piece ≡ h ∷ rest → h < 128 → n ≡ h → TakesUnsigned piece (Whole n 1)
short_taken piece rest h n e l s = rw (e, s) (omega arith, short l)

-- ---- all of the digits are there
pub digits_spell : (h d k : ℕ) (ds : List ℕ) → 248 ≤ h → h + suc k ≡ 256 → k ≤ length ds → AreBytes (d ∷ ds)
    → ¬ IsNotMinimal (h ∷ d ∷ []) → IsUnsigned (big_endian (d ∷ take k ds)) (h ∷ d ∷ take k ds)
digits_spell h d k ds low e l b p =
    let size : length (take k ds) ≡ k = length-take-le k ds l in
    let bytes : AreBytes (take k ds) = bytes_prefix (take k ds) (drop k ds)
    (subst AreBytes (sym (take-append-drop k ds)) b.1) in
    elim (cases_lt 0 d) [
      | inr z ↦ absurd (elim (cases_lt h 255) [
        | inl j ↦ p (inr (low, j, omega arith))
        | inr j ↦ p
            (inl (omega arith, omega arith))
      ])
      | inl z ↦ elim (cases_lt 0 k) [
        | inl s ↦ counted h d (take k ds) low (omega arith) z (b.0, bytes) (two_digits d (take k ds) z (omega arith))
        | inr s ↦ elim (cases_lt d 128) [
          | inl j ↦ absurd (p (inl (omega arith, j)))
          | inr j ↦ counted h d (take k ds) low (omega arith) z (b.0, bytes) (large d (take k ds) j (omega arith))
        ]
      ]
    ]
  where
    large : (d : ℕ) (ds : List ℕ) → 128 ≤ d → length ds ≡ 0 → 128 ≤ big_endian (d ∷ ds)
    large d [] j e = omega arith
    large d (x ∷ ds) j e = absurd (omega arith)

pub digits_taken : (h count c u n : ℕ) (ds : List ℕ) → length ds ≡ 8 → ((i : ℕ) → get_or ds i 0 < 256) → 248 ≤ h
    → h < 256 → h + count ≡ 256 → c ≡ count → u ≡ count → ¬ IsNotMinimal (h ∷ ds)
    → n ≡ from_be_bytes w64 ds → TakesUnsigned (h ∷ ds) (Whole (n / 2 ^ (64 - 8 * c)) (u + 1))
digits_taken h count c u n [] l b low high t e f p v = absurd (omega arith)
digits_taken h count zero u n (d ∷ ds) l b low high t e f p v = absurd (omega arith)
digits_taken h count (suc k) u n (d ∷ ds) l b low high t e f p v =
    let bytes : AreBytes (d ∷ ds) = bytes_each (d ∷ ds) b in
    let room : 8 * (8 - suc k) ≡ 64 - 8 * suc k = omega arith in
    let power : 2 ^ (64 - 8 * suc k) ≡ 256 ^ (length (d ∷ ds) - suc k) = ap (λ j. 2 ^ j) (sym room)
    ∙ sym (bits_of_digits (8 - suc k)) ∙ ap (λ j. 256 ^ (j - suc k)) (sym l) in
    let value : n / 2 ^ (64 - 8 * suc k) ≡ big_endian (d ∷ take k ds) =
    ap (λ j. n / j) power ∙ ap (λ j. j / 256 ^ (length (d ∷ ds) - suc k)) (v ∙ from_be_bytes-big_endian (d ∷ ds) l)
    ∙ big_endian-take (suc k) (d ∷ ds) bytes in
    let size : u + 1 ≡ suc (suc k) = omega arith in (
      omega arith,
      rw (value, size) (digits_spell h d k ds low (omega arith) (omega arith) bytes p),
    )

-- whether fewer would do is shown by the first of them
pub not_padded : (h count : ℕ) (ds : List ℕ) → 0 < length ds → h + count ≡ 256
    → ¬ IsNotMinimal ((256 - count) ∷ get_or ds 0 0 ∷ []) → ¬ IsNotMinimal (h ∷ ds)
not_padded h count [] l e p = absurd (omega arith)
not_padded h count (d ∷ ds) l e p =
    let head : 256 - count ≡ h = omega arith in
    subst (λ g. ¬ IsNotMinimal (g ∷ d ∷ [])) head p

-- nine bytes show what any more of them would
pub taken_before : (a b : List ℕ) (t : Taken) → 9 ≤ length a → TakesUnsigned a t → TakesUnsigned (a ++ b) t
taken_before a b (Whole n used) l s = (omega (arith, length-append a b), rw (take-append-le used a b s.0) s.1)
taken_before a b More l s = absurd (too_long a l (prefix_begins s))
  where
    too_long : (a : List ℕ) → 9 ≤ length a → BeginsNumber a → ⊥
    too_long [] l s = omega arith
    too_long (h ∷ []) l s = omega arith
    too_long (h ∷ d ∷ ds) l s = omega arith
taken_before [] b BadHead l s = absurd s
taken_before (h ∷ a) b BadHead l s = s
taken_before [] b NotMinimal l s = absurd s
taken_before (h ∷ []) b NotMinimal l s = absurd s
taken_before (h ∷ d ∷ a) b NotMinimal l s = s

pub chunk_taken : (piece rest eight : List ℕ) (h : ℕ) (t : Taken) → piece ≡ h ∷ rest → 8 ≤ length rest
    → eight ≡ take 8 rest → TakesUnsigned (h ∷ eight) t → TakesUnsigned piece t
chunk_taken piece rest eight h t e l s p =
    let size : length (take 8 rest) ≡ 8 = length-take-le 8 rest l in
    let q : TakesUnsigned (h ∷ take 8 rest ++ drop 8 rest) t = taken_before (h ∷ take 8 rest) (drop 8 rest) t
    (omega arith)
    (subst (λ ds. TakesUnsigned (h ∷ ds) t) s p) in
    subst (λ ds. TakesUnsigned ds t) (sym (e ∙ ap (λ ds. h ∷ ds) (sym (take-append-drop 8 rest)))) q
