-- What the code's conversions give: of unsigned numbers to signed ones and to patterns, and back.
use Rattle.std.proofs.Common.{◌≡◌, ◌≢◌, ℕ, ℤ, pos, negsuc, ◌+◌, ◌*◌, ◌/◌, ◌%◌, ◌^◌, ◌<◌, ◌+ℤ◌, ◌≤ℤ◌, ◌<ℤ◌, List, w64}
use Rattle.std.proofs.Common.{arith, inl, inr, refl, sym, ◌∙◌, subst}
use Rattle.std.specs.Int.{to_le_bytes, to_be_bytes, swap_bytes}
use Rattle.std.proofs.lemmas.Bool.{cases_lt}
use Rattle.std.proofs.lemmas.Int.{ints}
use Rattle.std.proofs.lemmas.Nat.{mod_below, from_be_bytes-to_be_bytes_8}
use Rattle.gob_num.specs.Unsigned.{AreBytes, big_endian, IsUnsigned}
use Rattle.gob_num.specs.Signed.{IsSigned, not_negative, negative}
use Rattle.gob_num.specs.Pattern.{IsPattern}
use Rattle.gob_num.proofs.DigitLaws.{from_be_bytes-big_endian}
use Rattle.gob_num.proofs.PatternLaws.{reverse-bytes}
use Rattle.gob_num.proofs.UnsignedLaws.{unsigned_fits}

-- ---- signed numbers
pub even_signed : (u : ℕ) (i : ℤ) → u % 2 ≡ 0 → i ≡ pos (u / 2) → (bytes : List ℕ) → IsUnsigned u bytes
    → IsSigned i bytes
even_signed u i even e bytes s =
    let h : u ≡ 2 * (u / 2) = omega arith in
    rw e (not_negative (subst (λ k. IsUnsigned k bytes) h s))

pub odd_signed : (u : ℕ) (i : ℤ) → u % 2 ≢ 0 → i ≡ negsuc (u / 2) → (bytes : List ℕ) → IsUnsigned u bytes
    → IsSigned i bytes
odd_signed u i odd e bytes s =
    let h : u ≡ 2 * (u / 2) + 1 = omega arith in
    rw e (negative (subst (λ k. IsUnsigned k bytes) h s))

pub twice_signed : (i : ℤ) (u : ℕ) → pos 0 ≤ℤ i → pos u ≡ i +ℤ i → (bytes : List ℕ) → IsUnsigned u bytes
    → IsSigned i bytes
twice_signed (pos n) u l e bytes s = let h : u ≡ 2 * n = omega (arith, ints) in not_negative
    (subst (λ k. IsUnsigned k bytes) h s)
twice_signed (negsuc n) u l e bytes s = absurd (omega (arith, ints))

pub below_signed : (i : ℤ) (u : ℕ) → i <ℤ pos 0 → (pos u +ℤ pos 1) +ℤ (i +ℤ i) ≡ pos 0 → (bytes : List ℕ)
    → IsUnsigned u bytes → IsSigned i bytes
below_signed (pos n) u l e bytes s = absurd (omega (arith, ints))
below_signed (negsuc n) u l e bytes s = let h : u ≡ 2 * n + 1 = omega (arith, ints) in negative
    (subst (λ k. IsUnsigned k bytes) h s)

-- ---- patterns
low_bytes : (n : ℕ) → AreBytes (to_le_bytes w64 n)
low_bytes n = (
  mod_below n 256 (omega arith),
  (
    mod_below (n / 256) 256 (omega arith),
    (
      mod_below (n / 65536) 256 (omega arith),
      (
        mod_below (n / 16777216) 256 (omega arith),
        (
          mod_below (n / 4294967296) 256 (omega arith),
          (
            mod_below (n / 1099511627776) 256 (omega arith),
            (
              mod_below (n / 281474976710656) 256 (omega arith),
              (mod_below (n / 72057594037927936) 256 (omega arith), tt),
            ),
          ),
        ),
      ),
    ),
  ),
)

high_bytes : (n : ℕ) → AreBytes (to_be_bytes w64 n)
high_bytes n = reverse-bytes (to_le_bytes w64 n) (low_bytes n)

big_endian-le : (n : ℕ) → swap_bytes w64 n ≡ big_endian (to_le_bytes w64 n)
big_endian-le n = from_be_bytes-big_endian (to_le_bytes w64 n) refl

big_endian-be : (n : ℕ) → n < 2 ^ 64 → n ≡ big_endian (to_be_bytes w64 n)
big_endian-be n l = sym (from_be_bytes-to_be_bytes_8 n l) ∙ from_be_bytes-big_endian (to_be_bytes w64 n) refl

-- what spells a number spells the pattern with its bytes swapped
pub spells_swapped : (u p : ℕ) → u < 2 ^ 64 → p ≡ swap_bytes w64 u → (bytes : List ℕ) → IsUnsigned u bytes
    → IsPattern p bytes
spells_swapped u p l e bytes s = record {
  digits = to_le_bytes w64 u;
  eight = record { eight = refl; bytes = low_bytes u; value = sym (e ∙ big_endian-le u) };
  spelled = subst (λ n. IsUnsigned n bytes) (big_endian-be u l) s;
}

-- what spells a pattern's bytes swapped spells the pattern
pub swapped_spells : (p u : ℕ) → p < 2 ^ 64 → u ≡ swap_bytes w64 p → (bytes : List ℕ) → IsUnsigned u bytes
    → IsPattern p bytes
swapped_spells p u l e bytes s = record {
  digits = to_be_bytes w64 p;
  eight = record { eight = refl; bytes = high_bytes p; value = sym (big_endian-be p l) };
  spelled = subst (λ n. IsUnsigned n bytes) (e ∙ big_endian-le p) s;
}

-- each spelling of a number is that of a signed number, and of a pattern
pub unsigned_signed : {u : ℕ} {bytes : List ℕ} → IsUnsigned u bytes → (i : ℤ) × IsSigned i bytes
unsigned_signed {u = u} {bytes = bytes} s =
    elim (cases_lt (u % 2) 1) [
      | inl k ↦
          let h : u ≡ 2 * (u / 2) = omega arith in
          (pos (u / 2), not_negative (subst (λ n. IsUnsigned n bytes) h s))
      | inr k ↦
          let h : u ≡ 2 * (u / 2) + 1 = omega arith in
          (negsuc (u / 2), negative (subst (λ n. IsUnsigned n bytes) h s))
    ]

pub unsigned_pattern : {u : ℕ} {bytes : List ℕ} → IsUnsigned u bytes → (p : ℕ) × IsPattern p bytes
unsigned_pattern {u = u} {bytes = bytes} s =
    (swap_bytes w64 u, spells_swapped u (swap_bytes w64 u) (unsigned_fits s) refl bytes s)
