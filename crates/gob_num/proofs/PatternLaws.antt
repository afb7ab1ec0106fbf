-- The laws of unsigned numbers, for the patterns of floats.
use Rattle.std.proofs.Common.{◌≡◌, ℕ, ◌^◌, ◌<◌, List, [], ◌∷◌, ◌++◌, length, reverse, arith, refl, sym, ap, ◌∙◌, subst}
use Rattle.std.proofs.lemmas.List.{length-reverse, reverse-reverse, reverse-append}
use Rattle.gob_num.specs.Unsigned.{AreBytes, big_endian, IsUnsigned}
use Rattle.gob_num.specs.Pattern.{AreEightBytes, IsPattern}
use Rattle.gob_num.specs.Spelled.{IsSpelled, Same}
use Rattle.gob_num.proofs.DigitLaws.{bytes-append, big_endian_below, digits_injective, length-digits, digits-bytes}
use Rattle.gob_num.proofs.DigitLaws.{big_endian-digits}
use Rattle.gob_num.specs.Machine.Counters.{digits}
use Rattle.gob_num.proofs.UnsignedLaws.{unsigned_prefix, unsigned_unique, unsigned_spelled}

pub reverse-bytes : (bytes : List ℕ) → AreBytes bytes → AreBytes (reverse bytes)
reverse-bytes [] p = tt
reverse-bytes (b ∷ bytes) p = subst AreBytes (sym (reverse-append (b ∷ []) bytes))
    (bytes-append (reverse bytes) (b ∷ []) (reverse-bytes bytes p.1) (p.0, tt))

-- a pattern has one list of bytes
same_digits : {p : ℕ} (a b : List ℕ) → AreEightBytes p a → AreEightBytes p b → a ≡ b
same_digits a b p q = digits_injective a b p.bytes q.bytes (p.eight ∙ sym q.eight) (p.value ∙ sym q.value)

-- and what is spelled tells them
from_reversed : {p q : ℕ} (a b : List ℕ) → AreEightBytes p a → AreEightBytes q b
    → big_endian (reverse a) ≡ big_endian (reverse b) → p ≡ q
from_reversed a b p q e =
    let l : length (reverse a) ≡ length (reverse b) = length-reverse a ∙ p.eight ∙ sym q.eight
    ∙ sym (length-reverse b) in
    let r = digits_injective (reverse a) (reverse b) (reverse-bytes a p.bytes) (reverse-bytes b q.bytes) l e in
    let s : a ≡ b = sym (reverse-reverse a) ∙ ap reverse r ∙ reverse-reverse b in
    sym p.value ∙ ap big_endian s ∙ q.value

-- no spelling begins another
pub pattern_prefix : {p q : ℕ} {b c : List ℕ} (x y : List ℕ) → IsPattern p b → IsPattern q c → b ++ x ≡ c ++ y
    → Same p q b c x y
pattern_prefix x y p q e =
    let r = unsigned_prefix x y p.spelled q.spelled e in
    record { value = from_reversed p.digits q.digits p.eight q.eight r.value; bytes = r.bytes; rest = r.rest }

-- a pattern has one spelling
pub pattern_unique : {p : ℕ} {b c : List ℕ} → IsPattern p b → IsPattern p c → b ≡ c
pattern_unique {c = c} p q =
    let one = same_digits p.digits q.digits p.eight q.eight in
    unsigned_unique p.spelled (subst (λ ds. IsUnsigned (big_endian (reverse ds)) c) (sym one) q.spelled)

-- bytes spell one pattern
pub pattern_value : {p q : ℕ} {b : List ℕ} → IsPattern p b → IsPattern q b → p ≡ q
pattern_value p q = (pattern_prefix [] [] p q refl).value

-- the bytes of a pattern spell an unsigned number too
pub pattern_unsigned : {p : ℕ} {b : List ℕ} → IsPattern p b → (u : ℕ) × IsUnsigned u b
pattern_unsigned p = (big_endian (reverse p.digits), p.spelled)

below_eight : (ds : List ℕ) → AreBytes ds → length ds ≡ 8 → big_endian ds < 2 ^ 64
below_eight ds b l = let f : big_endian ds < 256 ^ 8 = subst (λ k. big_endian ds < 256 ^ k) l (big_endian_below ds b) in
    omega arith

-- a pattern has 64 bits
pub pattern_fits : {p : ℕ} {b : List ℕ} → IsPattern p b → p < 2 ^ 64
pattern_fits {p = n} p = subst (λ k. k < 2 ^ 64) p.eight.value (below_eight p.digits p.eight.bytes p.eight.eight)

-- each number of 64 bits has a spelling as a pattern
pub pattern_spelled : (p : ℕ) → p < 2 ^ 64 → IsSpelled (IsPattern p)
pattern_spelled p l =
    let ds = digits 8 p in
    let turned : big_endian (reverse (digits 8 p)) < 2 ^ 64 =
    below_eight (reverse (digits 8 p)) (reverse-bytes (digits 8 p) (digits-bytes 8 p))
    (length-reverse (digits 8 p) ∙ length-digits 8 p) in
    let s = unsigned_spelled (big_endian (reverse (digits 8 p))) turned in
    record {
      bytes = s.bytes;
      spelled = record {
        digits = digits 8 p;
        eight = record {
          eight = length-digits 8 p;
          bytes = digits-bytes 8 p;
          value = big_endian-digits 8 p
              (omega arith);
        };
        spelled = s.spelled;
      };
    }
