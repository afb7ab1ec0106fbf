-- The laws of unsigned numbers, for signed ones.
use Rattle.std.proofs.Common.{◌≡◌, ℕ, ℤ, pos, negsuc, ◌+◌, ◌*◌, List, [], ◌++◌, FitsSigned, w64, arith, refl, ap}
use Rattle.std.proofs.lemmas.Int.{ints}
use Rattle.gob_num.specs.Unsigned.{IsUnsigned}
use Rattle.gob_num.specs.Signed.{IsSigned, not_negative, negative}
use Rattle.gob_num.specs.Spelled.{IsSpelled, Same}
use Rattle.gob_num.proofs.UnsignedLaws.{unsigned_prefix, unsigned_unique, unsigned_spelled, unsigned_fits}

-- no spelling begins another
pub signed_prefix : {i j : ℤ} {b c : List ℕ} (x y : List ℕ) → IsSigned i b → IsSigned j c → b ++ x ≡ c ++ y
    → Same i j b c x y
signed_prefix x y (not_negative {n = m} p) (not_negative {n = n} q) e =
    let r = unsigned_prefix x y p q e in
    let s : m ≡ n = let v = r.value in omega arith in record { value = ap pos s; bytes = r.bytes; rest = r.rest }
signed_prefix x y (not_negative p) (negative q) e = absurd (let v = (unsigned_prefix x y p q e).value in omega arith)
signed_prefix x y (negative p) (not_negative q) e = absurd (let v = (unsigned_prefix x y p q e).value in omega arith)
signed_prefix x y (negative {n = m} p) (negative {n = n} q) e =
    let r = unsigned_prefix x y p q e in
    let s : m ≡ n = let v = r.value in omega arith in record { value = ap negsuc s; bytes = r.bytes; rest = r.rest }

-- a number has one spelling
pub signed_unique : {i : ℤ} {b c : List ℕ} → IsSigned i b → IsSigned i c → b ≡ c
signed_unique (not_negative p) (not_negative q) = unsigned_unique p q
signed_unique (negative p) (negative q) = unsigned_unique p q

-- bytes spell one number
pub signed_value : {i j : ℤ} {b : List ℕ} → IsSigned i b → IsSigned j b → i ≡ j
signed_value p q = (signed_prefix [] [] p q refl).value

-- the bytes of a signed number spell an unsigned one too
pub signed_unsigned : {i : ℤ} {b : List ℕ} → IsSigned i b → (u : ℕ) × IsUnsigned u b
signed_unsigned (not_negative {n = n} p) = (2 * n, p)
signed_unsigned (negative {n = n} p) = (2 * n + 1, p)

-- a number has 64 bits
pub signed_fits : {i : ℤ} {b : List ℕ} → IsSigned i b → FitsSigned w64 i
signed_fits (not_negative p) = let u = unsigned_fits p in omega (arith, ints)
signed_fits (negative p) = let u = unsigned_fits p in omega (arith, ints)

-- each number of 64 bits has a spelling
pub signed_spelled : (i : ℤ) → FitsSigned w64 i → IsSpelled (IsSigned i)
signed_spelled (pos n) l = let s = unsigned_spelled (2 * n) (omega (arith, ints)) in record
    { bytes = s.bytes; spelled = not_negative s.spelled }
signed_spelled (negsuc n) l = let s = unsigned_spelled (2 * n + 1) (omega (arith, ints)) in record
    { bytes = s.bytes; spelled = negative s.spelled }
