-- No spelling of an unsigned number begins another, a number has one, and each number of 64 bits has one.
use Rattle.std.proofs.Common.{◌≡◌, ℕ, zero, suc, ◌-◌, ◌^◌, ◌<◌, ◌≤◌, inl, inr, List, [], ◌∷◌, ◌++◌, length, arith, refl}
use Rattle.std.proofs.Common.{sym, ap, ◌∙◌}
use Rattle.std.proofs.lemmas.Bool.{cases_lt}
use Rattle.gob_num.specs.Unsigned.{big_endian, AreBytes, IsUnsigned, short, long}
use Rattle.gob_num.specs.Spelled.{IsSpelled, Same}
use Rattle.gob_num.specs.Machine.Counters.{digits}
use Rattle.gob_num.proofs.DigitLaws.{pow256_mono, append_split, big_endian_below, digits_injective, length-digits}
use Rattle.gob_num.proofs.DigitLaws.{digits-bytes, big_endian-digits}

-- no spelling begins another
pub unsigned_prefix : {m n : ℕ} {b c : List ℕ} (x y : List ℕ) → IsUnsigned m b → IsUnsigned n c → b ++ x ≡ c ++ y
    → Same m n b c x y
unsigned_prefix {m = m} {n = n} x y (short p) (short q) e =
    let h : m ≡ n = cc in let r : x ≡ y = cc in record { value = h; bytes = cc; rest = r }
unsigned_prefix {m = m} x y (short p) (long {head = g} q) e = let h : m ≡ g = cc in absurd (omega arith)
unsigned_prefix {n = n} x y (long {head = h} p) (short q) e = let k : h ≡ n = cc in absurd (omega arith)
unsigned_prefix x y (long {head = h} {digits = ds} p) (long {head = g} {digits = es} q) e =
    let heads : h ≡ g = cc in
    let rest : ds ++ x ≡ es ++ y = cc in
    let r = append_split ds es x y (omega arith) rest in
    let same : ds ≡ es = r.0 in
    record { value = sym p.value ∙ ap big_endian same ∙ q.value; bytes = cc; rest = r.1 }

-- a number has one spelling
pub unsigned_unique : {n : ℕ} {b c : List ℕ} → IsUnsigned n b → IsUnsigned n c → b ≡ c
unsigned_unique (short p) (short q) = refl
unsigned_unique (short p) (long q) = absurd (omega arith)
unsigned_unique (long p) (short q) = absurd (omega arith)
unsigned_unique (long {head = h} {digits = ds} p) (long {head = g} {digits = es} q) =
    let one : length ds ≡ length es =
    elim (cases_lt (length ds) (length es)) [
      | inl k ↦ absurd (omega (arith, big_endian_below ds p.bytes, q.least (length ds) k))
      | inr k ↦ elim (cases_lt (length es) (length ds)) [
        | inl j ↦ absurd (omega (arith, big_endian_below es q.bytes, p.least (length es) j))
        | inr j ↦ omega arith
      ]
    ] in
    let same = digits_injective ds es p.bytes q.bytes one (p.value ∙ sym q.value) in
    let eh : h ≡ g = omega arith in cc

-- bytes spell one number
pub unsigned_value : {m n : ℕ} {b : List ℕ} → IsUnsigned m b → IsUnsigned n b → m ≡ n
unsigned_value p q = (unsigned_prefix [] [] p q refl).value

-- a number has 64 bits
pub unsigned_fits : {n : ℕ} {b : List ℕ} → IsUnsigned n b → n < 2 ^ 64
unsigned_fits (short p) = omega arith
unsigned_fits (long {digits = ds} p) = omega (arith, big_endian_below ds p.bytes, pow256_mono (length ds) 8 p.few)

-- a spelling has bytes, and one to nine of them
pub unsigned_bytes : {n : ℕ} {b : List ℕ} → IsUnsigned n b → AreBytes b
unsigned_bytes (short p) = (omega arith, tt)
unsigned_bytes (long {digits = []} p) = absurd (let v = p.value in omega arith)
unsigned_bytes (long {digits = d ∷ ds} p) = (omega arith, p.bytes)

pub unsigned_length : {n : ℕ} {b : List ℕ} → IsUnsigned n b → (0 < length b) × (length b ≤ 9)
unsigned_length (short p) = (omega arith, omega arith)
unsigned_length (long p) = (omega arith, omega arith)

-- as many digits as hold the number, and no fewer, spell it
pub counted_digits : (k n : ℕ) → k < 8 → 128 ≤ n → n < 256 ^ suc k → 256 ^ k ≤ n
    → IsUnsigned n ((255 - k) ∷ digits (suc k) n)
counted_digits k n few large high low =
    let count = length-digits (suc k) n in
    long {head = 255 - k} {digits = digits (suc k) n} (record {
      large = large;
      head_counts = omega arith;
      few = omega arith;
      bytes = digits-bytes (suc k) n;
      value = big_endian-digits (suc k) n high;
      least = λ j l. omega (arith, pow256_mono j k (omega arith));
    })

-- each number of 64 bits has a spelling
spelled_below : (k n : ℕ) → k ≤ 8 → 128 ≤ n → n < 256 ^ k → IsSpelled (IsUnsigned n)
spelled_below zero n l large h = absurd (omega arith)
spelled_below (suc k) n l large h =
    elim (cases_lt n (256 ^ k)) [
      | inl s ↦ spelled_below k n (omega arith) large s
      | inr s ↦ record { bytes = (255 - k) ∷ digits (suc k) n; spelled = counted_digits k n (omega arith) large h s }
    ]

pub unsigned_spelled : (n : ℕ) → n < 2 ^ 64 → IsSpelled (IsUnsigned n)
unsigned_spelled n h =
    elim (cases_lt n 128) [
      | inl l ↦ record { bytes = n ∷ []; spelled = short l }
      | inr l ↦ spelled_below 8 n (omega arith) l (omega arith)
    ]
