-- Digits to base 256, and the number that they stand for.
use Rattle.std.proofs.Common.{◌≡◌, ℕ, zero, suc, ◌+◌, ◌-◌, ◌*◌, ◌/◌, ◌%◌, ◌^◌, ◌<◌, ◌≤◌, List, [], ◌∷◌, ◌++◌, length}
use Rattle.std.proofs.Common.{get_or, take, drop, w64, arith, refl, sym, ap, ◌∙◌, subst, length-append}
use Rattle.std.specs.Int.{from_be_bytes}
use Rattle.std.proofs.lemmas.List.{take-append-drop, length-drop}
use Rattle.std.proofs.Math.Nat.{pow-suc, pow-succ', pow-le-pow_right, div-add-mod}
use Rattle.std.proofs.lemmas.Nat.{mul-add-lt, same_from_place, div-mul-add, mod-mul-add, div_below, mod_below, pow-add}
use Rattle.gob_num.specs.Unsigned.{big_endian, AreBytes}
use Rattle.gob_num.specs.Machine.Counters.{digits}

pub pow256_pos : (k : ℕ) → 0 < 256 ^ k
pow256_pos zero = omega arith
pow256_pos (suc k) = rw (pow-succ' 256 k) (omega (arith, pow256_pos k))

-- powers of 256 rise
pub pow256_mono : (j k : ℕ) → j ≤ k → 256 ^ j ≤ 256 ^ k
pow256_mono j k h = pow-le-pow_right (omega arith) h

-- a digit has eight bits
pub bits_of_digits : (k : ℕ) → 256 ^ k ≡ 2 ^ (8 * k)
bits_of_digits zero = refl
bits_of_digits (suc k) =
    let e : 8 * suc k ≡ 8 + 8 * k = omega arith in
    rw (pow-succ' 256 k, e, pow-add 2 8 (8 * k), bits_of_digits k) refl

-- lists of one length are equal where they go on to one list, and so is what follows
pub append_split : (a b x y : List ℕ) → length a ≡ length b → a ++ x ≡ b ++ y → (a ≡ b) × (x ≡ y)
append_split [] [] x y l e = (refl, e)
append_split [] (c ∷ b) x y l e = cc
append_split (d ∷ a) [] x y l e = cc
append_split (d ∷ a) (c ∷ b) x y l e =
    let n : length a ≡ length b = omega arith in
    let t : a ++ x ≡ b ++ y = cc in
    let r = append_split a b x y n t in
    (let q : a ≡ b = r.0 in cc, r.1)

pub bytes_prefix : (a b : List ℕ) → AreBytes (a ++ b) → AreBytes a
bytes_prefix [] b p = tt
bytes_prefix (d ∷ a) b p = (p.0, bytes_prefix a b p.1)

pub bytes-append : (a b : List ℕ) → AreBytes a → AreBytes b → AreBytes (a ++ b)
bytes-append [] b p q = q
bytes-append (d ∷ a) b p q = (p.0, bytes-append a b p.1 q)

pub bytes_rest : (a b : List ℕ) → AreBytes (a ++ b) → AreBytes b
bytes_rest [] b p = p
bytes_rest (d ∷ a) b p = bytes_rest a b p.1

-- std's form of the same
pub bytes_each : (bytes : List ℕ) → ((i : ℕ) → get_or bytes i 0 < 256) → AreBytes bytes
bytes_each [] p = tt
bytes_each (b ∷ bytes) p = (p 0, bytes_each bytes (λ i. p (suc i)))

pub big_endian_below : (ds : List ℕ) → AreBytes ds → big_endian ds < 256 ^ length ds
big_endian_below [] h = omega arith
big_endian_below (d ∷ ds) h =
    rw (pow-succ' 256 (length ds)) (omega (
      arith,
      mul-add-lt d (256 ^ length ds) (big_endian ds) 256 h.0
          (big_endian_below ds h.1),
    ))

-- digits of one length and value are the same
pub digits_injective : (a b : List ℕ) → AreBytes a → AreBytes b → length a ≡ length b → big_endian a ≡ big_endian b
    → a ≡ b
digits_injective [] [] p q l e = refl
digits_injective [] (d ∷ b) p q l e = cc
digits_injective (c ∷ a) [] p q l e = cc
digits_injective (c ∷ a) (d ∷ b) p q l e =
    let n : length a ≡ length b = omega arith in
    let low : big_endian a < 256 ^ length a = big_endian_below a p.1 in
    let below : big_endian b < 256 ^ length a = rw n (big_endian_below b q.1) in
    let whole : c * 256 ^ length a + big_endian a ≡ d * 256 ^ length a + big_endian b = e
    ∙ ap (λ k. d * 256 ^ k + big_endian b) (sym n) in
    let parts = same_from_place c (big_endian a) d (big_endian b) (256 ^ length a) low below whole in
    let rest = digits_injective a b p.1 q.1 n parts.1 in
    let first : c ≡ d = parts.0 in cc

-- one more digit behind the others
pub big_endian-snoc : (ds : List ℕ) (d : ℕ) → big_endian (ds ++ d ∷ []) ≡ big_endian ds * 256 + d
big_endian-snoc [] d = omega arith
big_endian-snoc (c ∷ ds) d =
    snoc_arith c (256 ^ length ds) (256 ^ length (ds ++ d ∷ [])) (big_endian ds) (big_endian (ds ++ d ∷ [])) d
    (let e : length (ds ++ d ∷ []) ≡ suc (length ds) = omega (arith, length-append ds (d ∷ [])) in ap (λ k. 256 ^ k) e
    ∙ pow-succ' 256 (length ds))
    (big_endian-snoc ds d)
  where
    snoc_arith : (c w x v u d : ℕ) → x ≡ 256 * w → u ≡ v * 256 + d → c * x + u ≡ (c * w + v) * 256 + d
    snoc_arith c w x v u d e f = rw (e, f) (omega arith)

big_endian-append : (a b : List ℕ) → big_endian (a ++ b) ≡ big_endian a * 256 ^ length b + big_endian b
big_endian-append [] b = omega arith
big_endian-append (d ∷ a) b =
    rw (length-append a b, pow-add 256 (length a) (length b)) (omega (arith, big_endian-append a b))

-- the first digits of a number are what is left of it behind the others
pub big_endian-take : (k : ℕ) (ds : List ℕ) → AreBytes ds
    → big_endian ds / 256 ^ (length ds - k) ≡ big_endian (take k ds)
big_endian-take k ds b =
    let whole = take-append-drop k ds in
    let low : big_endian (drop k ds) < 256 ^ length (drop k ds) = big_endian_below (drop k ds)
    (bytes_rest (take k ds) (drop k ds) (subst AreBytes (sym whole) b)) in
    let size : length (drop k ds) ≡ length ds - k = length-drop k ds in
    let e : big_endian ds ≡ big_endian (take k ds) * 256 ^ (length ds - k) + big_endian (drop k ds) =
    ap big_endian (sym whole) ∙ big_endian-append (take k ds) (drop k ds)
    ∙ ap (λ n. big_endian (take k ds) * 256 ^ n + big_endian (drop k ds)) size in
    ap (λ n. n / 256 ^ (length ds - k)) e
    ∙ div-mul-add (big_endian (take k ds)) (256 ^ (length ds - k)) (big_endian (drop k ds))
    (subst (λ n. big_endian (drop k ds) < 256 ^ n) size low)

-- eight digits are the number that std's `from_be_bytes` reads from them
pub from_be_bytes-big_endian : (ds : List ℕ) → length ds ≡ 8 → from_be_bytes w64 ds ≡ big_endian ds
from_be_bytes-big_endian (a ∷ b ∷ c ∷ d ∷ e ∷ f ∷ g ∷ h ∷ []) l = omega arith
from_be_bytes-big_endian ds l = absurd (omega arith)

-- the first digit is not 0 where no fewer digits hold the number
pub high_digit : (d : ℕ) (ds : List ℕ) → AreBytes ds → 256 ^ length ds ≤ d * 256 ^ length ds + big_endian ds → 0 < d
high_digit zero ds b h = absurd (omega (arith, big_endian_below ds b))
high_digit (suc d) ds b h = omega arith

-- two digits and more, the first of them not 0, are a number that one byte does not hold
pub two_digits : (d : ℕ) (ds : List ℕ) → 0 < d → 0 < length ds → 128 ≤ big_endian (d ∷ ds)
two_digits zero ds p l = absurd (omega arith)
two_digits (suc d) [] p l = absurd (omega arith)
two_digits (suc d) (c ∷ ds) p l = rw (pow-succ' 256 (length ds)) (omega (arith, pow256_pos (length ds)))

-- ---- the low k digits of a number
pub length-digits : (k v : ℕ) → length (digits k v) ≡ k
unfolding digits
length-digits zero v = refl
length-digits (suc k) v = omega (arith, length-append (digits k (v / 256)) ((v % 256) ∷ []), length-digits k (v / 256))

pub digits-bytes : (k v : ℕ) → AreBytes (digits k v)
unfolding digits
digits-bytes zero v = tt
digits-bytes (suc k) v = bytes-append (digits k (v / 256)) ((v % 256) ∷ []) (digits-bytes k (v / 256))
    (mod_below v 256 (omega arith), tt)

pub big_endian-digits : (k v : ℕ) → v < 256 ^ k → big_endian (digits k v) ≡ v
unfolding digits
big_endian-digits zero v h = omega arith
big_endian-digits (suc k) v h =
    let low : v < 256 ^ k * 256 = rw pow-suc at h in
    rw (
      big_endian-snoc (digits k (v / 256)) (v % 256),
      big_endian-digits k (v / 256)
          (div_below v 256 (256 ^ k) (omega arith) low),
    )
    (omega (arith, div-add-mod v 256))

pub digits-step : (k v r : ℕ) → r < 256 → digits (suc k) (v * 256 + r) ≡ digits k v ++ r ∷ []
unfolding digits
digits-step k v r h = rw (div-mul-add v 256 r h, mod-mul-add v 256 r h)

pub no_digits : (k v : ℕ) → k ≡ 0 → digits k v ≡ []
unfolding digits
no_digits zero v e = refl
no_digits (suc k) v e = absurd (omega arith)
