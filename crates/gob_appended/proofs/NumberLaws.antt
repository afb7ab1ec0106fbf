-- The number at the front of bytes is the one that stands there.
use Rattle.std.proofs.Common.{◌≡◌, ℕ, zero, suc, ◌+◌, ◌-◌, ◌<◌, ◌≤◌, true, List, [], ◌∷◌, ◌++◌, length}
use Rattle.std.proofs.Common.{take, drop, arith, refl, sym, ap, ◌∙◌, subst, Option, None, Some, nat_lt, nat_le}
use Rattle.std.proofs.Common.{take-append-drop}
use Rattle.std.proofs.lemmas.Bool.{and_from, and_parts, cond_both, le-leb, leb-true, lt-ltb, ltb-false, ltb-true}
use Rattle.std.proofs.lemmas.Bool.{true≢false}
use Rattle.std.proofs.lemmas.List.{length-take-le}
use Rattle.gob_num.specs.Place.{IsUnsignedAt, NoNumberStandsAt}
use Rattle.gob_num.specs.Unsigned.{AreBytes, IsCounted, IsUnsigned, big_endian, long, short}
use Rattle.gob_num.proofs.DigitLaws.{bytes_prefix, high_digit}
use Rattle.gob_num.proofs.PrefixLaws.{counted}
use Rattle.gob_num.proofs.UnsignedLaws.{unsigned_length, unsigned_prefix}
use Rattle.gob_appended.specs.Front.{are_least, number_at, with_digits}

-- what the answer says of the bytes
abbrev pub Tells : List ℕ → Option (ℕ × ℕ) → Type 0
Tells xs None = (n k : ℕ) → k ≤ length xs → IsUnsigned n (take k xs) → ⊥
Tells xs (Some c) = (c.1 ≤ length xs) × IsUnsigned c.0 (take c.1 xs)

-- ---- the digits of a number that is counted

counted_of : {n h : ℕ} {ds : List ℕ} → 128 ≤ h → IsUnsigned n (h ∷ ds) → IsCounted n h ds
counted_of l (short p) = absurd (omega arith)
counted_of l (long c) = c

least_of : (n h : ℕ) (ds : List ℕ) → IsCounted n h ds → are_least ds ≡ true
least_of n h [] c = absurd (let v = c.value in let l = c.large in omega arith)
least_of n h (d ∷ ds) c =
    let v = c.value in
    let l = c.large in
    let m = c.least (length ds) (omega arith) in
    and_from _ _ (lt-ltb 0 d (high_digit d ds c.bytes.1 (omega arith))) (le-leb 128 (big_endian (d ∷ ds)) (omega arith))

-- the number that is spelled behind a head has as many digits as the head says
record Counts (n h k : ℕ) (bytes : List ℕ) : Type 0 where
  size : k ≡ suc (256 - h)
  low : 248 ≤ h
  enough : 256 - h ≤ length bytes
  least : are_least (take (256 - h) bytes) ≡ true

counts_of : (n h k : ℕ) (bytes : List ℕ) → 128 ≤ h → k ≤ suc (length bytes) → IsUnsigned n (take k (h ∷ bytes))
    → Counts n h k bytes
counts_of n h zero bytes l m s = absurd (let p = unsigned_length s in omega arith)
counts_of n h (suc j) bytes l m s =
    let c = counted_of l s in
    let e = c.head_counts in
    let f = c.few in
    let size = length-take-le j bytes (omega arith) in
    let same : j ≡ 256 - h = omega arith in
    record {
      size = ap suc same;
      low = omega arith;
      enough = omega arith;
      least = ap (λ i. are_least (take i bytes)) (sym same) ∙ least_of n h (take j bytes) c;
    }

spelled_by : (h : ℕ) (ds : List ℕ) → 248 ≤ h → h + length ds ≡ 256 → AreBytes ds → are_least ds ≡ true
    → IsUnsigned (big_endian ds) (h ∷ ds)
spelled_by h [] l e b t = absurd (true≢false (sym t))
spelled_by h (d ∷ ds) l e b t =
    let p = and_parts (nat_lt 0 d) (nat_le 128 (big_endian (d ∷ ds))) t in
    counted h d ds l e (ltb-true 0 d p.0) b (leb-true 128 (big_endian (d ∷ ds)) p.1)

tells_digits : (h : ℕ) (bytes : List ℕ) → h < 256 → 248 ≤ h → 256 - h ≤ length bytes → AreBytes bytes
    → Tells (h ∷ bytes) (with_digits (256 - h) (take (256 - h) bytes))
tells_digits h bytes below low enough b =
    let ds = take (256 - h) bytes in
    let size = length-take-le (256 - h) bytes enough in
    let all : AreBytes (ds ++ drop (256 - h) bytes) = subst AreBytes (sym (take-append-drop (256 - h) bytes)) b in
    cond_both (are_least ds) _ _ (Tells (h ∷ bytes))
    (λ t. (omega arith, spelled_by h ds low (omega arith) (bytes_prefix ds (drop (256 - h) bytes) all) t))
    (λ t n k m s. true≢false (sym (counts_of n h k bytes (omega arith) (omega arith) s).least ∙ t))

pub tells : (xs : List ℕ) → AreBytes xs → Tells xs (number_at xs)
tells [] b = λ n k m s. let p = unsigned_length s in omega (arith, length-take-le {A = ℕ} k [] m)
tells (h ∷ bytes) b =
    cond_both (nat_lt h 128) _ _ (Tells (h ∷ bytes))
    (λ t. (omega arith, short (ltb-true h 128 t)))
    (λ t. cond_both (nat_lt h 248) _ _ (Tells (h ∷ bytes))
    (λ u n k m s. let f = ltb-true h 248 u in let g = ltb-false h 128 t in
    let c = counts_of n h k bytes g (omega arith) s in let i = c.low in omega arith)
    (λ u. cond_both (nat_lt (length bytes) (256 - h)) _ _ (Tells (h ∷ bytes))
    (λ v n k m s. let f = ltb-true (length bytes) (256 - h) v in let g = ltb-false h 128 t in
    let c = counts_of n h k bytes g (omega arith) s in let i = c.enough in omega arith)
    (λ v. tells_digits h bytes b.0 (ltb-false h 248 u) (ltb-false (length bytes) (256 - h) v) b.1)))

-- ---- and so of a number that stands there, or none

found_in : (xs : List ℕ) (n e : ℕ) (r : Option (ℕ × ℕ)) → Tells xs r → e ≤ length xs → IsUnsigned n (take e xs)
    → r ≡ Some (n, e)
found_in xs n e None t m s = absurd (t n e m s)
found_in xs n e (Some c) t m s =
    let same = unsigned_prefix (drop c.1 xs) (drop e xs) t.1 s
    (take-append-drop c.1 xs ∙ sym (take-append-drop e xs)) in
    let v = same.value in
    let k : c.1 ≡ e = omega (arith, ap length same.bytes, length-take-le c.1 xs t.0, length-take-le e xs m) in
    ap Some (λ i. (v i, k i))

pub found_at_front : (xs : List ℕ) (n e : ℕ) → AreBytes xs → IsUnsignedAt n xs 0 e → number_at xs ≡ Some (n, e)
found_at_front xs n e b u =
    let same : e - 0 ≡ e = omega arith in
    found_in xs n e (number_at xs) (tells xs b) u.inside (subst (λ k. IsUnsigned n (take k xs)) same u.spelled)

none_in : (xs : List ℕ) (r : Option (ℕ × ℕ)) → Tells xs r → NoNumberStandsAt xs 0 → r ≡ None
none_in xs None t none = refl
none_in xs (Some c) t none =
    let same : c.1 ≡ c.1 - 0 = omega arith in
    let size = unsigned_length t.1 in
    absurd (none c.0 c.1 (record {
      order = omega (arith, length-take-le c.1 xs t.0);
      inside = t.0;
      spelled = subst (λ k. IsUnsigned c.0 (take k xs)) same t.1;
    }))

pub none_at_front : (xs : List ℕ) → AreBytes xs → NoNumberStandsAt xs 0 → number_at xs ≡ None
none_at_front xs b none = none_in xs (number_at xs) (tells xs b) none
