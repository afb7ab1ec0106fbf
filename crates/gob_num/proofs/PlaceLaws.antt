-- Numbers that stand at a place of bytes, from what is taken there.
use Rattle.std.proofs.Common.{◌≡◌, ℕ, zero, suc, ◌+◌, ◌-◌, ◌<◌, ◌≤◌, List, [], ◌∷◌, ◌++◌, length}
use Rattle.std.proofs.Common.{get_or, take, drop}
use Rattle.std.proofs.Common.{arith, sym, ap, ◌∙◌, subst, refl, append-nil, append_assoc}
use Rattle.std.proofs.Common.{length-append}
use Rattle.std.proofs.Math.Nat.{lt_of_not-le}
use Rattle.std.proofs.Math.Seq.{take-append_seam}
use Rattle.std.proofs.lemmas.List.{drop_more, take-append-drop, length-drop, length-take-le, take_all}
use Rattle.gob_num.specs.Unsigned.{big_endian, AreBytes, IsUnsigned, short, long, IsBadHead, IsNotMinimal}
use Rattle.gob_num.specs.Taken.{TakesUnsigned}
use Rattle.gob_num.specs.Place.{IsUnsignedAt, NumberStandsAt, NoNumberStandsAt, AreUnsignedAt, no_number, one_more}
use Rattle.gob_num.specs.Place.{PassesNumbers, IsOnlyNumberAt}
use Rattle.gob_num.specs.declared.unsigned.Taken.{Taken}
use Rattle.gob_num.specs.declared.unsigned.Taken.TheVariants.{Whole, More, BadHead, NotMinimal}
use Rattle.gob_num.proofs.DigitLaws.{bytes_each, bytes_rest}
use Rattle.gob_num.proofs.UnsignedLaws.{unsigned_prefix, unsigned_length}
use Rattle.gob_num.proofs.PrefixLaws.{bad_head_none, not_minimal_none}
use Rattle.gob_num.proofs.TakenLaws.{short_taken, digits_spell, chunk_taken}

-- a byte stands at the place
pub record StandsAt (head : ℕ) (bytes : List ℕ) (at : ℕ) : Type 0 where
  pub inside : at < length bytes
  pub is : head ≡ get_or bytes at 0

-- the piece from the place of a byte on
pub piece_at : {bytes : List ℕ} {at head : ℕ} → StandsAt head bytes at → drop at bytes ≡ head ∷ drop (at + 1) bytes
piece_at {bytes = bytes} {at = at} s = drop_more bytes at 0 s.inside ∙ ap (λ b. b ∷ drop (at + 1) bytes) (sym s.is)

-- all of a piece is taken
pub all_taken : (bytes : List ℕ) (at : ℕ) → take (length bytes - at) (drop at bytes) ≡ drop at bytes
all_taken bytes at = take_all (length bytes - at) (drop at bytes) (omega (arith, length-drop at bytes))

-- a number that is taken from the place on stands there
pub taken_at : (bytes : List ℕ) (at n used : ℕ) → at ≤ length bytes → TakesUnsigned (drop at bytes) (Whole n used)
    → IsUnsignedAt n bytes at (at + used)
taken_at bytes at n used l t =
    let size = length-take-le used (drop at bytes) t.0 in
    let same : at + used - at ≡ used = omega arith in
    record {
      order = omega (arith, size, unsigned_length t.1);
      inside = omega (arith, length-drop at bytes, t.0);
      spelled = subst (λ k. IsUnsigned n (take k (drop at bytes))) (sym same) t.1;
    }

-- a byte below 128 is a number
pub short_at : {bytes : List ℕ} {at head n : ℕ} → StandsAt head bytes at → head < 128 → n ≡ head
    → IsUnsignedAt n bytes at (at + 1)
short_at {bytes = bytes} {at = at} {head = head} {n = n} s l same =
    taken_at bytes at n 1 (omega (arith, s.inside))
    (short_taken (drop at bytes) (drop (at + 1) bytes) head n (piece_at s) l same)

-- eight bytes stand behind a head
pub record DigitsAt (head : ℕ) (eight bytes : List ℕ) (at : ℕ) : Type 0 where
  pub stands : StandsAt head bytes at
  pub enough : 8 ≤ length (take (length bytes - (at + 1)) (drop (at + 1) bytes))
  pub same : eight ≡ take 8 (take (length bytes - (at + 1)) (drop (at + 1) bytes))

-- they show what the piece is
pub chunk_taken_at : {head at : ℕ} {eight bytes : List ℕ} (t : Taken) → DigitsAt head eight bytes at
    → TakesUnsigned (head ∷ eight) t
    → TakesUnsigned (drop at bytes) t
chunk_taken_at {head = head} {at = at} {eight = eight} {bytes = bytes} t d p =
    chunk_taken (drop at bytes) (take (length bytes - (at + 1)) (drop (at + 1) bytes)) eight head t
    (piece_at d.stands ∙ ap (λ r. head ∷ r) (sym (all_taken bytes (at + 1)))) d.enough d.same p

last_empty : (a b : List ℕ) → [] ≡ a ++ b → b ≡ []
last_empty [] b e = sym e
last_empty (x ∷ a) b e = cc

none_before : (a b : List ℕ) (n : ℕ) (t : Taken) → IsUnsigned n a → TakesUnsigned (a ++ b) t
    → ((m used : ℕ) → t ≡ Whole m used → ⊥) → ⊥
none_before a b n (Whole m used) s p other = other m used refl
none_before a b n More s p other =
    let same = unsigned_prefix [] (b ++ p.rest) p.spelled s (append-nil ((a ++ b) ++ p.rest) ∙ append_assoc a b p.rest)
    in
    p.more (last_empty b p.rest same.rest)
none_before a b n BadHead s p other = bad_head_none (a ++ b) p [] b s (append-nil (a ++ b))
none_before a b n NotMinimal s p other = not_minimal_none (a ++ b) p [] b s (append-nil (a ++ b))

-- where something else than a number is taken, none stands
pub none_at : (bytes : List ℕ) (at : ℕ) (t : Taken) → TakesUnsigned (drop at bytes) t
    → ((n used : ℕ) → t ≡ Whole n used → ⊥)
    → NoNumberStandsAt bytes at
none_at bytes at t p other n end s =
    let piece = drop at bytes in
    none_before (take (end - at) piece) (drop (end - at) piece) n t s.spelled
    (subst (λ b. TakesUnsigned b t) (sym (take-append-drop (end - at) piece)) p) other

-- ---- what stands where a head is read
pub bad_head_at : {bytes : List ℕ} {at head : ℕ} → StandsAt head bytes at → 128 ≤ head → head < 248
    → NoNumberStandsAt bytes at
bad_head_at {bytes = bytes} {at = at} s l h =
    none_at bytes at BadHead (subst IsBadHead (sym (piece_at s)) (l, h)) (λ n used e. cc)

two_at : {bytes : List ℕ} {at head d : ℕ} → StandsAt head bytes at → StandsAt d bytes (at + 1)
    → drop at bytes ≡ head ∷ d ∷ drop (at + 1 + 1) bytes
two_at {head = head} s t = piece_at s ∙ ap (λ r. head ∷ r) (piece_at t)

pub padded_at : {bytes : List ℕ} {at head d : ℕ} (count : ℕ) → StandsAt head bytes at → StandsAt d bytes (at + 1)
    → head + count ≡ 256 → IsNotMinimal ((256 - count) ∷ d ∷ []) → NoNumberStandsAt bytes at
padded_at {bytes = bytes} {at = at} {head = head} {d = d} count s t e p =
    let same : 256 - count ≡ head = omega arith in
    let here : IsNotMinimal (head ∷ d ∷ []) = subst (λ h. IsNotMinimal (h ∷ d ∷ [])) same p in
    none_at bytes at NotMinimal (subst IsNotMinimal (sym (two_at s t)) here) (λ n used e. cc)

-- a head tells how many bytes stand behind it
head_tells : {n head : ℕ} {ds : List ℕ} → 128 ≤ head → IsUnsigned n (head ∷ ds) → head + length ds ≡ 256
head_tells l (short p) = absurd (omega arith)
head_tells l (long c) = c.head_counts

prefix_tells : (n head k : ℕ) (ds : List ℕ) → 128 ≤ head → 0 < k → k ≤ length ds + 1 → IsUnsigned n (take k (head ∷ ds))
    → head + k ≡ 257
prefix_tells n head zero ds l o m s = absurd (omega arith)
prefix_tells n head (suc j) ds l o m s = omega (arith, head_tells l s, length-take-le j ds (omega arith))

pub number_takes : {bytes : List ℕ} {at head n end : ℕ} → StandsAt head bytes at → 128 ≤ head
    → IsUnsignedAt n bytes at end
    → head + (end - at) ≡ 257
number_takes {bytes = bytes} {at = at} {head = head} {n = n} {end = end} s l u =
    let size = length-drop (at + 1) bytes in
    let order = u.order in let inside = u.inside in let here = s.inside in
    prefix_tells n head (end - at) (drop (at + 1) bytes) l (omega arith) (omega arith)
    (subst (λ p. IsUnsigned n (take (end - at) p)) (piece_at s) u.spelled)

-- so none stands where the bytes end before that
pub too_few_at : {bytes : List ℕ} {at head : ℕ} (count : ℕ) → StandsAt head bytes at → 128 ≤ head → head + count ≡ 256
    → length bytes ≤ at + count → NoNumberStandsAt bytes at
too_few_at count s l e m n end u =
    let order = u.order in let inside = u.inside in omega (arith, number_takes s l u)

pub counted_at : {bytes : List ℕ} {at head d : ℕ} (count size : ℕ) → StandsAt head bytes at → StandsAt d bytes (at + 1)
    → ((i : ℕ) → get_or bytes i 0 < 256) → 248 ≤ head → head + count ≡ 256 → ¬ IsNotMinimal ((256 - count) ∷ d ∷ [])
    → at + 1 + count ≤ length bytes → size ≡ count → NumberStandsAt bytes at (at + 1 + size)
counted_at {at = at} {head = head} zero size s t b low e p m same = absurd (omega (arith, b at, s.is))
counted_at {bytes = bytes} {at = at} {head = head} {d = d} (suc k) size s t b low e p m same =
    let ds = drop (at + 1 + 1) bytes in
    let long_enough = length-drop (at + 1 + 1) bytes in
    let all : AreBytes (take (at + 1) bytes ++ drop (at + 1) bytes) =
    subst AreBytes (sym (take-append-drop (at + 1) bytes)) (bytes_each bytes b) in
    let behind : AreBytes (d ∷ ds) = subst AreBytes (piece_at t) (bytes_rest (take (at + 1) bytes) (drop (at + 1) bytes)
    all) in
    let head_is : 256 - suc k ≡ head = omega arith in
    let minimal : ¬ IsNotMinimal (head ∷ d ∷ []) = subst (λ h. ¬ IsNotMinimal (h ∷ d ∷ [])) head_is p in
    let n = big_endian (d ∷ take k ds) in
    let taken : TakesUnsigned (head ∷ d ∷ ds) (Whole n (suc (suc k))) =
    (omega arith, digits_spell head d k ds low e (omega arith) behind minimal) in
    let inside = s.inside in
    let end : at + suc (suc k) ≡ at + 1 + size = omega arith in (
      n,
      subst (λ i. IsUnsignedAt n bytes at i) end (taken_at bytes at n (suc (suc k)) (omega arith)
          (subst (λ piece. TakesUnsigned piece (Whole n (suc (suc k)))) (sym (two_at s t)) taken)),
    )

-- a number whose head counts so many digits, or none where it is the number
pub sized_at : {bytes : List ℕ} {at head d : ℕ} (count size : ℕ) → StandsAt head bytes at → StandsAt d bytes (at + 1)
    → ((i : ℕ) → get_or bytes i 0 < 256) → (head < 128 → count ≡ 0) → (128 ≤ head → head + count ≡ 256) → count ≤ 8
    → (0 < count → ¬ IsNotMinimal ((256 - count) ∷ d ∷ [])) → at + 9 ≤ length bytes → size ≡ count
    → NumberStandsAt bytes at (at + (size + 1))
sized_at {bytes = bytes} {at = at} {head = head} zero size s t b few more small p room same =
    let byte : head < 256 = omega (arith, b at, s.is) in
    let is_number : head < 128 = lt_of_not-le (λ l. omega (arith, more l)) in
    let end : at + 1 ≡ at + (size + 1) = omega arith in
    subst (λ e. NumberStandsAt bytes at e) end (head, short_at s is_number refl)
sized_at {bytes = bytes} {at = at} {head = head} (suc k) size s t b few more small p room same =
    let counts : 127 < head = lt_of_not-le (λ l. omega (arith, few (omega arith))) in
    let all = more (omega arith) in
    let end : at + 1 + size ≡ at + (size + 1) = omega arith in
    subst (λ e. NumberStandsAt bytes at e) end
    (counted_at (suc k) size s t b (omega arith) all (p (omega arith)) (omega arith) same)

-- ---- numbers one behind another
-- no spelling begins another, so a number ends at one place
pub ends_at : {bytes : List ℕ} {at m n i j : ℕ} → IsUnsignedAt m bytes at i → IsUnsignedAt n bytes at j → i ≡ j
ends_at {bytes = bytes} {at = at} {i = i} {j = j} p q =
    let piece = drop at bytes in
    let size = length-drop at bytes in
    let one = unsigned_prefix (drop (i - at) piece) (drop (j - at) piece) p.spelled q.spelled
    (take-append-drop (i - at) piece ∙ sym (take-append-drop (j - at) piece)) in
    let same : length (take (i - at) piece) ≡ length (take (j - at) piece) = ap length one.bytes in
    let a = length-take-le (i - at) piece (let l = p.inside in omega arith) in
    let b = length-take-le (j - at) piece (let l = q.inside in omega arith) in
    let l = p.order in let k = q.order in
    omega arith

-- and it is one number
pub only_number : {bytes : List ℕ} {at m i : ℕ} → IsUnsignedAt m bytes at i → IsOnlyNumberAt bytes at m i
only_number {bytes = bytes} {at = at} {i = i} p n e u =
    let piece = drop at bytes in (
      (unsigned_prefix (drop (i - at) piece) (drop (e - at) piece) p.spelled u.spelled
          (take-append-drop (i - at) piece ∙ sym (take-append-drop (e - at) piece))).value,
      ends_at p u,
    )

-- a number that the rest of the bytes begin with stands there
pub number_stands : {bytes b : List ℕ} {at n : ℕ} (rest : List ℕ) → at ≤ length bytes → IsUnsigned n b
    → drop at bytes ≡ b ++ rest
    → IsUnsignedAt n bytes at (at + length b)
number_stands {bytes = bytes} {b = b} {at = at} {n = n} rest l p e =
    let prefix : take (at + length b - at) (drop at bytes) ≡ b =
    let same : at + length b - at ≡ length b = omega arith in
    ap (λ k. take k (drop at bytes)) same ∙ ap (λ y. take (length b) y) e ∙ take-append_seam b rest in
    record {
      order = omega (arith, (unsigned_length p).0);
      inside = omega (arith, ap length e, length-drop at bytes, length-append b rest);
      spelled = subst (IsUnsigned n) (sym prefix) p;
    }

-- where one is known to stand, its digits tell it
pub known_digits_at : {head at number used : ℕ} {eight bytes : List ℕ} → DigitsAt head eight bytes at
    → (¬ IsNotMinimal (head ∷ eight) → TakesUnsigned (head ∷ eight) (Whole number used))
    → IsOnlyNumberAt bytes at number (at + used)
known_digits_at {head = head} {at = at} {number = number} {used = used} {eight = eight} {bytes = bytes} d taken n e u =
    let here = d.stands.inside in
    let minimal : ¬ IsNotMinimal (head ∷ eight) = λ p. none_at bytes at NotMinimal (chunk_taken_at NotMinimal d p)
    (λ m i q. cc) n e u in
    only_number (taken_at bytes at number used (omega arith) (chunk_taken_at (Whole number used) d (taken minimal))) n e
    u

-- numbers of which there is one more, and the place behind the first
pub with_first : {bytes : List ℕ} {n count more at next end : ℕ} → more ≡ count + 1 → IsUnsignedAt n bytes at next
    → AreUnsignedAt bytes count next end → AreUnsignedAt bytes more at end
with_first {bytes = bytes} {count = count} {more = more} {at = at} {end = end} e p q =
    let same : suc count ≡ more = omega arith in
    subst (λ c. AreUnsignedAt bytes c at end) same (one_more p q)

pub without_first : {bytes : List ℕ} {n count more at next end : ℕ} → more ≡ count + 1 → IsUnsignedAt n bytes at next
    → AreUnsignedAt bytes more at end → AreUnsignedAt bytes count next end
without_first e p (no_number) = absurd (omega arith)
without_first {bytes = bytes} {count = count} {next = next} {end = end} e p (one_more {count = k} q r) =
    let same : k ≡ count = omega arith in
    subst (λ c. AreUnsignedAt bytes c next end) same (subst (λ i. AreUnsignedAt bytes k i end) (ends_at q p) r)

pub none_of_some : {bytes : List ℕ} {more at end : ℕ} → 0 < more → NoNumberStandsAt bytes at
    → ¬ AreUnsignedAt bytes more at end
none_of_some o none (no_number) = omega arith
none_of_some o none (one_more p q) = none _ _ p

pub none_left : {bytes : List ℕ} {left at : ℕ} → left ≡ 0 → AreUnsignedAt bytes left at at
none_left e = rw e no_number

-- ---- numbers that are passed
pub passes_none : {bytes : List ℕ} {most at : ℕ} → PassesNumbers bytes most at most at
passes_none = record { fewer = omega arith; more = λ end p. p; all = λ end p. p }

pub passes_one_more : {bytes : List ℕ} {most begin left less at next : ℕ} → left ≡ less + 1
    → NumberStandsAt bytes at next
    → PassesNumbers bytes most begin left at → PassesNumbers bytes most begin less next
passes_one_more e p s = let few = s.fewer in record {
  fewer = omega (arith, few);
  more = λ end q. s.more end (with_first e p.1 q);
  all = λ end q. without_first e p.1 (s.all end q);
}

pub passes_both : {bytes : List ℕ} {most begin left at fewer place : ℕ} → PassesNumbers bytes most begin left at
    → PassesNumbers bytes left at fewer place → PassesNumbers bytes most begin fewer place
passes_both s t = let few = s.fewer in let less = t.fewer in record {
  fewer = omega (arith, few, less);
  more = λ end q. s.more end (t.more end q);
  all = λ end q. t.all end (s.all end q);
}
