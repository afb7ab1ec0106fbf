-- The bytes that stay of an input stand in it, in order.
use Rattle.std.proofs.Common.{◌≡◌, ℕ, suc, ◌-◌, ◌<◌, ◌≤◌, Bool, true, false, List, [], ◌∷◌, ◌++◌, arith, ap, ◌∙◌, sym}
use Rattle.std.proofs.Common.{Some, if◌then◌else◌, slice_get}
use Rattle.std.specs.List.{All, AllPairs}
use Rattle.std.proofs.lemmas.List.Elements.{All-cons, All-nil}
use Rattle.std.proofs.lemmas.List.Kept.{AllPairs-cons}
use Rattle.gob_appended.specs.Once.{Byte, Part, behind, byte_at, once_from, settled, stays}

-- the byte stands in these, of which the first is at this offset
pub record StandsFrom (i : ℕ) (xs : List ℕ) (b : Byte) : Type 0 where
  pub not_before : i ≤ b.offset
  pub is : slice_get xs (b.offset - i) ≡ Some b.value

first : (i x : ℕ) (xs : List ℕ) → StandsFrom i (x ∷ xs) (byte_at i x)
first i x xs =
    let none : i - i ≡ 0 = omega arith in record { not_before = omega arith; is = ap (slice_get (x ∷ xs)) none }

later : (i x : ℕ) (xs : List ℕ) (b : Byte) → StandsFrom (suc i) xs b → StandsFrom i (x ∷ xs) b
later i x xs b h =
    let one : b.offset - i ≡ suc (b.offset - suc i) = omega (arith, h.not_before) in
    record { not_before = omega (arith, h.not_before); is = ap (slice_get (x ∷ xs)) one ∙ h.is }

pub at_offset : (xs : List ℕ) (b : Byte) → StandsFrom 0 xs b → slice_get xs b.offset ≡ Some b.value
at_offset xs b h = let all : b.offset - 0 ≡ b.offset = omega arith in ap (slice_get xs) (sym all) ∙ h.is

one_stands : (b : Bool) (i x : ℕ) (xs : List ℕ) (bs : List Byte) → All (StandsFrom (suc i) xs) bs
    → All (StandsFrom i (x ∷ xs)) ((if b then byte_at i x ∷ [] else []) ++ bs)
one_stands true i x xs bs h =
    All-cons (StandsFrom i (x ∷ xs)) (byte_at i x) bs (first i x xs) (λ k d l. later i x xs _ (h k d l))
one_stands false i x xs bs h = λ k d l. later i x xs _ (h k d l)

pub all_stand : (i : ℕ) (ds : List (List ℕ)) (p : Part) (xs : List ℕ) → All (StandsFrom i xs) (once_from i ds p xs)
all_stand i ds p [] = All-nil (StandsFrom i [])
all_stand i ds p (x ∷ xs) =
    let s = settled ds p (x ∷ xs) in
    one_stands (stays s.part) i x xs _ (all_stand (suc i) s.known (behind s.part) xs)

one_before : (b : Bool) (i x : ℕ) (xs : List ℕ) (bs : List Byte) → All (StandsFrom (suc i) xs) bs
    → AllPairs (λ (c d : Byte). c.offset < d.offset) bs
    → AllPairs (λ (c d : Byte). c.offset < d.offset) ((if b then byte_at i x ∷ [] else []) ++ bs)
one_before true i x xs bs h q =
    AllPairs-cons (λ (c d : Byte). c.offset < d.offset) (byte_at i x) bs
    (λ k d l. let after = h k d l in omega (arith, after.not_before)) q
one_before false i x xs bs h q = q

pub all_in_order : (i : ℕ) (ds : List (List ℕ)) (p : Part) (xs : List ℕ)
    → AllPairs (λ (c d : Byte). c.offset < d.offset) (once_from i ds p xs)
all_in_order i ds p [] = λ k m d l n. absurd (omega arith)
all_in_order i ds p (x ∷ xs) =
    let s = settled ds p (x ∷ xs) in
    one_before (stays s.part) i x xs _ (all_stand (suc i) s.known (behind s.part) xs)
    (all_in_order (suc i) s.known (behind s.part) xs)
