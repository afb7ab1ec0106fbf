-- The present field of a number, as a search among the parts finds it.
use Rattle.std.proofs.Common.{◌≡◌, ◌≢◌, ℕ, zero, suc, ◌<◌, ◌≤◌, ◌⊎◌, inl, inr, List, [], ◌∷◌, length, get_or, Some}
use Rattle.std.proofs.Common.{arith}
use Rattle.std.proofs.Common.{refl, sym, ap, ◌∙◌, subst, true≢false, is_some}
use Rattle.std.proofs.Math.Nat.{eq-or-lt_of_le}
use Rattle.std.proofs.lemmas.Bool.Decides.{nat_tests}
use Rattle.std.proofs.lemmas.Cmp.{ranked}
use Rattle.std.proofs.lemmas.Option.{slice_get_within, slice_get-get_or, get_or_from_slice_get}
use Rattle.std.specs.List.{HoldsAt}
use Rattle.std.specs.List.Sorted.{IsNonDecreasingBy, IsPartitionPoint}
use Rattle.std.specs.Ordering.{nat_cmp, ordering_index}
use Rattle.std.specs.Prelude.{slice_get}
use Rattle.std.specs.declared.cmp.Ordering.TheVariants.{Less, Equal, Greater}
use Rattle.gob_types.proofs.PublicLaws.{some_injective}
use Rattle.gob_value.specs.declared.value.Value.{Value}
use Rattle.gob_value.specs.Tree.{Tree, Fields, field}
use Rattle.gob_value.specs.View.{view, field_views}
use Rattle.gob_match.specs.Machine.Receiving.{HaveRisingNumbers}
use Rattle.gob_match.specs.Received.{IsPresent, first, later, IsAbsent}
use Rattle.gob_match.proofs.SearchLaws.{below_or_past}

present_at : (ps : List (ℕ × Value)) (i : ℕ) {p : ℕ × Value} → slice_get ps i ≡ Some p
    → IsPresent p.0 (view p.1) (field_views ps)
present_at [] i there = absurd (true≢false (sym (ap is_some there)))
present_at (x ∷ xs) zero there = subst (λ (p : ℕ × Value). IsPresent p.0 (view p.1) (field_views (x ∷ xs)))
    (some_injective there) first
present_at (x ∷ xs) (suc i) there = later (present_at xs i there)

at_present : (ps : List (ℕ × Value)) {n : ℕ} {v : Tree} → IsPresent n v (field_views ps) → (i : ℕ) × (p : ℕ × Value)
    × (slice_get ps i ≡ Some p) × (p.0 ≡ n)
at_present [] h = elim h [ ]
at_present (x ∷ xs) {n = n} h = elim (inside h) as
    (λ _. (i : ℕ) × (p : ℕ × Value) × (slice_get (x ∷ xs) i ≡ Some p) × (p.0 ≡ n)) [
      | inl e ↦ (0, x, refl, e)
      | inr q ↦ let r = at_present xs q in (suc r.0, r.1, r.2, r.3)
    ]
  where
    inside : {f m : ℕ} {w v : Tree} {fs : Fields} → IsPresent m v (field f w fs) → (f ≡ m) ⊎ IsPresent m v fs
    inside first = inl refl
    inside (later q) = inr q

-- ---- a search by a number that each item of a list has

-- the numbers of the items rise
abbrev pub Rise : {A : Type 0} → (A → ℕ) → List A → Type 0
Rise {A = A} key ps = (i j : ℕ) (p q : A) → i < j → slice_get ps i ≡ Some p → slice_get ps j ≡ Some q → key p < key q

module _ {A : Type 0} (key : A → ℕ) (ps : List A) (n i : ℕ) where
  -- the item that was found has the number
  pub numbered : (p : A) → HoldsAt (λ (p : A). nat_cmp (key p) n ≡ Equal) ps i → key (get_or ps i p) ≡ n
  numbered p equal = ranked (key (get_or ps i p)) n _ (sym (equal p))

  numbers_rise : Rise key ps → IsNonDecreasingBy (λ (p : A). ordering_index (nat_cmp (key p) n)) ps
  numbers_rise rise i j d le below = by (eq-or-lt_of_le le)
    where
      higher : (a b : ℕ) → a ≤ b → ordering_index (nat_cmp a n) ≤ ordering_index (nat_cmp b n)
      higher a b le = grind (arith, nat_tests)

      by : (i ≡ j) ⊎ (i < j)
          → ordering_index (nat_cmp (key (get_or ps i d)) n) ≤ ordering_index (nat_cmp (key (get_or ps j d)) n)
      by (inl same) = let e = ap (λ k. ordering_index (nat_cmp (key (get_or ps k d)) n)) same in omega arith
      by (inr before) =
          let r = rise i j (get_or ps i d) (get_or ps j d) before (slice_get-get_or ps i d (omega arith))
          (slice_get-get_or ps j d below) in
          higher (key (get_or ps i d)) (key (get_or ps j d)) (omega arith)

  -- none has it where none was found
  pub unnumbered : Rise key ps
      → (IsNonDecreasingBy (λ (p : A). ordering_index (nat_cmp (key p) n)) ps
      → IsPartitionPoint (λ (p : A). nat_cmp (key p) n ≡ Less) (λ (p : A). nat_cmp (key p) n ≡ Greater) ps i)
      → (k : ℕ) (p : A) → slice_get ps k ≡ Some p → key p ≢ n
  unnumbered rise parted k p there same =
      let within = slice_get_within ps k p there in
      let is : key (get_or ps k p) ≡ n = ap key (get_or_from_slice_get ps k p p there) ∙ same in
      elim (below_or_past k i) [
        | inl below ↦ let l : key (get_or ps k p) < n = ranked (key (get_or ps k p)) n _
            (sym ((parted (numbers_rise rise)).0 k p (omega arith) below)) in omega arith
        | inr past ↦ let l : n < key (get_or ps k p) = ranked (key (get_or ps k p)) n _
            (sym ((parted (numbers_rise rise)).1 k p past within)) in omega arith
      ]

-- ---- a part of a value

-- a part whose number the search found
pub part_found : (ps : List (ℕ × Value)) (n i : ℕ) (p : ℕ × Value) → i < length ps
    → HoldsAt (λ (p : ℕ × Value). nat_cmp p.0 n ≡ Equal) ps i → IsPresent n (view (get_or ps i p).1) (field_views ps)
part_found ps n i p below equal =
    subst (λ m. IsPresent m (view (get_or ps i p).1) (field_views ps))
    (numbered (λ (p : ℕ × Value). p.0) ps n i p equal)
    (present_at ps i (slice_get-get_or ps i p below))

-- no part has a number that the search didn't find
pub part_absent : (ps : List (ℕ × Value)) (n i : ℕ) → HaveRisingNumbers ps
    → (IsNonDecreasingBy (λ (p : ℕ × Value). ordering_index (nat_cmp p.0 n)) ps
    → IsPartitionPoint (λ (p : ℕ × Value). nat_cmp p.0 n ≡ Less) (λ (p : ℕ × Value). nat_cmp p.0 n ≡ Greater) ps i)
    → IsAbsent n (field_views ps)
part_absent ps n i rise parted v h =
    let at = at_present ps h in
    unnumbered (λ (p : ℕ × Value). p.0) ps n i rise parted at.0 at.1 at.2 at.3
