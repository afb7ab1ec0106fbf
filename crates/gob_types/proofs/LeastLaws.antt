-- The least of the bad ids, as a loop over the ids comes on.
use Rattle.std.proofs.Common.{◌≡◌, ℕ, ◌+◌, ◌≤◌, ◌⊎◌, inl, inr, List, length, Contains, Option, Some, None, arith, sym}
use Rattle.std.proofs.Common.{subst}
use Rattle.std.specs.Prelude.{slice_get, IfSome}
use Rattle.gob_types.specs.declared.id.TypeId.{TypeId}
use Rattle.gob_types.specs.Machine.Walk.{IsLeastBad}
use Rattle.gob_types.proofs.GrowthLaws.{some_injective}
use Rattle.gob_types.proofs.FirstLaws.{FirstAre, more_first, first_as, all_first, contains_read}

module _ (Good Bad : TypeId → Type 0) (ids : List TypeId) where
  -- the first n ids are good, or this is the least bad one of them
  abbrev pub LeastSoFar : ℕ → Option TypeId → Type 0
  LeastSoFar n None = FirstAre Good ids n
  LeastSoFar n (Some l) = Contains ids l × Bad l × FirstAre (λ u. Bad u → l.0 ≤ u.0) ids n

  -- a good one changes nothing
  pub least_pass : (n : ℕ) (x : TypeId) (least : Option TypeId) → LeastSoFar n least → slice_get ids n ≡ Some x → Good x
      → ¬ Bad x → LeastSoFar (n + 1) least
  least_pass n x None h here good not_bad = more_first h here good
  least_pass n x (Some l) h here good not_bad = (h.0, h.1, more_first h.2 here (λ bad. absurd (not_bad bad)))

  -- a bad one may be the least
  pub least_take : (n : ℕ) (x : TypeId) (least : Option TypeId) (l : TypeId) → ((u : TypeId) → Good u → ¬ Bad u)
      → LeastSoFar n least → slice_get ids n ≡ Some x → Bad x
      → (l ≡ x) ⊎ (least ≡ Some l) → l.0 ≤ x.0 → IfSome least (λ m. l.0 ≤ m.0) → LeastSoFar (n + 1) (Some l)
  least_take n x None l apart h here bad (inr e) below low = cc
  least_take n x None l apart h here bad (inl e) below low = (
    subst (Contains ids) (sym e) (contains_read ids n x here),
    subst Bad (sym e) bad,
    more_first (first_as h (λ u good is_bad. absurd (apart u good is_bad))) here (λ _. below),
  )
  least_take n x (Some m) l apart h here bad e below low =
      by e (more_first (first_as h.2 (λ u above is_bad. omega (arith, low, above is_bad))) here (λ _. below))
    where
      by : (l ≡ x) ⊎ (Some m ≡ Some l) → FirstAre (λ u. Bad u → l.0 ≤ u.0) ids (n + 1) → Contains ids l × Bad l
          × FirstAre (λ u. Bad u → l.0 ≤ u.0) ids (n + 1)
      by (inl e) rest = (subst (Contains ids) (sym e) (contains_read ids n x here), subst Bad (sym e) bad, rest)
      by (inr e) rest = let same : m ≡ l = some_injective e in (subst (Contains ids) same h.0, subst Bad same h.1, rest)

  -- and at the end it is
  pub least_end : (n : ℕ) (least : Option TypeId) → LeastSoFar n least → length ids ≤ n → IsLeastBad Good Bad ids least
  least_end n None h whole = λ u there. all_first h whole there
  least_end n (Some l) h whole = record { has = (h.0, h.1); least = λ u there. all_first h.2 whole there.0 there.1 }
