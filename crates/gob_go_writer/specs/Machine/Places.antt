-- The places of nils in the bytes of a value and in those of its tidy form.
use Rattle.std.specs.Prelude.{ℕ, ◌+◌, ◌≤◌, List, [], ◌∷◌}
use Rattle.gob_go.specs.declared.filled.Filling.{Filling, out-Filling}

-- those of the nils that are filled
abbrev pub places_in : List Filling → List ℕ
places_in [] = []
places_in (f ∷ fs) = (out-Filling f).place ∷ places_in fs

-- from these offsets on, of so many bytes, each piece before a nil and the one behind the last is no longer in the tidy
-- form than in the value
pub data AreCloser (size tidy_size : ℕ) : (from to : ℕ) → List ℕ → List ℕ → Type 0 where
  last_closer : {from to : ℕ} → to ≤ tidy_size → tidy_size + from ≤ size + to → AreCloser size tidy_size from to [] []
  then_closer : {from to p q : ℕ} {ps qs : List ℕ} → to ≤ q → q + from ≤ p + to
      → AreCloser size tidy_size (p + 1) (q + 1) ps qs → AreCloser size tidy_size from to (p ∷ ps) (q ∷ qs)
