-- What a search has found so far: pairs of types in the order in which they were added, each with the pair that named
-- it.
use Rattle.std.specs.Prelude.{◌≡◌, ℕ, ◌<◌, List, [], ◌∷◌, ◌++◌, Option, Some, None, slice_get}
use Rattle.gob_types.specs.Ready.{IsReady}
use Rattle.gob_types.specs.Table.{Table}
use Rattle.gob_match.specs.declared.found.Origin.{Origin}
use Rattle.gob_match.specs.declared.pair.TypePair.{TypePair}
use Rattle.gob_match.specs.declared.step.TypeStep.{TypeStep}

abbrev pub Entry : Type 0
Entry = TypePair × Option Origin

abbrev pub came : ℕ → TypeStep → Option Origin
came place s = Some (record { place = place; step = s })

-- the steps lead from the first pair to the one at this place, each as it was added
pub data IsPathTo (found : List Entry) : ℕ → List TypeStep → Type 0 where
  at_start : {p : TypePair} → slice_get found 0 ≡ Some (p, None) → IsPathTo found 0 []
  from : {place before : ℕ} {p : TypePair} {s : TypeStep} {path : List TypeStep}
      → slice_get found place ≡ Some (p, came before s) → before < place → IsPathTo found before path
      → IsPathTo found place (path ++ s ∷ [])

pub record HasPath (found : List Entry) (place : ℕ) : Type 0 where
  pub path : List TypeStep
  pub is : IsPathTo found place path

-- the pair stands at this place
pub record IsAt (found : List Entry) (place : ℕ) (p : TypePair) : Type 0 where
  pub origin : Option Origin
  pub there : slice_get found place ≡ Some (p, origin)

-- how the pair at this place was added
pub record HasOrigin (found : List Entry) (place : ℕ) (origin : Option Origin) : Type 0 where
  pub pair : TypePair
  pub there : slice_get found place ≡ Some (pair, origin)

-- the pairs with this property were added from this place, behind those that were there
pub record AddsPairs (old new : List Entry) (place : ℕ) (P : TypeStep → TypePair → Type 0) : Type 0 where
  pub more : List Entry
  pub grown : new ≡ old ++ more
  pub has : (s : TypeStep) (q : TypePair) → P s q → (k : ℕ) × IsAt new k q
  pub only : (k : ℕ) (e : Entry) → slice_get more k ≡ Some e → (s : TypeStep) × (q : TypePair) × (e ≡ (q, came place s))
      × P s q

-- both types of the pair at the place are ready
abbrev pub AreReadyAt : Table → Table → List Entry → ℕ → Type 0
AreReadyAt T U found place = (p : TypePair) → IsAt found place p → IsReady T p.stream × IsReady U p.wanted
