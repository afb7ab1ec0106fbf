-- What is kept of a match: the pairs of types that the search found, and the conversion of each.
use Rattle.std.specs.Prelude.{◌≡◌, ℕ, List, Some, slice_get}
use Rattle.gob_types.specs.declared.id.TypeId.{TypeId}
use Rattle.gob_types.specs.Table.{Table}
use Rattle.gob_match.specs.declared.conversion.Conversion.{Conversion}
use Rattle.gob_match.specs.declared.pair.TypePair.{TypePair}
use Rattle.gob_match.specs.declared.step.TypeStep.{TypeStep}
use Rattle.gob_match.specs.Pairs.{of_types}
use Rattle.gob_match.specs.Matching.{NamesByStep}
use Rattle.gob_match.specs.Machine.Search.{Entry, IsAt}
use Rattle.gob_match.specs.Machine.Exploring.{ConvertsAt}

-- the pairs are a closed list that begins with the two types, and each has its conversion
pub record IsMatched (T U : Table) (t u : TypeId) (found : List Entry) (conversions : List Conversion) : Type 0 where
  pub begins : IsAt found 0 (of_types t u)
  pub conversion : (k : ℕ) (p : TypePair) → IsAt found k p → (w : Conversion) × (slice_get conversions k ≡ Some w)
      × ConvertsAt T U p w
  pub named : (k : ℕ) (p q : TypePair) (s : TypeStep) → IsAt found k p → NamesByStep T U p s q
      → (j : ℕ) × IsAt found j q
