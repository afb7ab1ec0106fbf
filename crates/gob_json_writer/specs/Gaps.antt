-- In which parts of a value fillings stand. The parts are numbered in the order of their first bytes, the value itself
-- first: a filling stands in the part whose number is that of the parts that begin before its place.
-- (docs/FORMAT.md, Fillings and segments.)
use Rattle.std.specs.Prelude.{ℕ, ◌+◌, List, [], ◌∷◌, take}
use Rattle.gob_types.specs.declared.id.TypeId.{TypeId}
use Rattle.gob_types.specs.Table.{Table}
use Rattle.gob_read.specs.Held.{IsHeld}
use Rattle.gob_read.specs.declared.builder.Stores.TheVariants.{Parts}
use Rattle.gob_go.specs.declared.filled.Filling.{Filling, out-Filling}

-- behind so many parts of the value of the type that is spelled so, each filling stands so many parts further
pub data AreGaps (T : Table) (t : TypeId) (b : List ℕ) : ℕ → List Filling → List ℕ → Type 0 where
  end_of_gaps : {number : ℕ} → AreGaps T t b number [] []
  gap_before : {number gap : ℕ} {kept : Filling} {all : List Filling} {gaps : List ℕ}
      → IsHeld T t Parts (take (out-Filling kept).place b) (number + gap) → AreGaps T t b (number + gap + 1) all gaps
      → AreGaps T t b number (kept ∷ all) (gap ∷ gaps)
