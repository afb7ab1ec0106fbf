-- Values that are spelled and aren't deeper than a limit. (docs/FORMAT.md, Values; Depth.)
use Rattle.std.specs.Prelude.{ℕ, ◌≤◌, List}
use Rattle.gob_types.specs.declared.id.TypeId.{TypeId}
use Rattle.gob_types.specs.Table.{Table}
use Rattle.gob_value.specs.Tree.{Tree, depth}
use Rattle.gob_value.specs.Spelling.{Spells}

-- no part of the value is deeper than the limit
abbrev pub IsWithin : ℕ → Tree → Type 0
IsWithin limit v = depth v ≤ limit

-- some bytes spell the value, or the parts, and none of it is deeper than the limit
pub record IsSpelledWithin {V : Type 0} (Spells : V → List ℕ → Type 0) (depth : V → ℕ) (limit : ℕ) (v : V) : Type
    0 where
  pub bytes : List ℕ
  pub spelled : Spells v bytes
  pub within : depth v ≤ limit

-- as a value of the type
abbrev pub FitsWithin : Table → TypeId → ℕ → Tree → Type 0
FitsWithin T t limit v = IsSpelledWithin (Spells T t) depth limit v
