-- How many whole elements of a list, or entries of a map, stand at the front of bytes, no deeper than a limit.
-- (docs/FORMAT.md, Values; Depth.)
use Rattle.std.specs.Prelude.{◌≡◌, ℕ, ◌≤◌, List, length, take}
use Rattle.gob_types.specs.declared.id.TypeId.{TypeId}
use Rattle.gob_types.specs.Table.{Table}
use Rattle.gob_value.specs.Tree.{Trees, Pairs, trees_depth, pairs_depth, tree_count, pair_count}
use Rattle.gob_value.specs.Spelling.{SpellsEach, SpellsPairs}

-- the bytes up to this end are so many elements
pub record HasElements (T : Table) (e : TypeId) (limit count : ℕ) (bytes : List ℕ) (end : ℕ) : Type 0 where
  pub values : Trees
  pub spelled : SpellsEach T e values (take end bytes)
  pub within : trees_depth values ≤ limit
  pub counted : tree_count values ≡ count
  pub inside : end ≤ length bytes

-- so many keys and their elements
pub record HasEntries (T : Table) (k e : TypeId) (limit count : ℕ) (bytes : List ℕ) (end : ℕ) : Type 0 where
  pub pairs : Pairs
  pub spelled : SpellsPairs T k e pairs (take end bytes)
  pub within : pairs_depth pairs ≤ limit
  pub counted : pair_count pairs ≡ count
  pub inside : end ≤ length bytes
