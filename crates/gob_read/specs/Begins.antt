-- Which bytes begin the spelling of some value, in the grammar without limits.
-- (docs/FORMAT.md, Refusals: the place of a refusal is honest.)
use Rattle.std.specs.Prelude.{◌≢◌, ℕ, ◌<◌, List, [], ◌++◌}
use Rattle.gob_types.specs.declared.id.TypeId.{TypeId}
use Rattle.gob_types.specs.Table.{Table}
use Rattle.gob_value.specs.Tree.{Tree, depth}
use Rattle.gob_value.specs.Top.{SpellsTop}

-- the bytes and then the rest spell the value, with its tag where it has one
pub record BeginsValue (T : Table) (t : TypeId) (p : List ℕ) : Type 0 where
  pub value : Tree
  pub rest : List ℕ
  pub spelled : SpellsTop T t value (p ++ rest)

abbrev pub BeginsNone : Table → TypeId → List ℕ → Type 0
BeginsNone T t p = ¬ BeginsValue T t p

-- a proper prefix of a spelling: more bytes go on to a whole one
pub record IsProperPrefix (T : Table) (t : TypeId) (p : List ℕ) : Type 0 where
  pub begins : BeginsValue T t p
  pub more : begins.rest ≢ []

-- each value whose spelling begins so is deeper than the limit
abbrev pub BeginsOnlyDeep : Table → TypeId → ℕ → List ℕ → Type 0
BeginsOnlyDeep T t limit p = (v : Tree) (rest : List ℕ) → SpellsTop T t v (p ++ rest) → limit < depth v
