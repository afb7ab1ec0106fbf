-- What is received of a value that stands whole in bytes, in bytes again. (docs/LIBRARY.md, Matching and receiving;
-- docs/FORMAT.md, Values; Depth.)
use Rattle.std.specs.Prelude.{ℕ, ◌≤◌, List}
use Rattle.gob_types.specs.declared.id.TypeId.{TypeId}
use Rattle.gob_types.specs.Table.{Table}
use Rattle.gob_value.specs.Top.{SpellsTop}
use Rattle.gob_value.specs.Tree.{Tree, depth}
use Rattle.gob_match.specs.Received.{Receives}

-- the bytes are a value of the first type behind its tag, no deeper than the limit, and the others are what the second
-- type receives of it, behind its own
pub record ReceivesWhole (T U : Table) (t u : TypeId) (limit : ℕ) (bytes received : List ℕ) : Type 0 where
  pub value : Tree
  pub spelled : SpellsTop T t value bytes
  pub within : depth value ≤ limit
  pub made : Tree
  pub receives : Receives T U t u value made
  pub made_spelled : SpellsTop U u made received
  pub made_within : depth made ≤ limit
