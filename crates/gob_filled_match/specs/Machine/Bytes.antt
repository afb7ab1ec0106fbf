-- What is received of the bytes of a value, in bytes. For private clauses.
use Rattle.std.specs.Prelude.{List, ℕ}
use Rattle.gob_types.specs.declared.id.TypeId.{TypeId}
use Rattle.gob_types.specs.Table.{Table}
use Rattle.gob_value.specs.Tree.{Tree}
use Rattle.gob_value.specs.Top.{SpellsTop}
use Rattle.gob_match.specs.Received.{Receives}

-- the bytes spell a value of the first type, and the others what the second one receives of it
pub record ReceivesBytes (T U : Table) (t u : TypeId) (bytes received : List ℕ) : Type 0 where
  pub value : Tree
  pub spelled : SpellsTop T t value bytes
  pub made : Tree
  pub receives : Receives T U t u value made
  pub made_spelled : SpellsTop U u made received
