-- A value fits a type where it has a spelling there. (docs/FORMAT.md, Values.)
use Rattle.std.specs.Prelude.{ℕ, List}
use Rattle.gob_types.specs.declared.id.TypeId.{TypeId}
use Rattle.gob_types.specs.declared.kind.Kind.{Kind}
use Rattle.gob_types.specs.Table.{Table}
use Rattle.gob_value.specs.Tree.{Tree}
use Rattle.gob_value.specs.Spelling.{Spells, SpellsAs}

pub record Fits (T : Table) (t : TypeId) (v : Tree) : Type 0 where
  pub bytes : List ℕ
  pub spelled : Spells T t v bytes

-- some bytes spell the value at the kind
pub record FitsKind (T : Table) (k : Kind) (v : Tree) : Type 0 where
  pub bytes : List ℕ
  pub spelled : SpellsAs T k v bytes
