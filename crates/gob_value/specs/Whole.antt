-- Values that stand whole at the front of a piece of a stream, no deeper than a limit. (docs/FORMAT.md, Values; Depth.)
use Rattle.std.specs.Prelude.{◌≡◌, ℕ, ◌-◌, ◌≤◌, List, length, take, drop, Some}
use Rattle.gob_types.specs.declared.id.TypeId.{TypeId}
use Rattle.gob_types.specs.declared.kind.Kind.{Kind}
use Rattle.gob_types.specs.declared.kind.Shape.{Shape}
use Rattle.gob_types.specs.Table.{Table, shape_of}
use Rattle.gob_value.specs.Tree.{Tree, depth}
use Rattle.gob_value.specs.Tidy.{Tidies}
use Rattle.gob_value.specs.Top.{SpellsTop}

-- the bytes are a value of the type behind its tag
pub record IsWhole (T : Table) (t : TypeId) (limit : ℕ) (bytes : List ℕ) : Type 0 where
  pub value : Tree
  pub spelled : SpellsTop T t value bytes
  pub within : depth value ≤ limit

-- from one place up to the other they are a value of each type of the kind, behind its tag where it isn't a struct
pub record IsWholeBetween (T : Table) (k : Kind) (limit : ℕ) (bytes : List ℕ) (at end : ℕ) : Type 0 where
  pub order : at ≤ end
  pub inside : end ≤ length bytes
  pub whole : (t : TypeId) (s : Shape) → shape_of T t ≡ Some s → s.kind ≡ k
      → IsWhole T t limit (take (end - at) (drop at bytes))

-- a value that is its own tidy form
pub record IsTidyWhole (T : Table) (t : TypeId) (limit : ℕ) (bytes : List ℕ) : Type 0 where
  pub value : Tree
  pub spelled : SpellsTop T t value bytes
  pub within : depth value ≤ limit
  pub tidied : Tidies T t value value
