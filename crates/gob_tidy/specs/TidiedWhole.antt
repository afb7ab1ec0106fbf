-- The tidy form of a value that stands whole in bytes, in bytes again. (docs/FORMAT.md, Tidy form; Top-level values.)
use Rattle.std.specs.Prelude.{ℕ, ◌≤◌, List}
use Rattle.gob_types.specs.declared.id.TypeId.{TypeId}
use Rattle.gob_types.specs.Table.{Table}
use Rattle.gob_value.specs.Tidy.{Tidies}
use Rattle.gob_value.specs.Top.{SpellsTop}
use Rattle.gob_value.specs.Tree.{Tree, depth}

-- the bytes are a value of the type behind its tag, no deeper than the limit, and the others are its tidy form, behind
-- its own
pub record TidiesWhole (T : Table) (t : TypeId) (limit : ℕ) (bytes tidied : List ℕ) : Type 0 where
  pub value : Tree
  pub spelled : SpellsTop T t value bytes
  pub within : depth value ≤ limit
  pub form : Tree
  pub tidies : Tidies T t value form
  pub form_spelled : SpellsTop T t form tidied
