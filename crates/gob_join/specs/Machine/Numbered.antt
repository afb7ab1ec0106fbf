-- Which ids stand for others once some types are numbered. For private clauses.
use Rattle.std.specs.Prelude.{◌≡◌, ◌⊎◌, List, Some, Contains}
use Rattle.gob_types.specs.declared.id.TypeId.{TypeId}
use Rattle.gob_join.specs.Renaming.{Extends, NewId}

-- what stood stands, and more ids stand for some of these types
pub record NumbersSome (ids : List TypeId) (old now : NewId) : Type 0 where
  pub extends : Extends old now
  pub only : (t u : TypeId) → now t ≡ Some u → (old t ≡ Some u) ⊎ Contains ids t
