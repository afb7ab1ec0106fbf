-- How an item spells its value: a struct at once, any other value behind the tag 0.
-- (The comments of Go's encoding/gob doc.go with the grammar and the example; docs/FORMAT.md, Top-level values.)
use Rattle.std.specs.Prelude.{◌≡◌, ℕ, List, ◌∷◌, Some}
use Rattle.gob_types.specs.declared.id.TypeId.{TypeId}
use Rattle.gob_types.specs.declared.kind.Kind.{Kind}
use Rattle.gob_types.specs.declared.kind.Kind.TheVariants as kind
use Rattle.gob_types.specs.declared.kind.Shape.{Shape}
use Rattle.gob_types.specs.Table.{Table, shape_of}
use Rattle.gob_value.specs.Tree.{Tree}
use Rattle.gob_value.specs.Spelling.{Spells}

abbrev pub IsStruct : Kind → Type 0
IsStruct (kind.Struct fields) = Unit {0}
IsStruct _ = ⊥

pub data SpellsTop (T : Table) : TypeId → Tree → List ℕ → Type 0 where
  at_once : {t : TypeId} {s : Shape} {v : Tree} {b : List ℕ} → shape_of T t ≡ Some s → IsStruct s.kind → Spells T t v b
      → SpellsTop T t v b
  tagged : {t : TypeId} {s : Shape} {v : Tree} {b : List ℕ} → shape_of T t ≡ Some s → ¬ IsStruct s.kind → Spells T t v b
      → SpellsTop T t v (0 ∷ b)

-- the values of the type are structs
pub record HasStructs (T : Table) (t : TypeId) : Type 0 where
  pub shape : Shape
  pub found : shape_of T t ≡ Some shape
  pub struct : IsStruct shape.kind
