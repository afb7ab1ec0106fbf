-- What each step of taking in an item has written, and which ids stand for which then. For private clauses.
use Rattle.std.specs.Prelude.{◌≡◌, ℕ, List, [], ◌∷◌, Some}
use Rattle.gob_types.specs.declared.id.TypeId.{TypeId}
use Rattle.gob_types.specs.declared.kind.Shape.{Shape}
use Rattle.gob_types.specs.Table.{Table, shape_of}
use Rattle.gob_value.specs.Tree.{Tree}
use Rattle.gob_filled.specs.Filled as spelled
use Rattle.gob_filled.specs.Stream.{FilledItem, defining, putting}
use Rattle.gob_go.specs.Meaning.{IsFilled}
use Rattle.gob_go.specs.declared.filled.Filled.{Filled}
use Rattle.gob_go_writer.specs.Calls.Writer.{types_of}
use Rattle.gob_go_writer.specs.declared.writer.GoWriter.{GoWriter}
use Rattle.gob_join.specs.Renaming.{Extends, IsRenamedItem, IsRenaming, NewId, StandsFor, values_of}
use Rattle.gob_join.specs.Taking.{WritesOn}

-- the definition of a type with the shape
pub record PutsShape (w w' : GoWriter) (items : List FilledItem) (bytes old new : List ℕ) (id : TypeId) (s : Shape) :
    Type 0 where
  pub description : Tree
  pub on : WritesOn w w' items bytes old new (defining id description ∷ [])
  pub stands : shape_of (types_of w') id ≡ Some s

-- some id stands for the type, with its shape
abbrev pub Stands : NewId → (T U : Table) → TypeId → Type 0
Stands R T U t = (u : TypeId) × (R t ≡ Some u) × StandsFor R T U t u

-- definitions, behind which an id stands for each type of which this holds
pub record Defines (w w' : GoWriter) (items : List FilledItem) (bytes old new : List ℕ) (T : Table) (R : NewId)
    (Is : TypeId → Type 0) : Type 0 where
  pub more : List FilledItem
  pub on : WritesOn w w' items bytes old new more
  pub plain : values_of more ≡ []
  pub each : (t : TypeId) → Is t → Stands R T (types_of w') t

-- definitions, behind which each id that stands for another has its shape
pub record Settles (w w' : GoWriter) (items : List FilledItem) (bytes old new : List ℕ) (T : Table) (R R' : NewId) :
    Type 0 where
  pub more : List FilledItem
  pub on : WritesOn w w' items bytes old new more
  pub plain : values_of more ≡ []
  pub renaming : IsRenaming R' T (types_of w')
  pub extends : Extends R R'

-- a value, renamed
pub record PutsRenamed (w w' : GoWriter) (items : List FilledItem) (bytes old new : List ℕ) (R : NewId)
    (i : FilledItem) : Type 0 where
  pub made : FilledItem
  pub on : WritesOn w w' items bytes old new (made ∷ [])
  pub renamed : IsRenamedItem R i made

abbrev pub TakesValue : (w w' : GoWriter) → List FilledItem → (bytes old new : List ℕ) → NewId → TypeId → Filled
    → Type 0
TakesValue w w' items bytes old new R id kept = (T : Table) (v : spelled.Filled) → IsRenaming R T (types_of w)
    → IsFilled T id kept v → PutsRenamed w w' items bytes old new R (putting id v)
