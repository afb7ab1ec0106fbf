-- The types that a stream has so far: a list of type ids with their shapes, in the order of their definitions.
-- (Go's encoding/gob documentation, Encoding Details, on type ids; docs/FORMAT.md, Types and the base table.)
use Rattle.std.specs.Prelude.{◌≡◌, ◌==◌, List, [], ◌∷◌, ◌++◌, Option, Some, None, if◌then◌else◌}
use Rattle.gob_types.specs.declared.id.TypeId.{TypeId}
use Rattle.gob_types.specs.declared.basic.Basic.{Basic}
use Rattle.gob_types.specs.declared.kind.Kind.{Kind}
use Rattle.gob_types.specs.declared.kind.Kind.TheVariants as kind
use Rattle.gob_types.specs.declared.kind.Shape.{Shape}

abbrev pub Table : Type 0
Table = List (TypeId × Shape)

-- the shape of a type id, where the table has one
abbrev pub shape_of : Table → TypeId → Option Shape
shape_of [] t = None
shape_of (entry ∷ T) t = if entry.0.0 == t.0 then Some entry.1 else shape_of T t

abbrev pub IsDefined : Table → TypeId → Type 0
IsDefined T t = (s : Shape) × (shape_of T t ≡ Some s)

-- the basic type that a kind is, if it is one
abbrev pub basic_kind : Kind → Option Basic
basic_kind (kind.Basic b) = Some b
basic_kind _ = None

-- the basic type that a shape is, if there is a shape and it is one
abbrev pub basic_shape : Option Shape → Option Basic
basic_shape None = None
basic_shape (Some s) = basic_kind s.kind

-- the basic type that a type id is in the table, if it is one
abbrev pub basic_of : Table → TypeId → Option Basic
basic_of T t = basic_shape (shape_of T t)

-- no id stands twice in the table
abbrev pub HasDistinctIds : Table → Type 0
HasDistinctIds [] = Unit {0}
HasDistinctIds (entry ∷ T) = (shape_of T entry.0 ≡ None) × HasDistinctIds T

-- the second table is the first with definitions behind it, each of a new id
pub record Extends (T U : Table) : Type 0 where
  pub more : Table
  pub grown : U ≡ T ++ more
  pub distinct : HasDistinctIds U
