-- The types in which fields have the names that a stream has for them. (docs/LIBRARY.md, Matching and receiving: this
-- project's own.)
use Rattle.std.specs.Prelude.{ℕ, Bool, true, ◌&&◌, bytes_eq, List, [], ◌∷◌, ◌++◌, length, map, drop, Option, Some, None}
use Rattle.std.specs.Prelude.{if◌then◌else◌}
use Rattle.std.specs.Borrow.{Bor}
use Rattle.gob_types.specs.declared.id.TypeId.{TypeId}
use Rattle.gob_types.specs.declared.kind.Field.{Field}
use Rattle.gob_types.specs.declared.kind.Kind.{Kind}
use Rattle.gob_types.specs.declared.kind.Kind.TheVariants as kind
use Rattle.gob_types.specs.declared.kind.Shape.{Shape}
use Rattle.gob_types.specs.Base.{base_table}
use Rattle.gob_types.specs.Table.{Table}
use Rattle.gob_rename.specs.declared.rename.Rename.{Rename}

-- structs of this name are meant, where all are if none is named
abbrev pub is_meant : (of : Option (Bor (List ℕ))) → (struct : List ℕ) → Bool
is_meant None struct = true
is_meant (Some name) struct = bytes_eq name.now struct

-- it tells of the field of this name in structs of the other name
abbrev pub is_told : Rename → (struct field : List ℕ) → Bool
is_told r struct field = is_meant r.of struct && bytes_eq r.new.now field

-- the name of the field behind all of them, of which each speaks of the names that those before it leave
abbrev pub name_behind : List Rename → (struct field : List ℕ) → List ℕ
name_behind [] struct field = field
name_behind (r ∷ rs) struct field = name_behind rs struct (if is_told r struct field then r.old.now else field)

abbrev pub renamed_field : List Rename → (struct : List ℕ) → Field → Field
renamed_field rs struct field = record { name = name_behind rs struct field.name; id = field.id }

abbrev pub renamed_kind : List Rename → (struct : List ℕ) → Kind → Kind
renamed_kind rs struct (kind.Struct fields) = kind.Struct (map (λ field. renamed_field rs struct field) fields)
renamed_kind rs struct k = k

abbrev pub renamed_shape : List Rename → Shape → Shape
renamed_shape rs s = record { name = s.name; kind = renamed_kind rs s.name s.kind }

abbrev pub renamed_entry : List Rename → TypeId × Shape → TypeId × Shape
renamed_entry rs entry = (entry.0, renamed_shape rs entry.1)

-- what a stream has defined, behind the base table
abbrev pub definitions_of : Table → Table
definitions_of T = drop (length base_table) T

abbrev pub ids_defined : Table → List TypeId
ids_defined T = map (λ entry. entry.0) (definitions_of T)

-- the types, with the fields of the structs that the stream has defined renamed
abbrev pub renamed : List Rename → Table → Table
renamed rs T = base_table ++ map (λ entry. renamed_entry rs entry) (definitions_of T)
