-- The types of a value's parts, by the shape that its type has in a table. Where the table has no such shape, which no
-- value that fits its type meets, the type counts as 0, which is none, and the name as empty.
use Rattle.std.specs.Prelude.{ℕ, List, [], Option, Some, None}
use Rattle.std.specs.Option.{unwrap_or}
use Rattle.gob_types.specs.declared.id.TypeId.{TypeId}
use Rattle.gob_types.specs.declared.kind.Field.{Field}
use Rattle.gob_types.specs.declared.kind.Shape.{Shape}
use Rattle.gob_types.specs.KindParts.{elem_named, key_named, fields_named}

-- the number of no type
abbrev pub no_type : TypeId
no_type = record { 0 = 0 }

-- the type of the elements of a slice, an array or a map
abbrev pub element_type : Option Shape → TypeId
element_type None = no_type
element_type (Some s) = unwrap_or (elem_named s.kind) no_type

-- the type of the keys of a map
abbrev pub key_type : Option Shape → TypeId
key_type None = no_type
key_type (Some s) = unwrap_or (key_named s.kind) no_type

-- the fields of a struct
abbrev pub struct_fields : Option Shape → List Field
struct_fields None = []
struct_fields (Some s) = unwrap_or (fields_named s.kind) []

abbrev pub field_name : Option Field → List ℕ
field_name None = []
field_name (Some f) = f.name

abbrev pub field_type : Option Field → TypeId
field_type None = no_type
field_type (Some f) = f.id
