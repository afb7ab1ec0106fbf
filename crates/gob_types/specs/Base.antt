-- The types that each stream has before its first definition: the basic types, and the types of descriptions.
-- The ids 1 to 8 and 16 to 23 and all fields are those of Go's encoding/gob documentation, Encoding Details; it gives
-- gobEncoderType no number, and 24 is this project's own. (docs/FORMAT.md, Types and the base table.)
use Rattle.std.specs.Prelude.{ℕ, List, [], ◌∷◌, codes}
use Rattle.gob_types.specs.declared.id.TypeId.{TypeId}
use Rattle.gob_types.specs.declared.basic.Basic.TheVariants as basic
use Rattle.gob_types.specs.declared.kind.Field.{Field}
use Rattle.gob_types.specs.declared.kind.Kind.{Kind}
use Rattle.gob_types.specs.declared.kind.Kind.TheVariants as kind
use Rattle.gob_types.specs.declared.kind.Shape.{Shape}
use Rattle.gob_types.specs.Table.{Table}

abbrev pub id : ℕ → TypeId
id n = record { 0 = n }

abbrev pub field : List ℕ → ℕ → Field
field name type = record { name = name; id = id type }

-- an entry of the table
abbrev pub entry : ℕ → List ℕ → Kind → TypeId × Shape
entry n name k = (id n, record { name = name; kind = k })

abbrev pub wire_type : TypeId
wire_type = id 16

-- its own id, and no reference or value item may name it
abbrev pub gob_encoder_type : TypeId
gob_encoder_type = id 24

-- the fields of wireType: the one that is present tells the kind
abbrev pub wire_type_fields : List Field
wire_type_fields = field (codes "ArrayT") 17 ∷ field (codes "SliceT") 19 ∷ field (codes "StructT") 20 ∷ field
    (codes "MapT") 23 ∷ field (codes "GobEncoderT") 24 ∷ field (codes "BinaryMarshalerT") 24 ∷ field
    (codes "TextMarshalerT") 24 ∷ []

abbrev pub base_table : Table
base_table =
    entry 1 (codes "bool") (kind.Basic basic.Bool)
    ∷ entry 2 (codes "int") (kind.Basic basic.Int)
    ∷ entry 3 (codes "uint") (kind.Basic basic.Uint)
    ∷ entry 4 (codes "float") (kind.Basic basic.Float)
    ∷ entry 5 (codes "[]byte") (kind.Basic basic.Bytes)
    ∷ entry 6 (codes "string") (kind.Basic basic.Str)
    ∷ entry 7 (codes "complex") (kind.Basic basic.Complex)
    ∷ entry 8 (codes "interface") (kind.Basic basic.Interface)
    ∷ entry 16 (codes "wireType") (kind.Struct wire_type_fields)
    ∷ entry 17 (codes "arrayType") (kind.Struct (field (codes "CommonType") 18 ∷ field (codes "Elem") 2 ∷ field
    (codes "Len") 2 ∷ []))
    ∷ entry 18 (codes "CommonType") (kind.Struct (field (codes "Name") 6 ∷ field (codes "Id") 2 ∷ []))
    ∷ entry 19 (codes "sliceType") (kind.Struct (field (codes "CommonType") 18 ∷ field (codes "Elem") 2 ∷ []))
    ∷ entry 20 (codes "structType") (kind.Struct (field (codes "CommonType") 18 ∷ field (codes "Field") 22 ∷ []))
    ∷ entry 21 (codes "fieldType") (kind.Struct (field (codes "Name") 6 ∷ field (codes "Id") 2 ∷ []))
    ∷ entry 22 [] (kind.Slice (id 21))
    ∷ entry 23 (codes "mapType") (kind.Struct (field (codes "CommonType") 18 ∷ field (codes "Key") 2 ∷ field
    (codes "Elem") 2 ∷ []))
    ∷ entry 24 (codes "gobEncoderType") (kind.Struct (field (codes "CommonType") 18 ∷ []))
    ∷ []
