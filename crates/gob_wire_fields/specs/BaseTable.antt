-- The base table as it was while wireType had five fields, before those of the types that marshal themselves as
-- binary or as text. (Go's encoding/gob documentation, Encoding Details, before it had these two.)
use Rattle.std.specs.Prelude.{List, [], ◌∷◌, ◌++◌, codes, take, drop}
use Rattle.gob_types.specs.declared.kind.Field.{Field}
use Rattle.gob_types.specs.declared.kind.Kind.TheVariants as kind
use Rattle.gob_types.specs.Table.{Table}
use Rattle.gob_types.specs.Base.{field, entry, base_table}

abbrev pub earlier_wire_type_fields : List Field
earlier_wire_type_fields = field (codes "ArrayT") 17 ∷ field (codes "SliceT") 19 ∷ field (codes "StructT") 20 ∷ field
    (codes "MapT") 23 ∷ field (codes "GobEncoderT") 24 ∷ []

-- wireType stands behind the eight basic types
abbrev pub earlier_base_table : Table
earlier_base_table = take 8 base_table ++ entry 16 (codes "wireType") (kind.Struct earlier_wire_type_fields) ∷ drop 9
    base_table
