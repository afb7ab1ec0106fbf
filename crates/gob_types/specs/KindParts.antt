-- What a kind names: the types of elements and of keys, and fields. (docs/FORMAT.md, Types and the base table.)
use Rattle.std.specs.Prelude.{List, Option, Some, None}
use Rattle.gob_types.specs.declared.id.TypeId.{TypeId}
use Rattle.gob_types.specs.declared.kind.Field.{Field}
use Rattle.gob_types.specs.declared.kind.Kind.{Kind}
use Rattle.gob_types.specs.declared.kind.Kind.TheVariants as kind

-- the type of the elements of an array, a slice or a map
abbrev pub elem_named : Kind → Option TypeId
elem_named (kind.Array e n) = Some e
elem_named (kind.Slice e) = Some e
elem_named (kind.Map k e) = Some e
elem_named _ = None

-- the type of the keys of a map
abbrev pub key_named : Kind → Option TypeId
key_named (kind.Map k e) = Some k
key_named _ = None

-- the fields of a struct
abbrev pub fields_named : Kind → Option (List Field)
fields_named (kind.Struct fs) = Some fs
fields_named _ = None
