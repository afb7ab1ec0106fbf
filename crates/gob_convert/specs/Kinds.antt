-- What the values of a type are, without the types of their parts.
use Rattle.gob_types.specs.declared.kind.Kind.{Kind}
use Rattle.gob_types.specs.declared.kind.Kind.TheVariants as kind
use Rattle.gob_convert.specs.declared.clash.ValueKind.{ValueKind}
use Rattle.gob_convert.specs.declared.clash.ValueKind.TheVariants as value

abbrev pub value_kind : Kind → ValueKind
value_kind (kind.Basic b) = value.Basic b
value_kind (kind.Array e n) = value.Array n
value_kind (kind.Slice e) = value.Slice
value_kind (kind.Struct fs) = value.Struct
value_kind (kind.Map k e) = value.Map
value_kind (kind.Opaque m) = value.Opaque m
