use Rattle.std.proofs.Common.{refl}
use Rattle.gob_join.proofs.FieldLaws.{array_kinds, basic_kinds, fields_at, map_kinds, opaque_kinds, slice_kinds}
use Rattle.gob_join.proofs.FieldLaws.{struct_kinds}
use Rattle.gob_join.proofs.shape.renamed_kind.Goals as goal

pub returns-in-Basic : goal.returns-in-Basic
returns-in-Basic c = basic_kinds c.in-Basic.is refl refl

pub returns-in_ok-elem-in-Array : goal.returns-in_ok-elem-in-Array
returns-in_ok-elem-in-Array c = array_kinds c.in-Array.is refl refl c.in_ok-elem-in-Array.ensures

pub returns-in_ok-elem-in-Slice : goal.returns-in_ok-elem-in-Slice
returns-in_ok-elem-in-Slice c = slice_kinds c.in-Slice.is refl c.in_ok-elem-in-Slice.ensures

pub returns-in-Opaque : goal.returns-in-Opaque
returns-in-Opaque c = opaque_kinds c.in-Opaque.is refl refl

pub returns-in_ok-fields-in-Struct : goal.returns-in_ok-fields-in-Struct
returns-in_ok-fields-in-Struct c =
    struct_kinds c.in-Struct.is refl (fields_at c.as_slice.ensures refl c.in_ok-fields-in-Struct.ensures)

pub returns-in_ok-elem-in-Map : goal.returns-in_ok-elem-in-Map
returns-in_ok-elem-in-Map c =
    map_kinds c.in-Map.is refl c.in_ok-key-in-Map.ensures c.in_ok-elem-in-Map.ensures
