use Rattle.std.proofs.Common.{rules}
use Rattle.gob_join.proofs.FieldLaws.{array_kinds, basic_kinds, fields_at, map_kinds, opaque_kinds, slice_kinds}
use Rattle.gob_join.proofs.FieldLaws.{struct_kinds}
use Rattle.gob_join.proofs.shape.is_renamed_kind.Goals as goal

pub returns-in-Basic-Basic : goal.returns-in-Basic-Basic
returns-in-Basic-Basic g c = λ t. basic_kinds c.in-Basic-Basic.is-0 c.in-Basic-Basic.is-1 (search (rules))

pub returns-then-len-count : goal.returns-then-len-count
returns-then-len-count g c = λ t.
    array_kinds c.in-Array-Array.is-0 c.in-Array-Array.is-1 c.if-len-count.true (c.stands_for.ensures t)

pub returns-in-Slice-Slice : goal.returns-in-Slice-Slice
returns-in-Slice-Slice g c = λ t.
    slice_kinds c.in-Slice-Slice.is-0 c.in-Slice-Slice.is-1 (c.stands_for-in-Slice-Slice.ensures t)

pub returns-in-Struct-Struct : goal.returns-in-Struct-Struct
returns-in-Struct-Struct g c = λ t. struct_kinds c.in-Struct-Struct.is-0 c.in-Struct-Struct.is-1
    (fields_at c.as_slice.ensures c.as_slice-in-Struct-Struct.ensures (c.are_renamed.ensures t))

pub returns-in-Opaque-Opaque : goal.returns-in-Opaque-Opaque
returns-in-Opaque-Opaque g c = λ t. opaque_kinds c.in-Opaque-Opaque.is-0 c.in-Opaque-Opaque.is-1 (search (rules))

pub returns-then-stands_for : goal.returns-then-stands_for
returns-then-stands_for g c = λ t.
    map_kinds c.in-Map-Map.is-0 c.in-Map-Map.is-1 (c.stands_for-in-Map-Map.ensures c.if-stands_for.true)
    (c.stands_for-then-stands_for.ensures t)
