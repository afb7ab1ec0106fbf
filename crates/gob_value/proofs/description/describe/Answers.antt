use Rattle.std.proofs.Common.{refl, inl, inr}
use Rattle.std.proofs.lemmas.Result.{IfOk-from_err}
use Rattle.gob_types.specs.declared.kind.Kind.TheVariants as kind
use Rattle.gob_value.specs.View.{view}
use Rattle.gob_value.proofs.DescribedLaws.{made_described, made_fits, no_count}
use Rattle.gob_value.proofs.description.describe.Goals as goal

pub array_type-requires-clause-elem : goal.array_type-requires-clause-elem
array_type-requires-clause-elem c = c.requires.references c.in-Array.elem (rw c.in-Array.is refl)

pub slice_type-requires : goal.slice_type-requires
slice_type-requires c = c.requires.references c.in-Slice.elem (rw c.in-Slice.is refl)

pub struct_type-requires : goal.struct_type-requires
struct_type-requires c = λ u h. c.requires.references u (rw c.in-Struct.is h)

pub map_type-requires-clause-key : goal.map_type-requires-clause-key
map_type-requires-clause-key c = c.requires.references c.in-Map.key (rw c.in-Map.is (inl refl))

pub map_type-requires-clause-elem : goal.map_type-requires-clause-elem
map_type-requires-clause-elem c = c.requires.references c.in-Map.elem (rw c.in-Map.is (inr refl))

pub returns-in-Array-clause-fits : goal.returns-in-Array-clause-fits
returns-in-Array-clause-fits c =
    made_fits c.args.id c.args.shape.now (kind.Array c.in-Array.elem c.in-Array.len) (view c.in_ok-common.common)
    c.array_type.result
    c.requires c.in_ok-common.ensures.counted c.in-Array.is c.in_ok-common.ensures.described
    (no_count c.array_type.result tt) c.array_type.ensures

pub returns-in-Slice-clause-fits : goal.returns-in-Slice-clause-fits
returns-in-Slice-clause-fits c =
    made_fits c.args.id c.args.shape.now (kind.Slice c.in-Slice.elem) (view c.in_ok-common.common) c.slice_type.result
    c.requires c.in_ok-common.ensures.counted c.in-Slice.is c.in_ok-common.ensures.described
    (no_count c.slice_type.result tt) c.slice_type.ensures

pub returns-in-Struct-clause-fits : goal.returns-in-Struct-clause-fits
returns-in-Struct-clause-fits c =
    made_fits c.args.id c.args.shape.now (kind.Struct c.in-Struct.fields) (view c.in_ok-common.common)
    c.struct_type.result
    c.requires c.in_ok-common.ensures.counted c.in-Struct.is c.in_ok-common.ensures.described
    c.struct_type.ensures.counted c.struct_type.ensures.described

pub returns-in-Map-clause-fits : goal.returns-in-Map-clause-fits
returns-in-Map-clause-fits c =
    made_fits c.args.id c.args.shape.now (kind.Map c.in-Map.key c.in-Map.elem) (view c.in_ok-common.common)
    c.map_type.result
    c.requires c.in_ok-common.ensures.counted c.in-Map.is c.in_ok-common.ensures.described
    (no_count c.map_type.result tt) c.map_type.ensures

pub returns-in-Opaque-clause-fits : goal.returns-in-Opaque-clause-fits
returns-in-Opaque-clause-fits c =
    made_fits c.args.id c.args.shape.now (kind.Opaque c.in-Opaque.marshal) (view c.in_ok-common.common)
    c.opaque_type.result
    c.requires c.in_ok-common.ensures.counted c.in-Opaque.is c.in_ok-common.ensures.described
    (no_count c.opaque_type.result tt) c.opaque_type.ensures

pub returns-in_err-common-clause-described : goal.returns-in_err-common-clause-described
returns-in_err-common-clause-described c = IfOk-from_err c.from_residual.result _ c.from_residual.ensures.0

pub returns-in_err-common-clause-fits : goal.returns-in_err-common-clause-fits
returns-in_err-common-clause-fits c = IfOk-from_err c.from_residual.result _ c.from_residual.ensures.0

pub returns-in-Array-clause-described : goal.returns-in-Array-clause-described
returns-in-Array-clause-described c =
    made_described c.args.id c.args.shape.now (kind.Array c.in-Array.elem c.in-Array.len) (view c.in_ok-common.common)
    c.array_type.result c.in-Array.is c.in_ok-common.ensures.described c.array_type.ensures

pub returns-in-Slice-clause-described : goal.returns-in-Slice-clause-described
returns-in-Slice-clause-described c =
    made_described c.args.id c.args.shape.now (kind.Slice c.in-Slice.elem) (view c.in_ok-common.common)
    c.slice_type.result c.in-Slice.is c.in_ok-common.ensures.described c.slice_type.ensures

pub returns-in-Struct-clause-described : goal.returns-in-Struct-clause-described
returns-in-Struct-clause-described c =
    made_described c.args.id c.args.shape.now (kind.Struct c.in-Struct.fields) (view c.in_ok-common.common)
    c.struct_type.result c.in-Struct.is c.in_ok-common.ensures.described c.struct_type.ensures.described

pub returns-in-Map-clause-described : goal.returns-in-Map-clause-described
returns-in-Map-clause-described c =
    made_described c.args.id c.args.shape.now (kind.Map c.in-Map.key c.in-Map.elem) (view c.in_ok-common.common)
    c.map_type.result c.in-Map.is c.in_ok-common.ensures.described c.map_type.ensures

pub returns-in-Opaque-clause-described : goal.returns-in-Opaque-clause-described
returns-in-Opaque-clause-described c =
    made_described c.args.id c.args.shape.now (kind.Opaque c.in-Opaque.marshal) (view c.in_ok-common.common)
    c.opaque_type.result c.in-Opaque.is c.in_ok-common.ensures.described c.opaque_type.ensures
