-- What a description says, by the field of wireType that it has. (docs/FORMAT.md, Descriptions.)
use Rattle.std.specs.Prelude.{ℕ, ℤ, List, [], ◌∷◌}
use Rattle.gob_types.specs.declared.id.TypeId.{TypeId}
use Rattle.gob_types.specs.declared.kind.Marshal.TheVariants as marshal
use Rattle.gob_value.specs.Tree.{Fields}
use Rattle.gob_value.specs.Description.{Said, SaidKind, said_array, said_slice, said_struct, said_map, said_opaque}
use Rattle.gob_value.specs.Description.{SaidField, said_fields, present_field, number_in, name_in, fields_in}
use Rattle.gob_value.specs.Description.{elements_in}
use Rattle.gob_value.specs.Description.{RefersTo}
use Rattle.gob_value.specs.declared.described_shape.WireField.{WireField}
use Rattle.gob_value.specs.declared.described_shape.WireField.TheVariants as wire

-- the kind that the field's fields say
abbrev pub kind_said : WireField → Fields → SaidKind
kind_said wire.ArrayT fs = said_array (number_in (present_field 1 fs)) (number_in (present_field 2 fs))
kind_said wire.SliceT fs = said_slice (number_in (present_field 1 fs))
kind_said wire.StructT fs = said_struct (said_fields (elements_in (present_field 1 fs)))
kind_said wire.MapT fs = said_map (number_in (present_field 1 fs)) (number_in (present_field 2 fs))
kind_said wire.GobEncoderT fs = said_opaque marshal.Gob
kind_said wire.BinaryMarshalerT fs = said_opaque marshal.Binary
kind_said wire.TextMarshalerT fs = said_opaque marshal.Text

-- the number of the field
abbrev pub wire_number : WireField → ℕ
wire_number wire.ArrayT = 0
wire_number wire.SliceT = 1
wire_number wire.StructT = 2
wire_number wire.MapT = 3
wire_number wire.GobEncoderT = 4
wire_number wire.BinaryMarshalerT = 5
wire_number wire.TextMarshalerT = 6

-- all that is said: the CommonType is field 0 of each
abbrev pub what_said : WireField → Fields → Said
what_said w fs =
    let common = fields_in (present_field 0 fs) in
    record { name = name_in (present_field 0 common); id = number_in (present_field 1 common); kind = kind_said w fs }

-- the number refers to some type
pub record IsTypeNumber (i : ℤ) : Type 0 where
  pub type : TypeId
  pub refers : RefersTo i type

-- each of the fields does
pub data HaveTypes : List SaidField → Type 0 where
  no_type : HaveTypes []
  and_type : {f : SaidField} {fs : List SaidField} → IsTypeNumber f.id → HaveTypes fs → HaveTypes (f ∷ fs)
