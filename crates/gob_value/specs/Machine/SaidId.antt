-- The id under which a description is read loosely: where its kind is opaque, the one that it says, if that is above
-- the one that is defined.
use Rattle.std.specs.Prelude.{◌≡◌, pos, Some}
use Rattle.gob_types.specs.declared.id.TypeId.{TypeId}
use Rattle.gob_value.specs.Tree.{Tree}
use Rattle.gob_value.specs.Description.{Said, said, SaidKind, said_opaque}
use Rattle.gob_value.specs.Loose.{IsHigherId}
use Rattle.gob_value.specs.declared.described_shape.WireField.{WireField}
use Rattle.gob_value.specs.declared.described_shape.WireField.TheVariants as wire

abbrev pub IsOpaqueSaid : SaidKind → Type 0
IsOpaqueSaid (said_opaque m) = Unit {0}
IsOpaqueSaid _ = ⊥

-- the field of wireType tells an opaque kind
abbrev pub IsOpaqueField : WireField → Type 0
IsOpaqueField wire.GobEncoderT = Unit {0}
IsOpaqueField wire.BinaryMarshalerT = Unit {0}
IsOpaqueField wire.TextMarshalerT = Unit {0}
IsOpaqueField _ = ⊥

-- the value says another id, above this one, of an opaque kind
pub record SaysAbove (id other : TypeId) (v : Tree) : Type 0 where
  pub what : Said
  pub says : said v ≡ Some what
  pub other_id : what.id ≡ pos other.0
  pub above : IsHigherId id other
  pub opaque : IsOpaqueSaid what.kind

-- the value is read under the last id
pub data IsReadUnder (id : TypeId) (v : Tree) : TypeId → Type 0 where
  as_defined : ((other : TypeId) → ¬ SaysAbove id other v) → IsReadUnder id v id
  as_said : {other : TypeId} → SaysAbove id other v → IsReadUnder id v other
