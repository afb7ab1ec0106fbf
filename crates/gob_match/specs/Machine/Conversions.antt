-- What becomes of a value of two kinds that match, and the pairs of types that it leads to.
use Rattle.std.specs.Global.{Global}
use Rattle.std.specs.Prelude.{◌≡◌, ◌⊎◌, ℕ, List, Some, slice_get, Vec}
use Rattle.gob_types.specs.declared.basic.Basic.{Basic}
use Rattle.gob_types.specs.declared.id.TypeId.{TypeId}
use Rattle.gob_types.specs.declared.kind.Field.{Field}
use Rattle.gob_types.specs.declared.kind.Kind.{Kind}
use Rattle.gob_types.specs.declared.kind.Kind.TheVariants as kind
use Rattle.gob_types.specs.declared.kind.Marshal.{Marshal}
use Rattle.gob_match.specs.declared.common.CommonField.{CommonField}
use Rattle.gob_match.specs.declared.conversion.Conversion.{Conversion}
use Rattle.gob_match.specs.declared.conversion.Conversion.TheVariants as conversion
use Rattle.gob_match.specs.declared.pair.TypePair.{TypePair}
use Rattle.gob_match.specs.declared.step.TypeStep.{TypeStep}
use Rattle.gob_match.specs.declared.step.TypeStep.TheVariants as step
use Rattle.gob_match.specs.Machine.Struct.{AreCommonFields}
use Rattle.gob_match.specs.Pairs.{of_types}

-- it is the conversion of two kinds
pub data IsConversion : Kind → Kind → Conversion → Type 0 where
  of_basics : {b c : Basic} → IsConversion (kind.Basic b) (kind.Basic c) conversion.Unchanged
  of_opaques : {m n : Marshal} → IsConversion (kind.Opaque m) (kind.Opaque n) conversion.Unchanged
  of_arrays : {e f : TypeId} {m n : ℕ}
      → IsConversion (kind.Array e m) (kind.Array f n) (conversion.Elements (of_types e f))
  of_slices : {e f : TypeId} → IsConversion (kind.Slice e) (kind.Slice f) (conversion.Elements (of_types e f))
  of_maps : {k l e f : TypeId}
      → IsConversion (kind.Map k e) (kind.Map l f) (conversion.Entries (of_types k l) (of_types e f))
  of_structs : {fs gs : List Field} {cs : Vec CommonField Global} → AreCommonFields fs 0 gs cs.items
      → IsConversion (kind.Struct fs) (kind.Struct gs) (conversion.Fields cs)

-- one of these fields has this step and this pair
pub record HasCommon (cs : List CommonField) (s : TypeStep) (q : TypePair) : Type 0 where
  pub place : ℕ
  pub field : CommonField
  pub there : slice_get cs place ≡ Some field
  pub step : s ≡ step.Named field.name
  pub pair : q ≡ field.pair

-- the conversion leads to this pair, by this step
abbrev pub ConversionNames : Conversion → TypeStep → TypePair → Type 0
ConversionNames conversion.Unchanged s q = ⊥
ConversionNames (conversion.Elements p) s q = (s ≡ step.Element) × (q ≡ p)
ConversionNames (conversion.Entries k e) s q = ((s ≡ step.Key) × (q ≡ k)) ⊎ ((s ≡ step.Element) × (q ≡ e))
ConversionNames (conversion.Fields cs) s q = HasCommon cs.items s q
