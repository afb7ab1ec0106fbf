-- Which parts the values of two kinds have that are received under a pair of types of their own.
use Rattle.std.specs.Prelude.{ℕ, List, ◌≡◌}
use Rattle.gob_types.specs.declared.basic.Basic.{Basic}
use Rattle.gob_types.specs.declared.id.TypeId.{TypeId}
use Rattle.gob_types.specs.declared.kind.Field.{Field}
use Rattle.gob_types.specs.declared.kind.Kind.{Kind}
use Rattle.gob_types.specs.declared.kind.Kind.TheVariants as kind
use Rattle.gob_types.specs.declared.kind.Marshal.{Marshal}
use Rattle.gob_types.specs.declared.kind.Shape.{Shape}
use Rattle.gob_types.specs.Table.{Table}
use Rattle.gob_match.specs.declared.pair.TypePair.{TypePair}
use Rattle.gob_match.specs.Matching.{HasShapes, KindsMatch}
use Rattle.gob_match.specs.Pairs.{of_types}
use Rattle.gob_left_out.specs.declared.kinds.Parts.{Parts}
use Rattle.gob_left_out.specs.declared.kinds.Parts.TheVariants as parts
use Rattle.gob_left_out.specs.declared.kinds.StructPair.{StructPair}

pub data KindParts : Kind → Kind → Parts → Type 0 where
  of_basics : {b c : Basic} → KindParts (kind.Basic b) (kind.Basic c) parts.Nothing
  of_opaques : {m n : Marshal} → KindParts (kind.Opaque m) (kind.Opaque n) parts.Nothing
  of_arrays : {e f : TypeId} {m n : ℕ} → KindParts (kind.Array e m) (kind.Array f n) (parts.Elements (of_types e f))
  of_slices : {e f : TypeId} → KindParts (kind.Slice e) (kind.Slice f) (parts.Elements (of_types e f))
  of_maps : {k l e f : TypeId}
      → KindParts (kind.Map k e) (kind.Map l f) (parts.Entries (of_types k l) (of_types e f))
  of_structs : {types wanted : List Field} {structs : StructPair} → structs.stream.now ≡ types
      → structs.wanted.now ≡ wanted → KindParts (kind.Struct types) (kind.Struct wanted) (parts.Fields structs)

-- the parts of values of the pair's types, whose shapes match
pub record PairParts (T U : Table) (p : TypePair) (given : Parts) : Type 0 where
  pub stream : Shape
  pub wanted : Shape
  pub shapes : HasShapes T U p stream wanted
  pub match : KindsMatch stream.kind wanted.kind
  pub parts : KindParts stream.kind wanted.kind given
