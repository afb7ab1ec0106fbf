-- Byte strings and spellings are lists of naturals in the definitions, where a stream and a vector have bytes, which
-- are numbers below 256. (docs/FORMAT.md, Values.)
use Rattle.std.specs.Prelude.{◌↔◌, ℕ, List}
use Rattle.gob_num.specs.Unsigned.{AreBytes}
use Rattle.gob_types.specs.declared.id.TypeId.{TypeId}
use Rattle.gob_types.specs.Table.{Table}
use Rattle.gob_value.specs.Tree.{Tree, Trees, no_tree, tree, Pairs, no_pair, pair, Fields, no_field, field}
use Rattle.gob_value.specs.Tree as Value
use Rattle.gob_value.specs.Laws.{Spelling}

-- the byte strings in the value consist of bytes
abbrev mutual
  pub HoldsBytes : Tree → Type 0
  HoldsBytes (Value.bytes s) = AreBytes s
  HoldsBytes (Value.text s) = AreBytes s
  HoldsBytes (Value.opaque s) = AreBytes s
  HoldsBytes (Value.many vs) = AllHoldBytes vs
  HoldsBytes (Value.pairs ps) = PairsHoldBytes ps
  HoldsBytes (Value.fields fs) = FieldsHoldBytes fs
  HoldsBytes _ = Unit {0}

  pub AllHoldBytes : Trees → Type 0
  AllHoldBytes no_tree = Unit {0}
  AllHoldBytes (tree v vs) = HoldsBytes v × AllHoldBytes vs

  pub PairsHoldBytes : Pairs → Type 0
  PairsHoldBytes no_pair = Unit {0}
  PairsHoldBytes (pair k e ps) = HoldsBytes k × HoldsBytes e × PairsHoldBytes ps

  pub FieldsHoldBytes : Fields → Type 0
  FieldsHoldBytes no_field = Unit {0}
  FieldsHoldBytes (field f v fs) = HoldsBytes v × FieldsHoldBytes fs

-- a spelling consists of bytes exactly where the byte strings in its value do
abbrev pub ConsistOfBytes : Spelling → Type 0
ConsistOfBytes S = (T : Table) (t : TypeId) (v : Tree) (b : List ℕ) → S T t v b → AreBytes b ↔ HoldsBytes v
