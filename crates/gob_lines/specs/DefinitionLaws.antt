-- What the lines of definitions tell. (docs/FORMAT.md, The JSON lines.)
use Rattle.std.specs.Prelude.{◌≡◌, ◌^◌, ◌<◌, ℕ, List, codes}
use Rattle.json.specs.Token.{Token}
use Rattle.serde_json.specs.Data.{Data, Members, member, object}
use Rattle.gob_types.specs.declared.id.TypeId.{TypeId}
use Rattle.gob_types.specs.declared.kind.Shape.{Shape}
use Rattle.gob_types.specs.Definable.{IsDefinable}
use Rattle.gob_value.specs.Bytes.{HoldsBytes}
use Rattle.gob_value.specs.Described.{described}
use Rattle.gob_lines.specs.Definition.{IsDefinitionJson}
use Rattle.gob_lines.specs.Numbers.{ReadsSome}

-- a shape that a description of bytes can give, and an id of 64 bits
pub record IsDescribed (id : TypeId) (s : Shape) : Type 0 where
  pub definable : IsDefinable s
  pub bytes : HoldsBytes (described id s)
  pub small : id.0 < 2 ^ 64

-- the JSON of a definition tells the type, its shape, and where it ends, whatever stands behind it
abbrev pub DefinitionLinesTellTheShape : Type 0
DefinitionLinesTellTheShape = (i j : TypeId) (s t : Shape) (all x y : List Token) → IsDescribed i s → IsDescribed j t
    → ReadsSome (IsDefinitionJson i s) all x → ReadsSome (IsDefinitionJson j t) all y → (i ≡ j) × (s ≡ t) × (x ≡ y)

-- the members in another order: some two neighbours have changed their places, one pair behind another
pub data IsRearranged : Members → Members → Type 0 where
  unmoved : {ms : Members} → IsRearranged ms ms
  swapped : {k l : List ℕ} {d e : Data} {ms : Members}
      → IsRearranged (member k d (member l e ms)) (member l e (member k d ms))
  behind_one : {k : List ℕ} {d : Data} {ms ns : Members} → IsRearranged ms ns
      → IsRearranged (member k d ms) (member k d ns)
  again : {ms ns os : Members} → IsRearranged ms ns → IsRearranged ns os → IsRearranged ms os

-- the members behind the id say a shape in any order
abbrev pub DefinitionsStandInAnyOrder : Type 0
DefinitionsStandInAnyOrder = (id : TypeId) (s : Shape) (number : Data) (ms ns : Members) → IsRearranged ms ns
    → IsDefinitionJson id s (object (member (codes "define") number ms))
    → IsDefinitionJson id s (object (member (codes "define") number ns))
