-- Which ids a stream defines, and which shapes it gives them. (docs/FORMAT.md, Items and streams; Descriptions.)
use Rattle.std.specs.Prelude.{◌≢◌, ℕ, ◌≤◌}
use Rattle.gob_types.specs.declared.id.TypeId.{TypeId}
use Rattle.gob_types.specs.declared.kind.Kind.{Kind}
use Rattle.gob_types.specs.declared.kind.Kind.TheVariants as kind
use Rattle.gob_types.specs.declared.kind.Shape.{Shape}
use Rattle.gob_types.specs.Base.{gob_encoder_type}
use Rattle.gob_types.specs.Ready.{Names}

-- an id that a definition may give
abbrev pub IsOwnId : TypeId → Type 0
IsOwnId t = (64 ≤ t.0) × (t.0 ≤ 2147483647)

-- an id that a description may refer to
abbrev pub IsReference : TypeId → Type 0
IsReference t = (1 ≤ t.0) × (t.0 ≤ 2147483647) × (t ≢ gob_encoder_type)

-- the greatest length of an array
abbrev pub greatest_length : ℕ
greatest_length = 9223372036854775807

-- what isn't basic, and has a length that a signed number holds
abbrev pub HasLength : Kind → Type 0
HasLength (kind.Basic b) = ⊥
HasLength (kind.Array e n) = n ≤ greatest_length
HasLength _ = Unit {0}

-- a shape that a description can give
pub record IsDefinable (s : Shape) : Type 0 where
  pub length : HasLength s.kind
  pub references : (u : TypeId) → Names s.kind u → IsReference u
