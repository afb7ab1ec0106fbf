-- Descriptions read loosely: one of an opaque kind may say an id above the one that is defined, and the type has the
-- defined one. Go's encoder writes such a description of a type that encodes itself and that it first met through a
-- pointer: the pointer then has an id of its own, which the description says.
-- (docs/FORMAT.md, Ids of pointers to types that encode themselves.)
use Rattle.std.specs.Prelude.{◌≡◌, ◌<◌, ◌≤◌, ◌⊎◌}
use Rattle.gob_types.specs.declared.id.TypeId.{TypeId}
use Rattle.gob_types.specs.declared.kind.Kind.{Kind}
use Rattle.gob_types.specs.declared.kind.Kind.TheVariants as kind
use Rattle.gob_types.specs.declared.kind.Shape.{Shape}
use Rattle.gob_value.specs.Tree.{Tree}
use Rattle.gob_value.specs.Description.{Describes}
use Rattle.gob_value.specs.ShapeFaults.{IsShapeFault}
use Rattle.gob_value.specs.declared.fault.ShapeFault.{ShapeFault}
use Rattle.gob_value.specs.declared.fault.ShapeFault.TheVariants as fault

abbrev pub IsOpaque : Kind → Type 0
IsOpaque (kind.Opaque m) = Unit {0}
IsOpaque _ = ⊥

-- an id above this one
abbrev pub IsHigherId : TypeId → TypeId → Type 0
IsHigherId id other = (id.0 < other.0) × (other.0 ≤ 2147483647)

-- the value describes the shape, under the id or, where the shape is opaque, under a higher one
pub record DescribesLoosely (id : TypeId) (v : Tree) (s : Shape) : Type 0 where
  pub said : TypeId
  pub describes : Describes said v s
  pub allowed : (said ≡ id) ⊎ (IsHigherId id said × IsOpaque s.kind)

-- the value describes some shape, read loosely
pub record IsLooseDescription (id : TypeId) (v : Tree) : Type 0 where
  pub shape : Shape
  pub describes : DescribesLoosely id v shape

-- why no shape is given: the fault of the strict reading, where the value describes none loosely either
abbrev pub IsLooseFault : TypeId → Tree → ShapeFault → Type 0
IsLooseFault id v fault.Memory = IsLooseDescription id v
IsLooseFault id v f = IsShapeFault id v f × ¬ IsLooseDescription id v
