-- What each fault says of a description: the first of the four demands that it doesn't meet, or no memory.
-- (docs/FORMAT.md, Descriptions.)
use Rattle.gob_types.specs.declared.id.TypeId.{TypeId}
use Rattle.gob_types.specs.declared.kind.Kind.{Kind}
use Rattle.gob_types.specs.declared.kind.Shape.{Shape}
use Rattle.gob_types.specs.declared.reason.Reason.TheVariants as reason
use Rattle.gob_types.specs.declared.denial.Denial.{Denial}
use Rattle.gob_types.specs.declared.denial.Denial.TheVariants as denial
use Rattle.gob_value.specs.Tree.{Tree}
use Rattle.gob_value.specs.Description.{SaidKind, GivesKind, HasBadReference, HasBadLength, Describes, Misdescribes}
use Rattle.gob_value.specs.declared.fault.ShapeFault.{ShapeFault}
use Rattle.gob_value.specs.declared.fault.ShapeFault.TheVariants as fault

-- the value describes some shape, for the type of this id
pub record IsDescription (id : TypeId) (v : Tree) : Type 0 where
  pub shape : Shape
  pub describes : Describes id v shape

-- why no shape is given; out of memory is a fault of good descriptions alone
abbrev pub IsShapeFault : TypeId → Tree → ShapeFault → Type 0
IsShapeFault id v fault.KindCount = Misdescribes id v reason.KindCount
IsShapeFault id v fault.WrongId = Misdescribes id v reason.WrongId
IsShapeFault id v fault.BadReference = Misdescribes id v reason.BadReference
IsShapeFault id v fault.BadLength = Misdescribes id v reason.BadLength
IsShapeFault id v fault.Memory = IsDescription id v

-- why a description gives no shape
abbrev pub description_denial : ShapeFault → Denial
description_denial fault.KindCount = denial.Refused reason.KindCount
description_denial fault.WrongId = denial.Refused reason.WrongId
description_denial fault.BadReference = denial.Refused reason.BadReference
description_denial fault.BadLength = denial.Refused reason.BadLength
description_denial fault.Memory = denial.Memory

-- what is said is some kind
pub record IsKind (k : SaidKind) : Type 0 where
  pub kind : Kind
  pub gives : GivesKind k kind

-- the fault is that of what is said of the kind alone
abbrev pub IsKindFault : SaidKind → ShapeFault → Type 0
IsKindFault k fault.BadReference = HasBadReference k
IsKindFault k fault.BadLength = ¬ HasBadReference k × HasBadLength k
IsKindFault k fault.Memory = IsKind k
IsKindFault k _ = ⊥
