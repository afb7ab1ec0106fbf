-- What is answered when it is asked whether a type is ready. (docs/FORMAT.md, Readiness; Refusals.)
use Rattle.std.specs.Prelude.{◌≡◌, ◌≤◌, None}
use Rattle.gob_types.specs.declared.id.TypeId.{TypeId}
use Rattle.gob_types.specs.declared.readiness.NotReady.{NotReady}
use Rattle.gob_types.specs.declared.readiness.NotReady.TheVariants as fault
use Rattle.gob_types.specs.Table.{Table, shape_of, IsDefined}
use Rattle.gob_types.specs.Ready.{Reaches, IsGrounded}

-- the least of the type ids with this property
pub record IsLeast (P : TypeId → Type 0) (t : TypeId) : Type 0 where
  pub has : P t
  pub least : (u : TypeId) → P u → t.0 ≤ u.0

-- the type reaches this one, which isn't defined
abbrev pub ReachesUndefined : Table → TypeId → TypeId → Type 0
ReachesUndefined T t u = Reaches T t u × (shape_of T u ≡ None)

-- the type reaches this one, which has no finite value
abbrev pub ReachesBottomless : Table → TypeId → TypeId → Type 0
ReachesBottomless T t u = Reaches T t u × ¬ IsGrounded T u

-- each type that is reached is defined
abbrev pub IsAllDefined : Table → TypeId → Type 0
IsAllDefined T t = (u : TypeId) → Reaches T t u → IsDefined T u

-- why the type isn't ready: what isn't defined comes first, and out of memory tells nothing of the type
abbrev pub IsNotReady : Table → TypeId → NotReady → Type 0
IsNotReady T t (fault.UndefinedType u) = IsLeast (ReachesUndefined T t) u
IsNotReady T t (fault.Bottomless u) = IsAllDefined T t × IsLeast (ReachesBottomless T t) u
IsNotReady T t fault.Memory = Unit {0}
