-- Why something isn't read, or isn't written, wherever it stands: what denies it by such reasons alone, and what a
-- fault of this crate is as a denial. (docs/FORMAT.md, Refusals.)
use Rattle.gob_types.specs.declared.reason.Reason.{Reason}
use Rattle.gob_types.specs.declared.reason.Reason.TheVariants as reason
use Rattle.gob_types.specs.declared.readiness.NotReady.{NotReady}
use Rattle.gob_types.specs.declared.readiness.NotReady.TheVariants as unready
use Rattle.gob_types.specs.declared.denial.Denial.{Denial}
use Rattle.gob_types.specs.declared.denial.Denial.TheVariants as denial

-- it is such a reason, or no memory
abbrev pub IsDenial : (Reason → Type 0) → Denial → Type 0
IsDenial Refuses (denial.Refused r) = Refuses r
IsDenial Refuses denial.Memory = Unit {0}

-- why values of a type that isn't ready can't come
abbrev pub type_denial : NotReady → Denial
type_denial (unready.UndefinedType t) = denial.Refused (reason.UndefinedType t)
type_denial (unready.Bottomless t) = denial.Refused (reason.Bottomless t)
type_denial unready.Memory = denial.Memory
