-- The concrete type of a value in an interface.
use Rattle.std.proofs.Common.{ℕ, Err}
use Rattle.gob_types.specs.declared.denial.Denial.{Denial}
use Rattle.gob_types.specs.declared.denial.Denial.TheVariants as denial
use Rattle.gob_types.specs.declared.id.TypeId.{TypeId}
use Rattle.gob_types.specs.Denial.{IsDenial}
use Rattle.gob_types.specs.Table.{Table}
use Rattle.gob_stream.specs.declared.fault.Fault.{Fault}
use Rattle.gob_stream.specs.declared.fault.Fault.TheVariants as fault
use Rattle.gob_stream.specs.Body.{MayPut}
use Rattle.gob_stream.specs.WriterRefusal.{RefusesType}
use Rattle.gob_stream.specs.Machine.Denial.{fault_at}
use Rattle.gob_go.specs.Machine.Parts.{ConcreteType, type_refused, nothing_behind, GoesOn}

pub concrete_denied : (T : Table) (place begin end : ℕ) (id : TypeId) (why : Denial)
    → IsDenial (RefusesType T id) why → ConcreteType T place begin end id (Err (fault_at place begin why))
concrete_denied T place begin end id (denial.Refused r) q = type_refused q
concrete_denied T place begin end id denial.Memory q = tt

pub concrete_ends : {T : Table} {id : TypeId} (place begin end : ℕ) (f : Fault) → MayPut T id
    → GoesOn begin end (Err f) → ConcreteType T place begin end id (Err f)
concrete_ends place begin end (fault.Refused R) may g = rw g.1 (nothing_behind may g.0)
concrete_ends place begin end fault.Read may g = absurd g
concrete_ends place begin end fault.Memory may g = absurd g
concrete_ends place begin end fault.Failed may g = absurd g
