-- Why an item isn't read, or isn't written: what a denial is as a fault, and what adding a type answers.
use Rattle.std.specs.Prelude.{◌≡◌, ℕ, [], ◌∷◌, ◌++◌, Result, Ok, Err}
use Rattle.gob_types.specs.declared.id.TypeId.{TypeId}
use Rattle.gob_types.specs.declared.kind.Shape.{Shape}
use Rattle.gob_types.specs.Defined.{Defined, types}
use Rattle.gob_types.specs.declared.denial.Denial.{Denial}
use Rattle.gob_types.specs.declared.denial.Denial.TheVariants as denial
use Rattle.gob_stream.specs.declared.fault.Fault.{Fault}
use Rattle.gob_stream.specs.declared.fault.Fault.TheVariants as fault
use Rattle.gob_stream.specs.declared.fault.WriteFault.{WriteFault}
use Rattle.gob_stream.specs.declared.fault.WriteFault.TheVariants as writing
use Rattle.gob_stream.specs.Refusing.{refuses}

-- what adding a type to the table answers
abbrev pub AddAnswers : TypeId → Shape → (d d' : Defined) → Result (Unit {0}) Denial → Type 0
AddAnswers id shape d d' (Ok _) = (types d' ≡ types d ++ (id, shape) ∷ []) × (d'.most ≡ d.most)
AddAnswers id shape d d' (Err why) = (why ≡ denial.Memory) × (d' ≡ d)

-- the fault of a reader that meets it at the place, shown by so many bytes
abbrev pub fault_at : (place seen : ℕ) → Denial → Fault
fault_at place seen (denial.Refused r) = fault.Refused (refuses place seen r)
fault_at place seen denial.Memory = fault.Memory

-- that of a writer
abbrev pub write_fault : Denial → WriteFault
write_fault (denial.Refused r) = writing.Refused r
write_fault denial.Memory = writing.Memory
