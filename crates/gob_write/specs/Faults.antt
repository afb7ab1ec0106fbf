-- What the faults of the run are. (docs/FORMAT.md, The program: this project's own.)
use Rattle.std.specs.Prelude.{◌≡◌, ◌⊎◌, ℕ, List, Result, Ok, Err}
use Rattle.gob_stream.specs.Devices.{counts_up}
use Rattle.gob_stream.specs.declared.fault.Fault.{Fault}
use Rattle.gob_stream.specs.declared.fault.Fault.TheVariants as reading
use Rattle.gob_stream.specs.declared.fault.WriteFault.{WriteFault}
use Rattle.gob_stream.specs.declared.fault.WriteFault.TheVariants as writing
use Rattle.gob_write.specs.Place.{IsPlaceIn}
use Rattle.gob_write.specs.declared.place.Place.{Place}
use Rattle.gob_write.specs.declared.fault.LinesFault.{LinesFault}
use Rattle.gob_write.specs.declared.fault.LinesFault.TheVariants as fault

-- the exit status after it: 1 where the lines are no stream
abbrev pub fault_status : LinesFault → ℕ
fault_status (fault.Wrong line column path due) = 1
fault_status (fault.Refused line reason) = 1
fault_status (fault.TooLong line most) = 1
fault_status fault.Read = 2
fault_status fault.Write = 2
fault_status fault.Memory = 2

-- the fault of a run whose input answered so
abbrev pub reading_fault : Fault → LinesFault
reading_fault reading.Read = fault.Read
reading_fault _ = fault.Memory

-- the fault of a run whose writer answered so at the line of this number, counted from 1; an item in front of all lines
-- is of line 0
abbrev pub writing_fault : ℕ → WriteFault → LinesFault
writing_fault number (writing.Refused r) = fault.Refused number r
writing_fault number writing.Write = fault.Write
writing_fault number writing.Memory = fault.Memory
writing_fault number writing.Failed = fault.Memory

abbrev pub writing_result : ℕ → Result (Unit {0}) WriteFault → Result (Unit {0}) LinesFault
writing_result number (Ok u) = Ok u
writing_result number (Err f) = Err (writing_fault number f)

-- something is wrong with the line of this number, or there was no memory to say so
abbrev pub IsWrongAt : ℕ → LinesFault → Type 0
IsWrongAt number (fault.Wrong line column path due) = line ≡ number
IsWrongAt number fault.Memory = Unit {0}
IsWrongAt number _ = ⊥

-- something is due at this place, or there was no memory to say so
abbrev pub IsDueAt : Place → LinesFault → Type 0
IsDueAt place (fault.Wrong line column path due) = place ≡ record { line = line; column = column }
IsDueAt place fault.Memory = Unit {0}
IsDueAt place _ = ⊥

-- in the text that begins at this place something is wrong, or there was no memory to say so
abbrev pub IsWrongIn : (start : Place) → (text : List ℕ) → LinesFault → Type 0
IsWrongIn start text (fault.Wrong line column path due) = IsPlaceIn start text line column
IsWrongIn start text fault.Memory = Unit {0}
IsWrongIn start text _ = ⊥

-- a read failed exactly where the fault says so
abbrev pub CountsReads : {A : Type 0} → (failures failures' : ℕ) → Result A LinesFault → Type 0
CountsReads failures failures' (Err fault.Read) = failures' ≡ counts_up failures 1
CountsReads failures failures' _ = failures' ≡ failures

-- no read has failed
abbrev pub IsNoRead : Result (Unit {0}) LinesFault → Type 0
IsNoRead (Err fault.Read) = ⊥
IsNoRead _ = Unit {0}

-- before the end of the run a write or a flush failed exactly where the fault says so
abbrev pub CountsWrites : {A : Type 0} → (failures failures' : ℕ) → Result A LinesFault → Type 0
CountsWrites failures failures' (Err fault.Write) = failures' ≡ counts_up failures 1
CountsWrites failures failures' _ = failures' ≡ failures

-- and at its end the flush behind another fault may have failed
abbrev pub CountsAllWrites : {A : Type 0} → (failures failures' : ℕ) → Result A LinesFault → Type 0
CountsAllWrites failures failures' (Ok _) = failures' ≡ failures
CountsAllWrites failures failures' (Err fault.Write) = failures' ≡ counts_up failures 1
CountsAllWrites failures failures' (Err _) = (failures' ≡ failures) ⊎ (failures' ≡ counts_up failures 1)
