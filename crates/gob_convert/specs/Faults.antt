-- What stops a conversion, where a part of it was stopped. (docs/FORMAT.md, The program: this project's own.)
use Rattle.std.specs.Prelude.{◌≡◌, ℕ, ◌<◌, Result, Ok, Err}
use Rattle.gob_rename.specs.declared.fault.RenameFault.{RenameFault}
use Rattle.gob_rename.specs.declared.fault.RenameFault.TheVariants as renaming
use Rattle.gob_join.specs.declared.fault.TakeFault.{TakeFault}
use Rattle.gob_join.specs.declared.fault.TakeFault.TheVariants as taking
use Rattle.gob_tool.specs.declared.fault.ToolFault.{ToolFault}
use Rattle.gob_tool.specs.declared.fault.ToolFault.TheVariants as fault
use Rattle.gob_tool.specs.Fault.{IsOfWanted}
use Rattle.gob_convert.specs.declared.fault.ConvertFault.{ConvertFault}
use Rattle.gob_convert.specs.declared.fault.ConvertFault.TheVariants as stop

-- renaming
abbrev pub renaming_fault : RenameFault → ConvertFault
renaming_fault (renaming.Misfits number why) = stop.Misfits number why
renaming_fault renaming.Memory = stop.Run fault.Memory

-- putting an item
abbrev pub taking_fault : TakeFault → ConvertFault
taking_fault (taking.Full r) = stop.Full r
taking_fault taking.Memory = stop.Run fault.Memory
taking_fault taking.Failed = stop.Run fault.Memory

-- an answer of any run, as one of a conversion
abbrev pub run_answer : Result (Unit {0}) ToolFault → Result (Unit {0}) ConvertFault
run_answer (Ok u) = Ok u
run_answer (Err f) = Err (stop.Run f)

-- it holds of the answer as one of any run. Where a rename doesn't fit, nothing failed; where a value clashes or no
-- more goes into the stream, as where no memory was had, no read or write did, but for a flush behind it.
abbrev pub OfRun : (Result (Unit {0}) ToolFault → Type 0) → Result (Unit {0}) ConvertFault → Type 0
OfRun P (Ok u) = P (Ok u)
OfRun P (Err (stop.Run f)) = P (Err f)
OfRun P (Err (stop.Full r)) = P (Err fault.Memory)
OfRun P (Err (stop.Clash c)) = P (Err fault.Memory)
OfRun P (Err (stop.Misfits number why)) = P (Ok tt)

-- the run stops before the input is read
abbrev pub IsBefore : ConvertFault → Type 0
IsBefore (stop.Misfits number why) = Unit {0}
IsBefore (stop.Full r) = ⊥
IsBefore (stop.Clash c) = ⊥
IsBefore (stop.Run f) = IsOfWanted f

-- a rename that doesn't fit is one of so many
abbrev pub IsAmongRenames : (renames : ℕ) → ConvertFault → Type 0
IsAmongRenames renames (stop.Misfits number why) = number < renames
IsAmongRenames renames (stop.Full r) = Unit {0}
IsAmongRenames renames (stop.Clash c) = Unit {0}
IsAmongRenames renames (stop.Run f) = Unit {0}

-- the answer stays, but where the flush behind it is the first that fails
pub data EndsConversion : Result (Unit {0}) ConvertFault → Result (Unit {0}) ConvertFault → Type 0 where
  ends_so : {answer result : Result (Unit {0}) ConvertFault} → result ≡ answer → EndsConversion answer result
  flush_fails : {answer result : Result (Unit {0}) ConvertFault} → answer ≡ Ok tt → result ≡ Err (stop.Run fault.Write)
      → EndsConversion answer result
