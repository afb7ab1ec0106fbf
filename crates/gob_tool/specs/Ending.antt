-- How a run ends behind its last item. (docs/FORMAT.md, The program: this project's own.)
use Rattle.std.specs.Prelude.{◌≡◌, ℕ, Result, Ok, Err}
use Rattle.gob_stream.specs.Devices.{counts_up}
use Rattle.gob_tool.specs.declared.fault.ToolFault.{ToolFault}
use Rattle.gob_tool.specs.declared.fault.ToolFault.TheVariants as fault

-- the answer stays, but where the flush behind it is the first that fails
pub data EndsRun : Result (Unit {0}) ToolFault → Result (Unit {0}) ToolFault → Type 0 where
  ends_so : {answer result : Result (Unit {0}) ToolFault} → result ≡ answer → EndsRun answer result
  flush_fails : {answer result : Result (Unit {0}) ToolFault} → answer ≡ Ok tt → result ≡ Err fault.Write
      → EndsRun answer result

-- before the end of a run, a write failed exactly where the fault says so
abbrev pub CountsOnlyWrites : {A : Type 0} → (failures failures' : ℕ) → Result A ToolFault → Type 0
CountsOnlyWrites failures failures' (Err fault.Write) = failures' ≡ counts_up failures 1
CountsOnlyWrites failures failures' _ = failures' ≡ failures
