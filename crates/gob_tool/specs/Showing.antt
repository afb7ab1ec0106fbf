-- What the run that shows a stream answers, and what it has written then; and what any run counts.
-- (docs/FORMAT.md, The JSON lines; The program: this project's own.)
use Rattle.std.specs.Prelude.{◌≡◌, ℕ, ◌⊎◌, false, List, Option, Result, Ok, Err}
use Rattle.std.specs.Io.KnownBytes.{Appends}
use Rattle.gob_types.specs.Table.{Table}
use Rattle.gob_stream.specs.Bounds.{Bounds}
use Rattle.gob_stream.specs.Calls.Ends.{failed_writes, is_unflushed}
use Rattle.gob_stream.specs.Devices.{counts_up, Rose}
use Rattle.gob_stream.specs.Item.{StreamItem}
use Rattle.gob_stream.specs.Outcome.{strict}
use Rattle.gob_stream.specs.declared.output.Output.{Output}
use Rattle.gob_tool.specs.Answering.{RunAnswersIn}
use Rattle.gob_tool.specs.Line.{lines}
use Rattle.gob_tool.specs.declared.fault.ToolFault.{ToolFault}
use Rattle.gob_tool.specs.declared.fault.ToolFault.TheVariants as fault
-- what any run writes a prefix of, where a write failed
pub use Rattle.gob_tool.specs.Answering.{AppendsPrefix}

-- this holds of the lines of the items by these types
abbrev pub OfLines : (List ℕ → Type 0) → Table → List StreamItem → Type 0
OfLines P T items = P (lines T items)

-- how the run that shows a stream ends, over an input with these bytes left and an output with the old bytes: the lines
-- went out, and nothing else, or after a failed write a prefix of them
abbrev pub ShowAnswers : Bounds → (bytes : List ℕ) → (now old new : Option (List ℕ)) → Result (Unit {0}) ToolFault
    → Type 0
ShowAnswers L bytes now old new result =
    RunAnswersIn strict L bytes now (OfLines (Appends old new)) (OfLines (AppendsPrefix old new)) result

-- the count is the same, or one higher
abbrev pub MayCount : (failures failures' : ℕ) → Type 0
MayCount failures failures' = (failures' ≡ failures) ⊎ (failures' ≡ counts_up failures 1)

-- a read failed where the fault is `Read`, and else only before a failed write
abbrev pub CountsReadFaults : (failures failures' : ℕ) → Result (Unit {0}) ToolFault → Type 0
CountsReadFaults failures failures' (Err fault.Read) = failures' ≡ counts_up failures 1
CountsReadFaults failures failures' (Err fault.Write) = MayCount failures failures'
CountsReadFaults failures failures' _ = failures' ≡ failures

-- a write or a flush failed where the fault is `Write`, and else only the flush behind another fault
abbrev pub CountsWriteFaults : (failures failures' : ℕ) → Result (Unit {0}) ToolFault → Type 0
CountsWriteFaults failures failures' (Ok _) = failures' ≡ failures
CountsWriteFaults failures failures' (Err fault.Write) = failures' ≡ counts_up failures 1
CountsWriteFaults failures failures' (Err _) = MayCount failures failures'

-- what was written is flushed, or a write or a flush has failed since so many had
abbrev pub IsFlushedSince : {W : Type 0} → (failures : ℕ) → Output W → Type 0
IsFlushedSince failures output = (is_unflushed output ≡ false) ⊎ Rose failures (failed_writes output)
