-- How the program ends. (docs/FORMAT.md, The program: this project's own.)
use Rattle.std.specs.Prelude.{◌≡◌, ◌≢◌, ◌⊎◌, ◌++◌, ⊤, ℕ, List, [], ◌∷◌, codes, Option, Some, IsTrue, Result, Ok, Err}
use Rattle.std.specs.Io.KnownBytes.{append_known}
use Rattle.gob_stream.specs.Calls.Ends.{failed_reads, reader_of}
use Rattle.gob_stream.specs.declared.input.Input.{Input}
use Rattle.gob_tool.specs.declared.fault.ToolFault.{ToolFault}
use Rattle.gob_tool.specs.declared.fault.ToolFault.TheVariants as run_fault
use Rattle.gob_words.specs.declared.words.Order.{Order}
use Rattle.gob_words.specs.declared.words.OrderFault.{OrderFault}
use Rattle.gob_words.specs.declared.words.OrderFault.TheVariants as order_fault
use Rattle.gob_tool.specs.Fault.{fault_status, fault_line}
use Rattle.gob_tool.specs.Running.{OrderAnswers, order_limits}
use Rattle.gob_tool.specs.Showing.{CountsReadFaults, CountsWriteFaults}
use Rattle.gob_tool.specs.Taking.{CountsTakeReads}
use Rattle.gob_words.specs.Words.{order_line, order_status}
use Rattle.gob_words.specs.declared.view.View.{View}
use Rattle.gob_views.specs.Running.{ViewAnswers}
use Rattle.gob.specs.declared.AfterRun.{AfterRun}
use Rattle.gob.specs.declared.Exit.{Exit}
use Rattle.gob.specs.declared.Exit.TheVariants.{Words, Run, Told, RefusedFile, LeftOut, Lines, Verified, Unread}
use Rattle.gob.specs.declared.Exit.TheVariants as stop
use Rattle.gob.specs.declared.verdict.Verdict.{Verdict}
use Rattle.gob.specs.declared.verdict.Verdict.TheVariants as verdict
use Rattle.gob.specs.Verdicts.{verdict_status}

-- the exit status after what ends it with a line
abbrev pub stop_status : Exit → ℕ
stop_status (Words fault) = order_status fault
stop_status (Run fault) = fault_status fault
stop_status (Told fault) = fault_status fault
stop_status (stop.View line) = 2
stop_status (RefusedFile fault line) = fault_status fault
stop_status (LeftOut report) = 1
stop_status (Lines line) = 1
stop_status (Verified said) = verdict_status said
stop_status Unread = 2

-- the exit status
abbrev pub ending_status : Result (Unit {0}) Exit → ℕ
ending_status (Ok _) = 0
ending_status (Err stop) = stop_status stop

-- the line on standard error, or the two; none is printed where nobody reads what is written, where it is told already,
-- or where each file has a line
abbrev pub stop_line : Exit → List ℕ
stop_line (Words fault) = order_line fault
stop_line (Run fault) = fault_line fault
stop_line (Told fault) = fault_line fault
stop_line (stop.View line) = codes "gob: " ++ line.bytes.items
stop_line (RefusedFile fault line) = fault_line fault ++ 10 ∷ line.bytes.items
stop_line (LeftOut report) = report.bytes.items
stop_line (Lines line) = line.bytes.items
stop_line (Verified said) = []
stop_line Unread = fault_line run_fault.Write

-- the run that ends the program so has answered this
abbrev pub HasAnswered : Result (Unit {0}) ToolFault → Result (Unit {0}) Exit → Type 0
HasAnswered answer (Ok _) = answer ≡ Ok tt
HasAnswered answer (Err (Words fault)) = ⊥
HasAnswered answer (Err (Run fault)) = answer ≡ Err fault
HasAnswered answer (Err (Told fault)) = ⊥
HasAnswered answer (Err (stop.View line)) = ⊥
HasAnswered answer (Err (RefusedFile fault line)) = ⊥
HasAnswered answer (Err (LeftOut report)) = ⊥
HasAnswered answer (Err (Lines line)) = ⊥
HasAnswered answer (Err (Verified said)) = ⊥
HasAnswered answer (Err Unread) = answer ≡ Err run_fault.Write

-- a refusal is told once: where the run of `why` has said it, and by no other end
abbrev pub IsToldOnce : (ending result : Result (Unit {0}) Exit) → Type 0
IsToldOnce (Err (Run (run_fault.Refused refusal))) result = result ≡ Err (Told (run_fault.Refused refusal))
IsToldOnce ending result = result ≡ ending

-- a file wasn't opened: that is told, unless there is no memory to
abbrev pub IsUnopened : Exit → Type 0
IsUnopened (stop.View line) = ⊤
IsUnopened end = end ≡ Run run_fault.Memory

-- how the program ends where this was said of the worst file
abbrev pub EndsWith : Verdict → Result (Unit {0}) Exit → Type 0
EndsWith verdict.Whole result = result ≡ Ok tt
EndsWith said result = result ≡ Err (Verified said)

-- what comes of a fault of the words: help is printed, unless that fails, and any other stops the program
abbrev pub IsAnswered : OrderFault → Result (Unit {0}) Exit → Type 0
IsAnswered (order_fault.Help text) result = (result ≡ Ok tt) ⊎ (result ≡ Err (Run run_fault.Write))
IsAnswered other result = result ≡ Err (Words other)

-- what is told of a run that answered so: where its last bytes, these, were lost, that a write failed
pub record IsTold (answer : Result (Unit {0}) ToolFault) (lost : List ℕ)
    (told : Result (Unit {0}) ToolFault) : Type 0 where
  pub whole : lost ≡ [] → told ≡ answer
  pub cut : lost ≢ [] → told ≡ Err run_fault.Write

-- what contracts see of an input or an output: the bytes that are left in it, or that went out by it, where they are
-- known, and how many of its calls failed
pub record Seen : Type 0 where
  pub bytes : Option (List ℕ)
  pub failures : ℕ

-- of an input, by what its reader says of the bytes that are left
abbrev pub seen_of : {R : Type 0} → (R → Option (List ℕ)) → Input R → Seen
seen_of remaining input = record { bytes = remaining (reader_of input); failures = failed_reads input }

-- of an output behind which nothing was counted yet
abbrev pub unused : Option (List ℕ) → Seen
unused bytes = record { bytes = bytes; failures = 0 }

-- of what a run left of an output, by what its writer says of the bytes that went out
abbrev pub seen_after : {W : Type 0} → (W → Option (List ℕ)) → AfterRun W → Seen
seen_after contents settled = record { bytes = contents settled.pipe.writer; failures = settled.failures }

-- a run that answered so ends so, where it wrote these bytes, and the writer behind it has the new ones
pub record IsSettled (answer : Result (Unit {0}) ToolFault) (wrote new : Option (List ℕ))
    (result : Result (Unit {0}) Exit) : Type 0 where
  -- what it wrote and the writer didn't take
  pub lost : List ℕ
  pub told : Result (Unit {0}) ToolFault
  pub tells : IsTold answer lost told
  pub answered : HasAnswered told result
  pub all : wrote ≡ append_known new lost

-- the program ends without a line only where the other end of the output was found closed
abbrev pub IsQuietIfClosed : {W : Type 0} → AfterRun W → Type 0
IsQuietIfClosed settled = settled.ending ≡ Err Unread → IsTrue settled.pipe.is_closed

-- how a run of the order ends, where the wanted stream, the input and the output were the first of each pair, and are
-- the second
pub record EndsRun (order : Order) (wanted wanted_now input now old new : Seen)
    (result : Result (Unit {0}) Exit) : Type 0 where
  pub answer : Result (Unit {0}) ToolFault
  -- what it wrote and the writer behind it didn't take
  pub lost : List ℕ
  pub told : Result (Unit {0}) ToolFault
  pub tells : IsTold answer lost told
  pub answered : HasAnswered told result
  -- a read or a write failed where it answers so
  pub reads : CountsTakeReads wanted.failures wanted_now.failures input.failures now.failures answer
  pub writes : CountsWriteFaults old.failures new.failures answer
  pub does : (wanted_bytes bytes : List ℕ) → wanted.bytes ≡ Some wanted_bytes → input.bytes ≡ Some bytes
      → OrderAnswers order.command (order_limits order) wanted_bytes bytes wanted_now.bytes now.bytes old.bytes
      (append_known new.bytes lost) answer

-- how a run of the view ends, where the input and the output were the first of each pair, and are the second
pub record EndsView (view : View) (input now old new : Seen) (result : Result (Unit {0}) Exit) : Type 0 where
  pub answer : Result (Unit {0}) ToolFault
  -- what it wrote and the writer behind it didn't take
  pub lost : List ℕ
  pub told : Result (Unit {0}) ToolFault
  pub tells : IsTold answer lost told
  pub answered : HasAnswered told result
  -- a read or a write failed where it answers so
  pub reads : CountsReadFaults input.failures now.failures answer
  pub writes : CountsWriteFaults old.failures new.failures answer
  pub does : (bytes : List ℕ) → input.bytes ≡ Some bytes
      → ViewAnswers view bytes now.bytes old.bytes (append_known new.bytes lost) answer
