-- Where a run stands that counts what it reads. For private clauses.
use Rattle.std.specs.Prelude.{◌≡◌, ℕ, List, length, Option, None, Some, Result, Ok, Err}
use Rattle.gob_types.specs.Table.{Table}
use Rattle.gob_stream.specs.Bounds.{Bounds}
use Rattle.gob_stream.specs.Calls.ReaderOf.{HasReadBy, StopsBy, TakesBy, session_of}
use Rattle.gob_stream.specs.Devices.{counts_up}
use Rattle.gob_stream.specs.Grammar.{Grammar}
use Rattle.gob_stream.specs.Stepping.{Stepping}
use Rattle.gob_stream.specs.declared.fault.Fault.{Fault}
use Rattle.gob_stream.specs.declared.reader_of.ReaderOf.{ReaderOf}
use Rattle.gob_stream.specs.declared.values.Passed.{Passed}
use Rattle.gob_tool.specs.Checking.{IsCountedIn, IsNoStreamIn, tally_line, definitions_behind}
use Rattle.gob_tool.specs.declared.fault.ToolFault.{ToolFault}
use Rattle.gob_tool.specs.declared.fault.ToolFault.TheVariants as fault
use Rattle.gob_tool.specs.declared.check.Tally.{Tally}

-- what was taken was counted
pub record CountsSo {X I Told : Type 0} (d : Stepping X I Told) (r : ReaderOf X I) (read now : Option (List ℕ))
    (items bytes : ℕ) : Type 0 where
  pub given : List Told
  pub has : HasReadBy d r read now given
  pub items_are : items ≡ length given
  pub bytes_are : bytes ≡ d.taken (session_of r)

-- so many items and bytes were taken of what waits
pub record CountsOn {X I Told : Type 0} (d : Stepping X I Told) (r r' : ReaderOf X I) (read now : Option (List ℕ))
    (given : List Told) (passed : Passed) : Type 0 where
  pub more : List Told
  pub counted : passed.items ≡ length more
  pub takes : TakesBy d r r' read now given more passed.used

abbrev pub CountsNext : {X I Told : Type 0} → Stepping X I Told → (r r' : ReaderOf X I) → (read now : Option (List ℕ))
    → List Told → Result Passed Fault → Type 0
CountsNext d r r' read now given (Ok passed) = CountsOn d r r' read now given passed
CountsNext d r r' read now given (Err e) = (T : Table) × StopsBy d (session_of r) T read now given e

-- how counting what the input has left ends
abbrev pub EndsCountingIn : {Told : Type 0} → Grammar Told → Bounds → (bytes : List ℕ) → (now : Option (List ℕ))
    → Result Tally ToolFault → Type 0
EndsCountingIn G L bytes now (Ok tally) = IsCountedIn G definitions_behind L bytes now (λ line. tally_line tally ≡ line)
EndsCountingIn G L bytes now (Err f) = IsNoStreamIn G L bytes now f

-- a read failed exactly where the fault says so, and no write did
abbrev pub CountsCounting : {A : Type 0} → (failures failures' : ℕ) → Result A ToolFault → Type 0
CountsCounting failures failures' (Err fault.Read) = failures' ≡ counts_up failures 1
CountsCounting failures failures' (Err fault.Write) = ⊥
CountsCounting failures failures' _ = failures' ≡ failures

-- how many items a step gave
abbrev pub given_count : {A : Type 0} → Option A → ℕ
given_count None = 0
given_count (Some a) = 1
