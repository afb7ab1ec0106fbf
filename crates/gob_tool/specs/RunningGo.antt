-- What a run over a stream of Go's encoder answers that writes something of each item.
-- (docs/FORMAT.md, The program: this project's own.)
use Rattle.std.specs.Prelude.{ℕ, List, Option, Result}
use Rattle.gob_stream.specs.Bounds.{Bounds}
use Rattle.gob_stream.specs.declared.fault.Refusal.{Refusal}
use Rattle.gob_filled.specs.Outcome.{profile}
use Rattle.gob_filled.specs.Stream.{FilledItem}
use Rattle.gob_tool.specs.Answering.{BeginsOutcome, EndsWhole, GivesOutcome, IsRefused, RunAnswersIn}
use Rattle.gob_tool.specs.declared.fault.ToolFault.{ToolFault}

-- the bytes are the stream of some items, all of them were read, and this holds of the items
abbrev pub EndsWholeGo : Bounds → (bytes : List ℕ) → (now : Option (List ℕ)) → (P : List FilledItem → Type 0) → Type 0
EndsWholeGo L bytes now P = EndsWhole profile L bytes now (λ T items. P items)

-- the bytes are refused so behind some items, of which this holds
abbrev pub IsRefusedGo : Bounds → (bytes : List ℕ) → Refusal → (P : List FilledItem → Type 0) → Type 0
IsRefusedGo L bytes R P = IsRefused profile L bytes R (λ T items. P items)

-- this holds of the items of the longest stream that the bytes begin with
abbrev pub GivesLongestGo : Bounds → (bytes : List ℕ) → (P : List FilledItem → Type 0) → Type 0
GivesLongestGo L bytes P = GivesOutcome profile L bytes (λ T items. P items)

-- this holds of the items of some stream that the bytes begin with
abbrev pub BeginsGo : Bounds → (bytes : List ℕ) → (P : List FilledItem → Type 0) → Type 0
BeginsGo L bytes P = BeginsOutcome profile L bytes (λ T items. P items)

-- how a run over an input with these bytes left ends, where `Whole` holds of the items if all went out that was to be
-- written of them, or `Cut` after a failed write
abbrev pub RunGoAnswers : Bounds → (bytes : List ℕ) → (now : Option (List ℕ))
    → (Whole Cut : List FilledItem → Type 0) → Result (Unit {0}) ToolFault → Type 0
RunGoAnswers L bytes now Whole Cut result =
    RunAnswersIn profile L bytes now (λ T items. Whole items) (λ T items. Cut items) result
