-- What is said of bytes in memory.
use Rattle.std.specs.Prelude.{◌≡◌, ℕ, List, [], Option, Some, None, Result, Ok, Err}
use Rattle.gob_stream.specs.Bounds.{Bounds}
use Rattle.gob_stream.specs.declared.fault.Refusal.{Refusal}
use Rattle.gob_tool.specs.CheckingGo.{IsCountedGoStream}
use Rattle.gob_tool.specs.declared.fault.ToolFault.{ToolFault}
use Rattle.gob_tool.specs.declared.fault.ToolFault.TheVariants as fault
use Rattle.gob_why.specs.Why.{IsHeaded, IsRefusedSo, refusal_line}
use Rattle.gob_why.specs.declared.said.Said.{Said}

-- a run that answers so met this refusal, or none
abbrev pub AnswersSo : Result (Unit {0}) ToolFault → Option Refusal → Type 0
AnswersSo (Ok _) refusal = refusal ≡ None
AnswersSo (Err (fault.Refused R)) refusal = refusal ≡ Some R
AnswersSo (Err _) refusal = ⊥

-- what is said of bytes that are a whole stream or have this refusal
abbrev pub SaysOf : Bounds → (bytes : List ℕ) → Option Refusal → (text : List ℕ) → Type 0
SaysOf L bytes None text = IsCountedGoStream L bytes (Some []) (λ line. IsHeaded line text)
SaysOf L bytes (Some R) text = IsRefusedSo L bytes R × IsHeaded (refusal_line R) text

abbrev pub IsSaidOf : Bounds → (bytes : List ℕ) → Said → Type 0
IsSaidOf L bytes said = SaysOf L bytes said.refusal said.text.items
