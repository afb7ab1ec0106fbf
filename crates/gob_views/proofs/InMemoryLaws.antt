-- A run that writes of bytes in memory to an output that was empty.
use Rattle.std.proofs.Common.{◌≡◌, ◌∙◌, ℕ, List, [], Option, Result, Ok, Err, refl, sym, subst}
use Rattle.std.specs.Result.{IfOk}
use Rattle.gob_num.specs.declared.memory.Memory.{Memory}
use Rattle.gob_stream.specs.declared.fault.Refusal.{Refusal}
use Rattle.gob_tool.specs.declared.fault.ToolFault.{ToolFault}
use Rattle.gob_tool.specs.declared.fault.ToolFault.TheVariants as fault
use Rattle.gob_why.specs.Said.{AnswersSo}
use Rattle.gob_why.specs.declared.said.Said.{Said}
use Rattle.gob_views.specs.InMemory.{answer_of}

-- what a run answers is told by its refusal
told_of : (answer : Result (Unit {0}) ToolFault) (refusal : Option Refusal) → AnswersSo answer refusal
    → answer ≡ answer_of refusal
told_of (Ok u) refusal so = subst (λ q. Ok u ≡ answer_of q) (sym so) refl
told_of (Err (fault.Refused R)) refusal so = subst (λ q. Err (fault.Refused R) ≡ answer_of q) (sym so) refl
told_of (Err fault.Write) refusal so = absurd so
told_of (Err fault.Memory) refusal so = absurd so
told_of (Err fault.Read) refusal so = absurd so
told_of (Err (fault.Wanted R)) refusal so = absurd so
told_of (Err fault.NoWantedType) refusal so = absurd so
told_of (Err (fault.Clash path reason)) refusal so = absurd so
told_of (Err (fault.LeftOut path number)) refusal so = absurd so

-- where a run that began with an empty output wrote this text and answered so, that is said
pub said_from : (P : (now : Option (List ℕ)) (old new : List ℕ) → Result (Unit {0}) ToolFault → Type 0)
    (now : Option (List ℕ)) (text old new : List ℕ) (answer : Result (Unit {0}) ToolFault) (made : Result Said Memory)
    → IfOk made (λ s. AnswersSo answer s.refusal) → IfOk made (λ s. s.text.items ≡ text) → old ≡ [] → text ≡ new
    → P now old new answer → IfOk made (λ s. P now [] s.text.items (answer_of s.refusal))
said_from P now text old new answer (Ok s) so is empty out h =
    subst (λ a. P now [] s.text.items a) (told_of answer s.refusal so)
    (subst (λ t. P now [] t answer) (sym (is ∙ out)) (subst (λ o. P now o new answer) empty h))
said_from P now text old new answer (Err e) so is empty out h = tt
