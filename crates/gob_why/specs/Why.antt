-- What the run that says why a stream is refused answers, and what it has written then. (docs/FORMAT.md, Why; The
-- program: this project's own.)
use Rattle.std.specs.Prelude.{◌≡◌, ℕ, List, [], ◌∷◌, ◌++◌, Option, Result, Ok, Err}
use Rattle.std.specs.Io.KnownBytes.{Appends}
use Rattle.gob_types.specs.Base.{base_table}
use Rattle.gob_stream.specs.Bounds.{Bounds}
use Rattle.gob_stream.specs.RefusalText.{refusal_text}
use Rattle.gob_stream.specs.declared.fault.Refusal.{Refusal}
use Rattle.gob_filled.specs.Outcome.{FilledOutcome, refused}
use Rattle.gob_filled.specs.Stream.{FilledItem}
use Rattle.gob_tool.specs.declared.fault.ToolFault.{ToolFault}
use Rattle.gob_tool.specs.declared.fault.ToolFault.TheVariants as fault
use Rattle.gob_tool.specs.Showing.{AppendsPrefix}
use Rattle.gob_tool.specs.CheckingGo.{IsCountedGoStream, IsNoGoStream}

-- the line that names a refusal
abbrev pub refusal_line : Refusal → List ℕ
refusal_line R = refusal_text R ++ 10 ∷ []

-- the text begins with the line
abbrev pub IsHeaded : (line text : List ℕ) → Type 0
IsHeaded line text = (rest : List ℕ) × (text ≡ line ++ rest)

-- this holds of a text that begins with the line
pub record Heads (P : List ℕ → Type 0) (line : List ℕ) : Type 0 where
  pub text : List ℕ
  pub headed : IsHeaded line text
  pub holds : P text

-- what a call answers that sends a text which begins with the line: it went out, or after a failed write a prefix of
-- it, or without memory nothing
abbrev pub Tells : (line : List ℕ) → (old new : Option (List ℕ)) → Result (Unit {0}) ToolFault → Type 0
Tells line old new (Ok _) = Heads (Appends old new) line
Tells line old new (Err fault.Write) = Heads (AppendsPrefix old new) line
Tells line old new (Err fault.Memory) = Appends old new []
Tells line old new (Err _) = ⊥

-- the bytes give this refusal
abbrev pub IsRefusedSo : Bounds → (bytes : List ℕ) → Refusal → Type 0
IsRefusedSo L bytes R = (items : List FilledItem) × FilledOutcome base_table L bytes items (refused R)

-- this holds of what is said of the bytes: of a whole stream it begins with the line that says how many items, types
-- and bytes it has, and else with the line that names their refusal
pub data Says (L : Bounds) (bytes : List ℕ) (now : Option (List ℕ)) (P : List ℕ → Type 0) : Type 0 where
  of_whole : IsCountedGoStream L bytes now (Heads P) → Says L bytes now P
  of_refused : {R : Refusal} → IsRefusedSo L bytes R → Heads P (refusal_line R) → Says L bytes now P

-- how the run ends, over an input with these bytes left and an output with the old bytes: what is said went out, or
-- after a failed write a prefix of it, and after a failed read or without memory nothing
abbrev pub WhyAnswers : Bounds → (bytes : List ℕ) → (now old new : Option (List ℕ)) → Result (Unit {0}) ToolFault
    → Type 0
WhyAnswers L bytes now old new (Ok _) = IsCountedGoStream L bytes now (Heads (Appends old new))
WhyAnswers L bytes now old new (Err (fault.Refused R)) =
    IsRefusedSo L bytes R × Heads (Appends old new) (refusal_line R)
WhyAnswers L bytes now old new (Err fault.Write) = Says L bytes now (AppendsPrefix old new)
WhyAnswers L bytes now old new (Err fault.Read) = IsNoGoStream L bytes now fault.Read × Appends old new []
WhyAnswers L bytes now old new (Err fault.Memory) = Appends old new []
WhyAnswers L bytes now old new (Err (fault.Wanted R)) = ⊥
WhyAnswers L bytes now old new (Err fault.NoWantedType) = ⊥
WhyAnswers L bytes now old new (Err (fault.Clash path reason)) = ⊥
WhyAnswers L bytes now old new (Err (fault.LeftOut path number)) = ⊥
