-- What is written of the types and of the values of bytes in memory.
use Rattle.std.specs.Prelude.{ℕ, List, [], Option, Some, None, Result, Ok, Err}
use Rattle.gob_stream.specs.Bounds.{Bounds}
use Rattle.gob_stream.specs.declared.fault.Refusal.{Refusal}
use Rattle.gob_tool.specs.declared.fault.ToolFault.{ToolFault}
use Rattle.gob_tool.specs.declared.fault.ToolFault.TheVariants as fault
use Rattle.gob_why.specs.declared.said.Said.{Said}
use Rattle.gob_views.specs.Types.{TypesAnswers}
use Rattle.gob_views.specs.Values.{ValuesAnswers}
use Rattle.gob_views.specs.declared.types.SourceForm.{SourceForm}
use Rattle.gob_views.specs.declared.value_line.ValueLines.{ValueLines}

-- how a run ends that meets this refusal, or none
abbrev pub answer_of : Option Refusal → Result (Unit {0}) ToolFault
answer_of None = Ok tt
answer_of (Some R) = Err (fault.Refused R)

-- the text is what the run writes of the types of the bytes, to an output that was empty, where they have this refusal
pub record IsSourceText (form : SourceForm) (L : Bounds) (bytes : List ℕ) (refusal : Option Refusal)
    (text : List ℕ) : Type 0 where
  pub now : Option (List ℕ)
  pub answers : TypesAnswers form L bytes now (Some []) (Some text) (answer_of refusal)

abbrev pub IsSourceOf : SourceForm → Bounds → (bytes : List ℕ) → Said → Type 0
IsSourceOf form L bytes said = IsSourceText form L bytes said.refusal said.text.items

-- the text is what the run writes of the values of the bytes, to an output that was empty, where they have this refusal
pub record IsValuesText (lines : ValueLines) (L : Bounds) (bytes : List ℕ) (refusal : Option Refusal)
    (text : List ℕ) : Type 0 where
  pub now : Option (List ℕ)
  pub answers : ValuesAnswers lines L bytes now (Some []) (Some text) (answer_of refusal)

abbrev pub AreLinesIn : ValueLines → Bounds → (bytes : List ℕ) → Said → Type 0
AreLinesIn lines L bytes said = IsValuesText lines L bytes said.refusal said.text.items
