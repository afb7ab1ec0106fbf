-- What the run that splits a stream answers, and what it has written then. (docs/FORMAT.md, The program: this project's
-- own.)
use Rattle.std.specs.Prelude.{ℕ, List, Option, Result}
use Rattle.gob_stream.specs.Bounds.{Bounds}
use Rattle.gob_filled.specs.Outcome.{profile}
use Rattle.gob_filled.specs.Stream.{FilledItem}
use Rattle.gob_tool.specs.Answering.{RunAnswersIn}
use Rattle.gob_tool.specs.declared.fault.ToolFault.{ToolFault}
use Rattle.gob_split.specs.Split.{StreamPart, all_parts, IsCut, IsSplit}
use Rattle.gob_split.specs.Text.{Text, HaveTexts}
use Rattle.gob_split.specs.declared.part_size.PartSize.{PartSize}

-- the items are split into parts, of which this holds
pub record OfParts (how : PartSize) (L : Bounds) (bytes : List ℕ) (P : List (List ℕ) → Type 0)
    (items : List FilledItem) : Type 0 where
  pub texts : List Text
  pub are : HaveTexts L bytes items texts
  pub full : List (List ℕ)
  pub last : Option StreamPart
  pub split : IsSplit how texts full last
  pub holds : P (all_parts full last)

-- this holds of what was written of parts up to a failed write
pub record IsWritten (P : List (List ℕ) → Type 0) (parts : List (List ℕ)) : Type 0 where
  pub written : List (List ℕ)
  pub cut : IsCut parts written
  pub holds : P written

-- how the run ends, over an input with these bytes left: this holds of the parts, and after a failed write of what was
-- written of them
abbrev pub SplitAnswers : PartSize → Bounds → (bytes : List ℕ) → (now : Option (List ℕ))
    → (Are : List (List ℕ) → Type 0) → Result (Unit {0}) ToolFault → Type 0
SplitAnswers how L bytes now Are result = RunAnswersIn profile L bytes now
    (λ T items. OfParts how L bytes Are items) (λ T items. OfParts how L bytes (IsWritten Are) items) result
