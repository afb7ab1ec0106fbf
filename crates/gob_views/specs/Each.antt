-- What the run answers that prints a line for each part of the lists and maps of a stream while their items are read,
-- and what it has written then. (docs/FORMAT.md, Plain values; The program: this project's own.)
use Rattle.std.specs.Prelude.{◌≡◌, ℕ, pos, ◌-◌, ◌≤◌, List, [], ◌∷◌, ◌++◌, Option, Result, Ok, Err, true}
use Rattle.std.specs.Io.KnownBytes.{Appends}
use Rattle.gob_num.specs.Signed.{IsSigned}
use Rattle.gob_num.specs.Unsigned.{IsUnsigned}
use Rattle.gob_types.specs.Table.{Table}
use Rattle.gob_types.specs.declared.id.TypeId.{TypeId}
use Rattle.gob_stream.specs.Body.{MayPut}
use Rattle.gob_stream.specs.Bounds.{Bounds}
use Rattle.gob_stream.specs.Grammar.{BeginsIn}
use Rattle.gob_filled.specs.Outcome.{profile}
use Rattle.gob_filled.specs.Stream.{FilledItem}
use Rattle.gob_plain.specs.declared.style.Style.{Style}
use Rattle.gob_tool.specs.Answering.{AppendsPrefix, RunAnswersIn}
use Rattle.gob_tool.specs.Texts.{HaveTexts}
use Rattle.gob_tool.specs.declared.fault.ToolFault.{ToolFault}
use Rattle.gob_views.specs.Machine.PartLines.{AreParts, HasParts}
use Rattle.gob_views.specs.Values.{IsChosen, IsPlainLine, IsStyleOf, ValuesAnswers}
use Rattle.gob_views.specs.declared.body_lines.PartTypes.{PartTypes}
use Rattle.gob_views.specs.declared.value_line.ValueLines.{ValueLines}
use Rattle.gob_words.specs.Words.{text_of}

-- ---- an item that has begun

-- the bytes begin as the item of a value of the type that has so many parts: a count, the number of the type, the tag 0
-- and the count of the parts; the others stand behind these
pub record BeginsWithParts (L : Bounds) (T : Table) (id : TypeId) (parts : PartTypes) (count : ℕ)
    (bytes behind : List ℕ) : Type 0 where
  pub announced : ℕ
  pub item : List ℕ
  pub number : List ℕ
  pub counted : List ℕ
  pub announces : IsUnsigned announced item
  pub within : announced ≤ L.item
  pub names : IsSigned (pos id.0) number
  pub may : MayPut T id
  pub type_is : HasParts T id parts
  pub counts : IsUnsigned count counted
  pub whole : bytes ≡ item ++ (number ++ (0 ∷ (counted ++ behind)))

-- the first parts of the value, so many, stand whole in the bytes, and the text has their lines in order
pub record AreFirstLines (lines : ValueLines) (L : Bounds) (T : Table) (bytes text : List ℕ) : Type 0 where
  pub id : TypeId
  pub parts : PartTypes
  pub all : ℕ
  pub first : ℕ
  pub spelled : List ℕ
  pub rest : List ℕ
  pub begins : BeginsWithParts L T id parts all bytes (spelled ++ rest)
  pub each : lines.each ≡ true
  pub chosen : IsChosen (text_of lines.only) T id
  pub few : first ≤ all
  pub style : Style
  pub styled : IsStyleOf lines style
  pub are : AreParts lines style T id (L.depth - 1) parts spelled first text

-- the text is that of an item that isn't whole: the lines of the first parts of its value that stand whole, or nothing
pub data IsBegunText (lines : ValueLines) (L : Bounds) (T : Table) (bytes : List ℕ) : List ℕ → Type 0 where
  nothing_begun : IsBegunText lines L T bytes []
  parts_begun : {text : List ℕ} → AreFirstLines lines L T bytes text → IsBegunText lines L T bytes text

-- ---- the run

-- this holds of the lines of the items, with those of the item that has begun behind them
pub record OfLines (lines : ValueLines) (L : Bounds) (bytes : List ℕ) (P : List ℕ → Type 0) (items : List FilledItem)
    : Type 0 where
  pub begins : BeginsIn profile L bytes items
  pub text : List ℕ
  pub texts : HaveTexts profile (IsPlainLine lines) L bytes items text
  pub begun : List ℕ
  pub begun_is : IsBegunText lines L begins.table begins.rest begun
  pub holds : P (text ++ begun)

-- how the run ends, over an input with these bytes left and an output with the old bytes: at the end of a whole stream
-- the lines of the items went out, and nothing else; before a fault those of the items before it, and behind them those
-- of the first parts of the value whose item was under way; or after a failed write a prefix of such lines
abbrev pub EachAnswers : ValueLines → Bounds → (bytes : List ℕ) → (now old new : Option (List ℕ))
    → Result (Unit {0}) ToolFault → Type 0
EachAnswers lines L bytes now old new (Ok u) = ValuesAnswers lines L bytes now old new (Ok u)
EachAnswers lines L bytes now old new (Err f) = RunAnswersIn profile L bytes now
    (λ T items. OfLines lines L bytes (Appends old new) items)
    (λ T items. OfLines lines L bytes (AppendsPrefix old new) items) (Err f)
