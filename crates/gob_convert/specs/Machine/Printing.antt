-- Where a run stands that prints the stream that a conversion writes. For private clauses.
use Rattle.std.specs.Prelude.{◌≡◌, ℕ, Bool, List, [], Option, None, Some, Result, Ok, Err}
use Rattle.std.specs.Io.KnownBytes.{Appends}
use Rattle.gob_types.specs.Base.{base_table}
use Rattle.gob_types.specs.Table.{Table}
use Rattle.gob_types.specs.declared.id.TypeId.{TypeId}
use Rattle.gob_left_out.specs.Tally.{TallyRow}
use Rattle.gob_stream.specs.Bounds.{Bounds, within_trees}
use Rattle.gob_stream.specs.Calls.Writing.{SentPrefix}
use Rattle.gob_filled.specs.Outcome.{FilledOutcome, the_end, profile}
use Rattle.gob_filled.specs.Stream.{FilledItem}
use Rattle.gob_go.specs.Calls.Reader.{GoReader}
use Rattle.gob_go.specs.Calls.Session.{HasRead, limits_of}
use Rattle.gob_go.specs.Machine.SessionState.{SessionState}
use Rattle.gob_go.specs.declared.item.GoItem.{GoItem}
use Rattle.gob_tool.specs.LineGo.{IsLinesOf}
use Rattle.gob_tool.specs.Machine.LinesGo.{LinesGiven}
use Rattle.gob_tool.specs.ShowingGo.{ShowGoAnswers}
use Rattle.gob_tool.specs.Texts.{HaveTexts}
use Rattle.gob_tool.specs.declared.fault.ToolFault.{ToolFault}
use Rattle.gob_tool.specs.declared.fault.ToolFault.TheVariants as fault
use Rattle.gob_convert.specs.Machine.Converting.{ConvertsSo, StopsConverting}
use Rattle.gob_convert.specs.Printing.{PrintsLines}
use Rattle.gob_convert.specs.Running.{ConvertsBehind}
use Rattle.gob_convert.specs.declared.conversion.Conversion.{Conversion}
use Rattle.gob_convert.specs.declared.fault.ConvertFault.{ConvertFault}

-- ---- an item
-- the lines of what a step gave went out, or a prefix of them, or none
abbrev pub ShowsItem : Option GoItem → Table → (old new : Option (List ℕ)) → Result (Unit {0}) ToolFault → Type 0
ShowsItem None T old new (Ok _) = Appends old new []
ShowsItem None T old new (Err f) = ⊥
ShowsItem (Some given) T old new (Ok _) = (text : List ℕ) × LinesGiven T given text × Appends old new text
ShowsItem (Some given) T old new (Err fault.Memory) = Appends old new []
ShowsItem (Some given) T old new (Err fault.Write) =
    (text : List ℕ) × LinesGiven T given text × SentPrefix text old new
ShowsItem (Some given) T old new (Err _) = ⊥

-- ---- a piece
-- the bytes are a whole stream
abbrev pub IsStream : Bounds → List ℕ → Type 0
IsStream L stream = (items : List FilledItem) × FilledOutcome base_table L stream items the_end

-- of a stream that begins with these bytes the session has read them, and the lines of their items went out
pub record ShowsSo (s : SessionState) (stream came : List ℕ) (start now : Option (List ℕ)) : Type 0 where
  pub items : List FilledItem
  pub read : HasRead s items came
  pub text : List ℕ
  pub texts : HaveTexts profile IsLinesOf (within_trees (limits_of s)) stream items text
  pub went : Appends start now text

-- all of it
pub record HasShown (s : SessionState) (stream : List ℕ) (start now : Option (List ℕ)) : Type 0 where
  pub so : ShowsSo s stream stream start now
  pub whole : so.read.under_way ≡ []

-- a prefix of the lines of some items that it begins with went out
abbrev pub IsCutShort : Bounds → (stream : List ℕ) → (start now : Option (List ℕ)) → Type 0
IsCutShort L stream start now = ShowGoAnswers L stream (Some []) start now (Err fault.Write)

-- what stops it
abbrev pub IsShowStop : ToolFault → Type 0
IsShowStop fault.Memory = Unit {0}
IsShowStop fault.Write = Unit {0}
IsShowStop _ = ⊥

abbrev pub ShowsPiece : Bounds → (s : SessionState) → (stream : List ℕ) → (start now : Option (List ℕ))
    → Result (Unit {0}) ToolFault → Type 0
ShowsPiece L s stream start now (Ok _) = HasShown s stream start now
ShowsPiece L s stream start now (Err f) = IsShowStop f × IsCutShort L stream start now

-- ---- from item to item
-- what was read is converted, as a stream whose lines went out; or why no more is, and how much of its lines went out
abbrev pub TakesNext : (all : Bool) → (r : GoReader) → (read now : Option (List ℕ)) → Conversion → (s : SessionState)
    → Table → TypeId → (front : List FilledItem) → (out : List ℕ) → (start sent : Option (List ℕ))
    → (told : List TallyRow) → Result (Unit {0}) ConvertFault → Type 0
TakesNext all r read now c s W u front out start sent told (Ok _) = (stream : List ℕ)
    × ConvertsSo all r read now c W u front out (Some []) (Some stream) told × HasShown s stream start sent
TakesNext all r read now c s W u front out start sent told (Err e) = (stream : List ℕ)
    × StopsConverting all r read now W u front (Some []) (Some stream) told c.left_out e
    × PrintsLines (within_trees (limits_of s)) stream start sent (Err e)

-- the values of an input are converted, as a stream whose lines went out
abbrev pub TakesBehind : (all : Bool) → Bounds → (bytes : List ℕ) → (now : Option (List ℕ)) → (front : List FilledItem)
    → Table → TypeId → (start sent : Option (List ℕ)) → (told telling : List TallyRow)
    → Result (Unit {0}) ConvertFault → Type 0
TakesBehind all L bytes now front W u start sent told telling result = (stream : List ℕ)
    × ConvertsBehind all L bytes now front W u (Some []) (Some stream) told telling result
    × PrintsLines L stream start sent result
