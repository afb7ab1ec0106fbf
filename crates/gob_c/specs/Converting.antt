-- What the exports tell C of streams whose values are converted.
use Rattle.std.specs.Prelude.{◌≡◌, ◌≢◌, ℕ, Bool, List, [], ◌∷◌, length, Option, Some, None, Result, Ok, Err}
use Rattle.std.specs.Str.{chars}
use Rattle.gob_types.specs.Reasons.{reason_number}
use Rattle.gob_types.specs.Table.{Table}
use Rattle.gob_left_out.specs.Tally.{TallyRow}
use Rattle.gob_left_out.specs.TallyText.{tally_line}
use Rattle.gob_rename.specs.declared.rename.Rename.{Rename}
use Rattle.gob_stream.specs.Bounds.{AreLimits, Bounds, deepest, within_trees}
use Rattle.gob_stream.specs.Calls.Writing.{HasWritten}
use Rattle.gob_stream.specs.Item.{StreamItem}
use Rattle.gob_tool.specs.declared.fault.ToolFault.{ToolFault}
use Rattle.gob_tool.specs.declared.fault.ToolFault.TheVariants as tool
use Rattle.gob_convert.specs.Running.{ConvertAnswers}
use Rattle.gob_convert.specs.declared.fault.ConvertFault.{ConvertFault}
use Rattle.gob_convert.specs.declared.fault.ConvertFault.TheVariants as stop
use Rattle.gob_plain_writer.specs.Opening.{IsWriterOfSource, IsWriterOfStream}
use Rattle.gob_plain_writer.specs.Writing.{PutAnswers, waiting}
use Rattle.gob_plain_writer.specs.declared.fault.OpenFault.TheVariants as opening
use Rattle.gob_plain_writer.specs.declared.writer.PlainWriter.{PlainWriter}
use Rattle.gob_words.specs.Escaped.{escaped_text}
use Rattle.gob_c.specs.Renames.{AsksRenames, IsRenamesFault}
use Rattle.gob_c.specs.Streams.{PutsStream, stream_told}
use Rattle.gob_c.specs.Texts.{put_in}
use Rattle.gob_c.specs.Writing.{standard}
use Rattle.gob_c.specs.declared.in_memory.Converted.{Converted}
use Rattle.gob_c.specs.declared.renames.RenamesFault.{RenamesFault}
use Rattle.gob_c.specs.declared.renames.RenamesFault.TheVariants as renaming
use Rattle.gob_c.specs.declared.streams.StreamTold.{StreamTold}
use Rattle.gob_c.specs.declared.wanted.WantedFault.{WantedFault}
use Rattle.gob_c.specs.declared.wanted.WantedFault.TheVariants as wanting

-- ---- the wanted type

-- the plain JSON of a zero
abbrev pub null_text : List ℕ
null_text = 110 ∷ 117 ∷ 108 ∷ 108 ∷ []

-- what waits in a writer that was given the zero of its type, behind all that it had written
pub record IsZeroBehind (w : PlainWriter) (wanted : List ℕ) : Type 0 where
  pub behind : PlainWriter
  pub puts : (items : List StreamItem) (bytes : List ℕ) (T : Table) → HasWritten w.stream items bytes T
      → PutAnswers w behind items bytes T null_text (Ok tt)
  pub waits : wanted ≡ waiting behind

-- a stream of the type that Go source declares, and that is asked for
pub record IsWantedOfSource (text : List ℕ) (named : Option (List ℕ)) (wanted : List ℕ) : Type 0 where
  pub writer : PlainWriter
  pub opened : IsWriterOfSource standard text named writer
  pub zero : IsZeroBehind writer wanted

-- or of one that another stream has and that is asked for
pub record IsWantedOfNamed (bytes : List ℕ) (named : Option (List ℕ)) (wanted : List ℕ) : Type 0 where
  pub writer : PlainWriter
  pub opened : IsWriterOfStream standard bytes named writer
  pub zero : IsZeroBehind writer wanted

-- where none is asked for that is the stream itself
pub data IsWantedOfStream (bytes : List ℕ) (wanted : List ℕ) : (named : Option (List ℕ)) → Type 0 where
  of_first : wanted ≡ bytes → IsWantedOfStream bytes wanted None
  of_named : {name : List ℕ} → IsWantedOfNamed bytes (Some name) wanted → IsWantedOfStream bytes wanted (Some name)

-- ---- the run

-- the run wrote this stream of what is received of the values, to an output that was empty, told which fields they
-- leave out, and answered so
pub record Converts (rs : List Rename) (all : Bool) (L : Bounds) (wanted bytes stream : List ℕ) (left : List TallyRow)
    (answer : Result (Unit {0}) ConvertFault) : Type 0 where
  pub wanted_now : Option (List ℕ)
  pub now : Option (List ℕ)
  pub answers : ConvertAnswers rs all L wanted bytes wanted_now now (Some []) (Some stream) [] left answer

abbrev pub IsConverted : List Rename → (all : Bool) → Bounds → (wanted bytes : List ℕ) → Converted → Type 0
IsConverted rs all L wanted bytes made = Converts rs all L wanted bytes made.stream.items made.left_out made.answer

-- ---- what is told

-- where the stream has so many bytes, and the line of what the values leave out
abbrev pub converted_told : (status reason length left_out words : ℕ) → StreamTold
converted_told status reason length left_out words = record {
  status = status;
  reason = reason;
  column = 0;
  words = words;
  length = length;
  left_out = left_out;
}

-- of what stops any run
abbrev pub told_of_fault : ToolFault → (length left_out words : ℕ) → StreamTold
told_of_fault (tool.Refused R) length left_out words =
    converted_told 1 (reason_number R.reason) length left_out words
told_of_fault (tool.Wanted R) length left_out words =
    converted_told 1 (reason_number R.reason) length left_out words
told_of_fault tool.NoWantedType length left_out words = converted_told 1 0 length left_out words
told_of_fault (tool.Clash path reason) length left_out words = converted_told 1 0 length left_out words
told_of_fault (tool.LeftOut path number) length left_out words = converted_told 1 0 length left_out words
told_of_fault tool.Read length left_out words = converted_told 2 0 length left_out words
told_of_fault tool.Write length left_out words = converted_told 2 0 length left_out words
told_of_fault tool.Memory length left_out words = converted_told 2 0 length left_out words

-- of an answer of the run
abbrev pub told_of_run : Result (Unit {0}) ConvertFault → (length left_out words : ℕ) → StreamTold
told_of_run (Ok u) length left_out words = converted_told 0 0 length left_out words
told_of_run (Err (stop.Run f)) length left_out words = told_of_fault f length left_out words
told_of_run (Err (stop.Full reason)) length left_out words =
    converted_told 1 (reason_number reason) length left_out words
told_of_run (Err (stop.Clash c)) length left_out words = converted_told 1 0 length left_out words
told_of_run (Err (stop.Misfits number why)) length left_out words = converted_told 1 0 length left_out words

-- of why there is no wanted type
abbrev pub told_of_wanted : WantedFault → (words : ℕ) → StreamTold
told_of_wanted wanting.Memory words = stream_told 2 0 0 0 words
told_of_wanted (wanting.Types opening.Memory) words = stream_told 2 0 0 0 words
told_of_wanted (wanting.Types (opening.Refused r)) words = stream_told 1 (reason_number r) 0 0 words
told_of_wanted _ words = stream_told 1 0 0 0 words

-- of why the words of the renames say none
abbrev pub told_of_renames : RenamesFault → (words : ℕ) → StreamTold
told_of_renames renaming.Memory words = stream_told 2 0 0 0 words
told_of_renames _ words = stream_told 1 0 0 0 words

-- ---- what is put into the rooms of the caller: for the stream, for the words about a fault, and for the line of what
-- the values leave out

pub record Rooms : Type 0 where
  pub stream : List ℕ
  pub said : List ℕ
  pub left_out : List ℕ

-- the line of what they leave out, with those characters escaped that a terminal obeys; none where that is nothing
pub data TellsLeftOut (rows : List TallyRow) (line : List ℕ) : Type 0 where
  is_nothing : rows ≡ [] → line ≡ [] → TellsLeftOut rows line
  is_told : rows ≢ [] → chars line ≡ escaped_text (chars (tally_line rows)) → TellsLeftOut rows line

-- the stream was put into its room, and the line into its own, and it is told how the run ended; or there was no memory
-- for the line
pub data PutsMade (stream : List ℕ) (tally : List TallyRow) (answer : Result (Unit {0}) ConvertFault)
    (before after : Rooms) (told : StreamTold) : Type 0 where
  is_put : (line : List ℕ) → TellsLeftOut tally line → after.stream ≡ put_in stream before.stream
      → after.left_out ≡ put_in line before.left_out
      → PutsStream (told_of_run answer (length stream) (length line)) before.said after.said told
      → PutsMade stream tally answer before after told
  lacks_memory : after ≡ before → told ≡ stream_told 2 0 0 0 0 → PutsMade stream tally answer before after told

-- nothing was made, and it is told why
pub record Refuses (told_with : ℕ → StreamTold) (before after : Rooms) (told : StreamTold) : Type 0 where
  pub unmade : after.stream ≡ before.stream
  pub untold : after.left_out ≡ before.left_out
  pub says : PutsStream told_with before.said after.said told

-- the values were converted as the words of the renames ask; or these ask for nothing
pub data PutsConverted (all : Bool) (L : Bounds) (renames wanted bytes : List ℕ) (before after : Rooms)
    (told : StreamTold) : Type 0 where
  is_run : (rs : List Rename) → AsksRenames renames rs → (stream : List ℕ) → (tally : List TallyRow)
      → (answer : Result (Unit {0}) ConvertFault) → Converts rs all L wanted bytes stream tally answer
      → PutsMade stream tally answer before after told → PutsConverted all L renames wanted bytes before after told
  has_no_renames : (f : RenamesFault) → IsRenamesFault renames f → Refuses (told_of_renames f) before after told
      → PutsConverted all L renames wanted bytes before after told

-- so it was for a wanted stream of which this holds; or there is none, or the limits are none
pub data ConvertTold (limits : Bounds) (all : Bool) (renames : List ℕ) (IsWanted : List ℕ → Type 0) (bytes : List ℕ)
    (before after : Rooms) (told : StreamTold) : Type 0 where
  is_converted : AreLimits deepest limits → (wanted : List ℕ) → IsWanted wanted
      → PutsConverted all (within_trees limits) renames wanted bytes before after told
      → ConvertTold limits all renames IsWanted bytes before after told
  isn't_wanted : AreLimits deepest limits → (f : WantedFault) → Refuses (told_of_wanted f) before after told
      → ConvertTold limits all renames IsWanted bytes before after told
  has_no_limits : (AreLimits deepest limits → ⊥) → after ≡ before → told ≡ stream_told 4 0 0 0 0
      → ConvertTold limits all renames IsWanted bytes before after told
