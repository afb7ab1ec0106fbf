-- How the program ends that converts a stream. (docs/FORMAT.md, The program: this project's own.)
use Rattle.std.specs.Prelude.{◌≡◌, ◌≢◌, ◌++◌, ℕ, Bool, true, false, codes, List, [], Option, Some}
use Rattle.std.specs.Prelude.{Result, Ok, Err, IsErrAnd, string_bytes}
use Rattle.std.specs.Str.{chars}
use Rattle.std.specs.Io.KnownBytes.{append_known}
use Rattle.gob_left_out.specs.Tally.{TallyRow}
use Rattle.gob_left_out.specs.TallyText.{tally_line}
use Rattle.gob_rename.specs.declared.rename.Rename.{Rename}
use Rattle.gob_stream.specs.Bounds.{Bounds, within_trees}
use Rattle.gob_convert.specs.ClashText.{told_clash}
use Rattle.gob_convert.specs.declared.clash.Clash.{Clash}
use Rattle.gob_convert.specs.declared.fault.ConvertFault.{ConvertFault}
use Rattle.gob_convert.specs.declared.fault.ConvertFault.TheVariants as stop
use Rattle.gob_convert.specs.Faults.{OfRun}
use Rattle.gob_convert.specs.Printing.{TakeGoAnswers}
use Rattle.gob_convert.specs.Running.{ConvertAnswers}
use Rattle.gob_tool.specs.declared.fault.ToolFault.{ToolFault}
use Rattle.gob_tool.specs.declared.fault.ToolFault.TheVariants as run_fault
use Rattle.gob_tool.specs.Fault.{fault_line}
use Rattle.gob_tool.specs.Running.{order_limits}
use Rattle.gob_tool.specs.Showing.{CountsWriteFaults}
use Rattle.gob_tool.specs.Taking.{CountsTakeReads}
use Rattle.gob_words.specs.Escaped.{IsUnobeyed, escaped_text}
use Rattle.gob_words.specs.declared.words.Order.{Order}
use Rattle.gob.specs.Exit.{HasAnswered, IsTold, Seen}
use Rattle.gob.specs.declared.Exit.{Exit}
use Rattle.gob.specs.declared.Exit.TheVariants as end

-- a line says what is wrong with a word, or why no more is written, in characters of which a terminal obeys none,
-- unless no memory was had
abbrev pub TellsWord : Exit → Type 0
TellsWord (end.View line) = IsUnobeyed (string_bytes line)
TellsWord told = told ≡ end.Run run_fault.Memory

-- the line of a clash, with those characters escaped that a terminal obeys
abbrev pub IsClashLine : Clash → (line : List ℕ) → Type 0
IsClashLine c line = chars line ≡ escaped_text (chars (codes "gob: " ++ told_clash c))

-- the clash is told so, unless no memory was had
abbrev pub TellsClash : Clash → Exit → Type 0
TellsClash c (end.Lines line) = IsClashLine c (string_bytes line)
TellsClash c told = told ≡ end.Run run_fault.Memory

-- a run that a clash stopped ends so, where its last bytes, these, were lost: if there are any a write failed
pub record EndsAtClash (c : Clash) (lost : List ℕ) (result : Result (Unit {0}) Exit) : Type 0 where
  pub whole : lost ≡ [] → IsErrAnd result (TellsClash c)
  pub cut : lost ≢ [] → HasAnswered (Err run_fault.Write) result

-- a run that answered so ends so, where its last bytes, these, were lost
pub record EndsAs (answer : Result (Unit {0}) ToolFault) (lost : List ℕ) (result : Result (Unit {0}) Exit) : Type 0
  where
    pub told : Result (Unit {0}) ToolFault
    pub tells : IsTold answer lost told
    pub answered : HasAnswered told result

-- and so does a conversion, but where one of the renames doesn't fit, or no more goes into the stream
abbrev pub EndsConversionAs : Result (Unit {0}) ConvertFault → (lost : List ℕ) → Result (Unit {0}) Exit → Type 0
EndsConversionAs (Ok u) lost result = EndsAs (Ok u) lost result
EndsConversionAs (Err (stop.Run fault)) lost result = EndsAs (Err fault) lost result
EndsConversionAs (Err (stop.Clash c)) lost result = EndsAtClash c lost result
EndsConversionAs (Err (stop.Full why)) lost result = IsErrAnd result TellsWord
EndsConversionAs (Err (stop.Misfits number why)) lost result = IsErrAnd result TellsWord

-- a conversion that answered so ends so, where it wrote these bytes, and the writer behind it has the new ones
pub record IsSettledAs (answer : Result (Unit {0}) ConvertFault) (wrote new : Option (List ℕ))
    (result : Result (Unit {0}) Exit) : Type 0 where
  -- what it wrote and the writer didn't take
  pub lost : List ℕ
  pub ends : EndsConversionAs answer lost result
  pub all : wrote ≡ append_known new lost

-- so ends one that a clash stopped
pub record IsClashed (c : Clash) (wrote new : Option (List ℕ)) (result : Result (Unit {0}) Exit) : Type 0 where
  -- what it wrote and the writer didn't take
  pub lost : List ℕ
  pub ends : EndsAtClash c lost result
  pub all : wrote ≡ append_known new lost

-- so ends one that is stopped, though nothing failed
pub record IsStopped (wrote new : Option (List ℕ)) (result : Result (Unit {0}) Exit) : Type 0 where
  -- what it wrote and the writer didn't take
  pub lost : List ℕ
  pub told : IsErrAnd result TellsWord
  pub all : wrote ≡ append_known new lost

-- what the run has done: written the stream that was asked for, or its lines
abbrev pub ConvertsOrTakes : (in_lines : Bool) → List Rename → (all : Bool) → Bounds → (wanted bytes : List ℕ)
    → (wanted_now now old new : Option (List ℕ)) → (told telling : List TallyRow)
    → Result (Unit {0}) ConvertFault → Type 0
ConvertsOrTakes false rs all L wanted bytes wanted_now now old new told telling result =
    ConvertAnswers rs all L wanted bytes wanted_now now old new told telling result
ConvertsOrTakes true rs all L wanted bytes wanted_now now old new told telling result =
    TakeGoAnswers rs all L wanted bytes wanted_now now old new told telling result

-- how a conversion ends, where the wanted stream, the input, the output and the tally of what values leave out were the
-- first of each pair, and are the second
pub record EndsConversion (order : Order) (renames : List Rename) (all in_lines : Bool)
    (wanted wanted_now input now old new : Seen) (told telling : List TallyRow)
    (result : Result (Unit {0}) Exit) : Type 0 where
  pub answer : Result (Unit {0}) ConvertFault
  -- what it wrote and the writer behind it didn't take
  pub lost : List ℕ
  pub ends : EndsConversionAs answer lost result
  -- a read or a write failed where it answers so
  pub reads : OfRun (CountsTakeReads wanted.failures wanted_now.failures input.failures now.failures) answer
  pub writes : OfRun (CountsWriteFaults old.failures new.failures) answer
  pub does : (wanted_bytes bytes : List ℕ) → wanted.bytes ≡ Some wanted_bytes → input.bytes ≡ Some bytes
      → ConvertsOrTakes in_lines renames all (within_trees (order_limits order)) wanted_bytes bytes wanted_now.bytes
      now.bytes old.bytes (append_known new.bytes lost) told telling answer

-- ---- what is told of a fault, and of what is left out
-- its line has names of the stream
abbrev pub HasPath : ToolFault → Type 0
HasPath (run_fault.Clash path reason) = Unit {0}
HasPath (run_fault.LeftOut path value) = Unit {0}
HasPath fault = ⊥

-- the line of the fault, with those characters escaped that a terminal obeys
abbrev pub IsShownLine : ToolFault → (line : List ℕ) → Type 0
IsShownLine fault line = chars line ≡ escaped_text (chars (fault_line fault))

-- and so of the line of what values leave out
abbrev pub IsTallyShown : List TallyRow → (line : List ℕ) → Type 0
IsTallyShown rows line = chars line ≡ escaped_text (chars (tally_line rows))

-- it is told so, unless no memory was had
abbrev pub TellsShown : ToolFault → Exit → Type 0
TellsShown fault (end.Lines line) = IsShownLine fault (string_bytes line)
TellsShown fault told = told ≡ end.Run run_fault.Memory

-- a fault with such names is told so, and any other as it is
pub record IsFaultShown (fault : ToolFault) (result : Exit) : Type 0 where
  pub named : HasPath fault → TellsShown fault result
  pub others : ¬ HasPath fault → result ≡ end.Run fault

abbrev pub IsStopShown : (stop result : Exit) → Type 0
IsStopShown (end.Run fault) result = IsFaultShown fault result
IsStopShown stop result = result ≡ stop

-- and so the end of the program
abbrev pub IsShown : (ending result : Result (Unit {0}) Exit) → Type 0
IsShown (Ok u) result = result ≡ Ok u
IsShown (Err stop) result = IsErrAnd result (IsStopShown stop)
