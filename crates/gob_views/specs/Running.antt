-- What the run of a view answers. (docs/FORMAT.md, The program: this project's own.)
use Rattle.std.specs.Prelude.{◌≡◌, ℕ, Bool, true, false, List, [], ◌∷◌, ◌++◌, Option, None, Some, Result, Err}
use Rattle.std.specs.Prelude.{◌⊎◌, codes}
use Rattle.std.specs.Io.KnownBytes.{Appends}
use Rattle.gob_tool.specs.CheckingGo.{CheckGoAnswers}
use Rattle.gob_tool.specs.RewritingGo.{RewriteGoAnswers}
use Rattle.gob_tool.specs.ShowingGo.{ShowGoAnswers}
use Rattle.gob_salvage.specs.Running.{IsOf, SalvageAnswers, StopsReading}
use Rattle.gob_salvage.specs.declared.keeping.Salvaged.{Salvaged}
use Rattle.gob_stream.specs.Bounds.{Bounds}
use Rattle.gob_tool.specs.declared.fault.ToolFault.{ToolFault}
use Rattle.gob_tool.specs.declared.fault.ToolFault.TheVariants as fault
use Rattle.gob_why.specs.Explain.{ExplainAnswers}
use Rattle.gob_why.specs.Why.{WhyAnswers}
use Rattle.gob_why.specs.declared.explained.Explained.{Explained}
use Rattle.gob_why.specs.declared.explained.Explained.TheVariants as explained
use Rattle.gob_words.specs.declared.view.View.{View}
use Rattle.gob_words.specs.declared.view.ViewCommand.{ViewCommand}
use Rattle.gob_words.specs.declared.view.ViewCommand.TheVariants as command
use Rattle.gob_words.specs.Words.{text_of}
use Rattle.gob_views.specs.declared.types.SourceForm.{SourceForm}
use Rattle.gob_views.specs.declared.types.SourceForm.TheVariants as form
use Rattle.gob_views.specs.declared.value_line.ValueLines.{ValueLines}
use Rattle.gob_views.specs.Each.{EachAnswers}
use Rattle.gob_views.specs.Sending.{SendsText}
use Rattle.gob_views.specs.Types.{TypesAnswers}
use Rattle.gob_views.specs.Values.{ValuesAnswers}

-- the limits under which the stream is read
abbrev pub view_limits : View → Bounds
view_limits view = record { item = view.item; depth = view.depth; types = 10000; stream = 68719476736 }

-- how values are printed, and which
pub record AreLinesOf (view : View) (lines : ValueLines) : Type 0 where
  pub zeros : lines.zeros ≡ view.zeros
  pub raw : lines.raw ≡ view.raw
  pub kinds : lines.kinds.now ≡ view.kinds.items
  pub tagged : lines.tagged ≡ view.tagged
  pub typed : lines.typed ≡ view.typed
  pub only : text_of lines.only ≡ text_of view.only
  pub each : lines.each ≡ view.each

-- which items are explained: the refused one before the one around a byte, where both are asked for
abbrev pub explained_by : (fault : Bool) → (at : Option ℕ) → Explained
explained_by true at = explained.Fault
explained_by false None = explained.All
explained_by false (Some place) = explained.At place

abbrev pub view_explained : View → Explained
view_explained view = explained_by view.fault view.at

-- what is written of types
abbrev pub form_by : (main : Bool) → SourceForm
form_by true = form.Program
form_by false = form.Types

abbrev pub view_form : View → SourceForm
view_form view = form_by view.main

-- the line that names the program and its version
abbrev pub version_line : List ℕ
version_line = codes "gob 0.1.0" ++ 10 ∷ []

-- how the run that prints values ends, where each part of a list or map stands on a line of its own or not
abbrev pub LinesAnswers : (each : Bool) → ValueLines → Bounds → (bytes : List ℕ) → (now old new : Option (List ℕ))
    → Result (Unit {0}) ToolFault → Type 0
LinesAnswers false lines L bytes now old new result = ValuesAnswers lines L bytes now old new result
LinesAnswers true lines L bytes now old new result = EachAnswers lines L bytes now old new result

-- how the run of this command ends, over an input with these bytes left and an output with the old bytes
abbrev pub CommandAnswers : ViewCommand → View → (bytes : List ℕ) → (now old new : Option (List ℕ))
    → Result (Unit {0}) ToolFault → Type 0
CommandAnswers command.Values view bytes now old new result =
    (lines : ValueLines) × AreLinesOf view lines
    × LinesAnswers view.each lines (view_limits view) bytes now old new result
CommandAnswers command.Types view bytes now old new result =
    TypesAnswers (view_form view) (view_limits view) bytes now old new result
CommandAnswers command.Why view bytes now old new result = WhyAnswers (view_limits view) bytes now old new result
CommandAnswers command.Explain view bytes now old new result =
    ExplainAnswers (view_explained view) (view_limits view) bytes now old new result
CommandAnswers command.Salvage view bytes now old new result =
    (told : Option Salvaged) × SalvageAnswers (view_limits view) bytes now old new told result
CommandAnswers command.Split view bytes now old new result = SendsText old new [] result
CommandAnswers command.Join view bytes now old new result = SendsText old new [] result
CommandAnswers command.Write view bytes now old new result = SendsText old new [] result
CommandAnswers command.Make view bytes now old new result = SendsText old new [] result
CommandAnswers command.Version view bytes now old new result = SendsText old new version_line result
CommandAnswers command.ShowGo view bytes now old new result = ShowGoAnswers (view_limits view) bytes now old new result
CommandAnswers command.CheckGo view bytes now old new result =
    CheckGoAnswers (view_limits view) bytes now old new result
CommandAnswers command.Verify view bytes now old new result =
    CheckGoAnswers (view_limits view) bytes now old new result
CommandAnswers command.RewriteGo view bytes now old new result =
    RewriteGoAnswers view.hoist (view_limits view) bytes now old new result

-- ---- of what isn't damaged
-- whether the command is shown of that, where it is asked for so
abbrev pub shows_kept : ViewCommand → (is_asked : Bool) → Bool
shows_kept command.Values is_asked = is_asked
shows_kept command.Types is_asked = is_asked
shows_kept command.ShowGo is_asked = is_asked
shows_kept _ is_asked = false

-- what a run over bytes in memory has answered: no read of these fails
abbrev pub in_memory : Result (Unit {0}) ToolFault → Result (Unit {0}) ToolFault
in_memory (Err fault.Read) = Err fault.Memory
in_memory answer = answer

-- the run of the command was one over these bytes in memory, whatever it left of them
pub record ShowsBytes (view : View) (bytes : List ℕ) (old new : Option (List ℕ))
    (result : Result (Unit {0}) ToolFault) : Type 0 where
  pub left : Option (List ℕ)
  pub answer : Result (Unit {0}) ToolFault
  pub shows : CommandAnswers view.command view bytes left old new answer
  pub is : result ≡ in_memory answer

-- all of the input was read, the run was one over what is kept of it, and that is told
pub record ShowsKept (view : View) (bytes : List ℕ) (now old new : Option (List ℕ)) (told : Option Salvaged)
    (result : Result (Unit {0}) ToolFault) : Type 0 where
  pub kept : Salvaged
  pub is : IsOf (view_limits view) bytes kept
  pub end : now ≡ Some []
  pub shows : ShowsBytes view kept.bytes.items old new result
  pub tells : told ≡ Some kept

-- less than all of the input could be read and kept, and nothing went out
pub record ShowsNothing (view : View) (bytes : List ℕ) (old new : Option (List ℕ))
    (result : Result (Unit {0}) ToolFault) : Type 0 where
  pub fault : ToolFault
  pub is : result ≡ Err fault
  pub stops : StopsReading (view_limits view).stream bytes fault
  pub sent : Appends old new []

-- how what the view asks for ends, where it is shown of what is kept of the input
abbrev pub KeptAnswers : View → (bytes : List ℕ) → (now old new : Option (List ℕ)) → (told : Option Salvaged)
    → Result (Unit {0}) ToolFault → Type 0
KeptAnswers view bytes now old new told result =
    ShowsKept view bytes now old new told result ⊎ ShowsNothing view bytes old new result

-- ---- the run
-- and of all of the input else
abbrev pub AnswersBy : (of_kept : Bool) → View → (bytes : List ℕ) → (now old new : Option (List ℕ))
    → Result (Unit {0}) ToolFault → Type 0
AnswersBy false view bytes now old new result = CommandAnswers view.command view bytes now old new result
AnswersBy true view bytes now old new result =
    (told : Option Salvaged) × KeptAnswers view bytes now old new told result

-- how what the view asks for ends
abbrev pub ViewAnswers : View → (bytes : List ℕ) → (now old new : Option (List ℕ)) → Result (Unit {0}) ToolFault
    → Type 0
ViewAnswers view bytes now old new result =
    AnswersBy (shows_kept view.command view.salvage) view bytes now old new result
