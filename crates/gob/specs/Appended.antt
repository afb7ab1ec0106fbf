-- Files to which several encoders of one program wrote. (docs/FORMAT.md, Several encoders: this project's own.)
use Rattle.std.specs.Prelude.{◌≡◌, Bool, true, false, not, ◌&&◌, if◌then◌else◌, Result, Ok, Err}
use Rattle.gob_appended.specs.Reader.{end_in, place_in}
use Rattle.gob_appended.specs.declared.appended.Appended.{Appended}
use Rattle.gob_stream.specs.declared.fault.Refusal.{Refusal}
use Rattle.gob_tool.specs.declared.fault.ToolFault.TheVariants as run_fault
use Rattle.gob_words.specs.declared.view.View.{View}
use Rattle.gob_words.specs.declared.view.ViewCommand.{ViewCommand}
use Rattle.gob_words.specs.declared.view.ViewCommand.TheVariants as command
use Rattle.gob.specs.declared.Exit.{Exit}
use Rattle.gob.specs.declared.Exit.TheVariants.{Run}

-- the command is for people
abbrev pub is_for_people : ViewCommand → Bool
is_for_people command.Values = true
is_for_people command.Types = true
is_for_people _ = false

abbrev pub leaves_out : View → Bool
leaves_out view = not view.salvage && is_for_people view.command

-- a refusal told by the offsets of the input, as the reader has left things out of that
pub record IsInInput {R : Type 0} (reader : Appended R) (refusal told : Refusal) : Type 0 where
  pub place : told.place ≡ place_in reader refusal.place
  pub seen : told.seen ≡ end_in reader refusal.seen
  pub reason : told.reason ≡ refusal.reason

-- so a refusal of the run is told, a failed read for want of memory as that, and any other end as it is
abbrev pub TellsInInput : {R : Type 0} → Appended R → (ending result : Result (Unit {0}) Exit) → Type 0
TellsInInput reader (Err (Run (run_fault.Refused refusal))) result =
    (told : Refusal) × IsInInput reader refusal told × (result ≡ Err (Run (run_fault.Refused told)))
TellsInInput reader (Err (Run run_fault.Read)) result =
    result ≡ Err (Run (if reader.lacks_memory then run_fault.Memory else run_fault.Read))
TellsInInput reader ending result = result ≡ ending
