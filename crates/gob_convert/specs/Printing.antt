-- What a run answers that prints the stream of the values of another, received as values of a wanted type, and what it
-- has printed then. (docs/FORMAT.md, The program: this project's own.)
use Rattle.std.specs.Prelude.{ℕ, Bool, List, [], Option, Some, Result, Ok, Err}
use Rattle.gob_left_out.specs.Tally.{TallyRow}
use Rattle.gob_rename.specs.declared.rename.Rename.{Rename}
use Rattle.gob_stream.specs.Bounds.{Bounds}
use Rattle.gob_tool.specs.ShowingGo.{ShowGoAnswers}
use Rattle.gob_tool.specs.declared.fault.ToolFault.{ToolFault}
use Rattle.gob_tool.specs.declared.fault.ToolFault.TheVariants as fault
use Rattle.gob_convert.specs.Running.{ConvertAnswers}
use Rattle.gob_convert.specs.declared.fault.ConvertFault.{ConvertFault}
use Rattle.gob_convert.specs.declared.fault.ConvertFault.TheVariants as stop

-- how a run that shows the whole stream that was written would answer: where no memory was had or a write failed, as
-- behind a failed write
abbrev pub shows_so : Result (Unit {0}) ConvertFault → Result (Unit {0}) ToolFault
shows_so (Ok u) = Ok u
shows_so (Err (stop.Misfits number why)) = Ok tt
shows_so (Err (stop.Full why)) = Ok tt
shows_so (Err (stop.Clash c)) = Ok tt
shows_so (Err (stop.Run (fault.Refused R))) = Ok tt
shows_so (Err (stop.Run (fault.Wanted R))) = Ok tt
shows_so (Err (stop.Run fault.NoWantedType)) = Ok tt
shows_so (Err (stop.Run (fault.Clash path why))) = Ok tt
shows_so (Err (stop.Run (fault.LeftOut path number))) = Ok tt
shows_so (Err (stop.Run fault.Read)) = Ok tt
shows_so (Err (stop.Run fault.Write)) = Err fault.Write
shows_so (Err (stop.Run fault.Memory)) = Err fault.Write

-- of the stream the lines of `show --go` went out, and nothing else: all of them, or a prefix of those of some items
-- that it begins with
abbrev pub PrintsLines : Bounds → (stream : List ℕ) → (old new : Option (List ℕ)) → Result (Unit {0}) ConvertFault
    → Type 0
PrintsLines L stream old new result = ShowGoAnswers L stream (Some []) old new (shows_so result)

-- how the run ends, over a wanted stream and an input with these bytes left, an output with the old bytes, and a tally
-- that told the first rows and is telling the second: as a conversion that writes a stream to an output that had none,
-- and the lines of that stream went out
pub record TakeGoAnswers (rs : List Rename) (all : Bool) (L : Bounds) (wanted bytes : List ℕ)
    (wanted_now now old new : Option (List ℕ)) (told telling : List TallyRow)
    (result : Result (Unit {0}) ConvertFault) : Type 0 where
  pub stream : List ℕ
  pub converted : ConvertAnswers rs all L wanted bytes wanted_now now (Some []) (Some stream) told telling result
  pub printed : PrintsLines L stream old new result
