-- What the words ask the program for. (docs/FORMAT.md, The program: this project's own.)
use Rattle.std.specs.Prelude.{◌≡◌, ◌≢◌, ◌⊎◌, List, map}
use Rattle.clap.specs.Words.{Text, subcommand_of}
use Rattle.gob_words.specs.Making.{AsksToMake, RefusesToMake}
use Rattle.gob_words.specs.Splitting.{AsksToSplit, RefusesToSplit}
use Rattle.gob_words.specs.Taking.{AsksToTakeGo, RefusesToTakeGo}
use Rattle.gob_words.specs.Views.{AsksToView, RefusesToView, files_in}
use Rattle.gob_words.specs.Words.{Asks, HasNoFault, Refuses, program}
use Rattle.gob_words.specs.declared.view.View.{View}
use Rattle.gob_words.specs.declared.view.ViewCommand.{ViewCommand}
use Rattle.gob_words.specs.declared.view.ViewCommand.TheVariants as command
use Rattle.gob_words.specs.declared.view.ViewFault.{ViewFault}
use Rattle.gob_words.specs.declared.view.ViewFault.TheVariants as fault
use Rattle.gob_words.specs.declared.words.OrderFault.TheVariants as order_fault
use Rattle.gob.specs.declared.asked.Asked.{Asked}
use Rattle.gob.specs.declared.asked.Asked.TheVariants as asked

-- the command takes some files
abbrev pub TakesFiles : ViewCommand → Type 0
TakesFiles given = (given ≡ command.Verify) ⊎ (given ≡ command.Join)

-- the words ask for this: of a view that reads some files with their names, of parts with their size and directory,
-- and of plain JSON with its types; and to print what is received
abbrev pub AsksFor : List Text → Asked → Type 0
AsksFor words (asked.Order order) = Asks words order
AsksFor words (asked.GoTaking order) = AsksToTakeGo words order
AsksFor words (asked.View view) = AsksToView words view × (view.command ≢ command.Split)
    × (view.command ≢ command.Make) × (TakesFiles view.command → ⊥)
AsksFor words (asked.Parts view splitting) = AsksToView words view × (view.command ≡ command.Split)
    × (HasNoFault words → AsksToSplit (subcommand_of program words) splitting)
AsksFor words (asked.Made view making) = AsksToView words view × (view.command ≡ command.Make)
    × (HasNoFault words → AsksToMake (subcommand_of program words) making)
AsksFor words (asked.Files view files) = AsksToView words view × TakesFiles view.command
    × (HasNoFault words → map (λ file. file.now) files.items ≡ files_in (subcommand_of program words))

-- the words ask for parts of no size
pub record RefusesParts (words : List Text) (given : ViewFault) : Type 0 where
  pub view : View
  pub asks : AsksToView words view
  pub parts : view.command ≡ command.Split
  pub refuses : HasNoFault words → RefusesToSplit (subcommand_of program words) given

-- or name no types
pub record RefusesMaking (words : List Text) (given : ViewFault) : Type 0 where
  pub view : View
  pub asks : AsksToView words view
  pub made : view.command ≡ command.Make
  pub refuses : HasNoFault words → RefusesToMake (subcommand_of program words) given

-- the words ask for nothing to be shown: as a view, or for parts of no size or under no types
abbrev pub RefusesShown : List Text → ViewFault → Type 0
RefusesShown words given = RefusesToView words given ⊎ (RefusesParts words given ⊎ RefusesMaking words given)

-- nor to be received
pub record RefusesTaking (words : List Text) (given : ViewFault) : Type 0 where
  pub shown : RefusesShown words (fault.Order order_fault.Words)
  pub refuses : RefusesToTakeGo words given

-- the words ask for nothing: as an order or for help, to be shown or to be received; or no memory was had
abbrev pub RefusesAll : List Text → ViewFault → Type 0
RefusesAll words (fault.Order given) = Refuses words given
    ⊎ (RefusesShown words (fault.Order given) ⊎ RefusesTaking words (fault.Order given))
RefusesAll words given = RefusesShown words given ⊎ RefusesTaking words given
