-- What the words ask of `take --go`. (docs/FORMAT.md, The program: this project's own.)
use Rattle.std.specs.Prelude.{◌≡◌, ◌≤◌, ⊤, List, codes, string_bytes}
use Rattle.std.specs.Prelude.{Option, Some, true}
use Rattle.clap.specs.Words.{Row, Text, first_of, subcommand_of, takes, fault_of, IsAmong}
use Rattle.clap.specs.declared.error.kind.ErrorKind.TheVariants.{DisplayHelp}
use Rattle.gob_words.specs.declared.view.ViewFault.{ViewFault}
use Rattle.gob_words.specs.declared.view.ViewFault.TheVariants as view_fault
use Rattle.gob_words.specs.declared.words.Chosen.TheVariants as chosen
use Rattle.gob_words.specs.declared.words.Order.{Order}
use Rattle.gob_words.specs.declared.words.OrderFault.TheVariants as fault
use Rattle.gob_words.specs.Escaped.{IsUnobeyed}
use Rattle.gob_words.specs.Views.{IsWordAtFault}
use Rattle.gob_words.specs.Words.{AsksForHelp, IsNumber, IsSet, program, text_of}

-- a command is `take` with the flag for Go's encoder, by clap's value of the flag
abbrev pub IsGoTaking : (name : Text) (go : Option Text) → Type 0
IsGoTaking name go = (name ≡ codes "take") × IsSet go

-- clap met a subcommand with these rows, and this is the order that they make
pub record IsGoTakingOf (met : Option (Text × List Row)) (order : Order) : Type 0 where
  pub rows : List Row
  pub name : Text
  pub command : met ≡ Some (name, rows)
  pub go : IsGoTaking name (first_of (codes "go") rows)
  pub takes : order.command ≡ chosen.Take
  pub wanted : text_of order.wanted ≡ first_of (codes "WANTED") rows
  pub input : text_of order.input ≡ first_of (codes "IN") rows
  pub depth : IsNumber (first_of (codes "depth") rows) 1000 order.depth
  pub item : IsNumber (first_of (codes "item") rows) 67108864 order.item
  pub least : 1 ≤ order.depth
  pub most : order.depth ≤ 1000

-- the words, the program's name first, ask for this
unfoldable pub AsksToTakeGo : List Text → Order → Type 0
AsksToTakeGo words order = IsGoTakingOf (subcommand_of program words) order

-- clap refuses the words or they ask for no such thing, and help isn't all that they ask for
abbrev pub AsksForNoGoTaking : List Text → Type 0
AsksForNoGoTaking words =
    (takes program words ≡ true → (order : Order) → ¬ IsGoTakingOf (subcommand_of program words) order)
    × (¬ AsksForHelp words)

-- what the words do where they don't ask for it: they ask for help, or for nothing of the kind; a terminal obeys no
-- character of the line that says what is wrong
unfoldable pub RefusesToTakeGo : List Text → ViewFault → Type 0
RefusesToTakeGo words (view_fault.Word line) = AsksForNoGoTaking words × IsUnobeyed (string_bytes line)
RefusesToTakeGo words (view_fault.Order (fault.Help text)) = IsAmong DisplayHelp (fault_of program words)
RefusesToTakeGo words (view_fault.Order fault.Words) = AsksForNoGoTaking words
RefusesToTakeGo words (view_fault.Order fault.Memory) = ⊤

-- what was met asks for none of it, or no memory was had
abbrev pub IsNoGoTaking : Option (Text × List Row) → ViewFault → Type 0
IsNoGoTaking met (view_fault.Order fault.Memory) = ⊤
IsNoGoTaking met given = ((order : Order) → ¬ IsGoTakingOf met order) × IsWordAtFault given
