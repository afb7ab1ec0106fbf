-- Under which types the words ask to write a stream of plain JSON. (docs/FORMAT.md, The program: this project's own.)
use Rattle.std.specs.Prelude.{◌≡◌, ◌⊎◌, List, codes, Option, Some}
use Rattle.clap.specs.Words.{Row, Text, first_of}
use Rattle.gob_words.specs.declared.making.Making.{Making}
use Rattle.gob_words.specs.declared.view.ViewFault.{ViewFault}
use Rattle.gob_words.specs.declared.view.ViewFault.TheVariants as view_fault
use Rattle.gob_words.specs.declared.words.OrderFault.TheVariants as fault
use Rattle.gob_words.specs.Views.{IsGiven, IsWordAtFault}
use Rattle.gob_words.specs.Words.{text_of}

-- clap met a subcommand with these rows, and these are the words in them for the types
pub record AsksToMake (met : Option (Text × List Row)) (given : Making) : Type 0 where
  pub name : Text
  pub rows : List Row
  pub command : met ≡ Some (name, rows)
  pub types : first_of (codes "types") rows ≡ text_of given.types
  pub named : first_of (codes "type") rows ≡ text_of given.named
  pub lenient : IsGiven (first_of (codes "lenient") rows) given.lenient

-- or it met none, or no memory was had
abbrev pub RefusesToMake : Option (Text × List Row) → ViewFault → Type 0
RefusesToMake met given = (IsWordAtFault given × ((making : Making) → ¬ AsksToMake met making))
    ⊎ (given ≡ view_fault.Order fault.Memory)
