-- Whether the words ask for texts in place of numbers. (docs/FORMAT.md, The program: this project's own.)
use Rattle.std.specs.Prelude.{◌≡◌, List, codes, Bool, Option}
use Rattle.clap.specs.Words.{Row, Text}
use Rattle.gob_words.specs.declared.words.OrderFault.{OrderFault}
use Rattle.gob_words.specs.declared.words.OrderFault.TheVariants as fault
use Rattle.gob_words.specs.Views.{IsFlagIn}

-- clap met a subcommand with these rows, in which the flag is given or not
abbrev pub AsksForTexts : Option (Text × List Row) → Bool → Type 0
AsksForTexts met given = IsFlagIn (codes "numbers-as-text") met given

abbrev pub IsNoMemory : OrderFault → Type 0
IsNoMemory given = given ≡ fault.Memory
