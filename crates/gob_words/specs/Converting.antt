-- What the words ask of a conversion. (docs/FORMAT.md, The program: this project's own.)
use Rattle.std.specs.Prelude.{◌≡◌, List, codes, map, Option}
use Rattle.clap.specs.Words.{Row, Text}
use Rattle.gob_words.specs.declared.converting.Converting.{Converting}
use Rattle.gob_words.specs.Views.{IsFlagIn, words_in}

-- clap met a subcommand with these rows, and these are the words in them for the conversion
pub record AsksOfConversion (met : Option (Text × List Row)) (given : Converting) : Type 0 where
  pub renames : map (λ word. word.now) given.renames.items ≡ words_in (codes "rename") met
  pub all : IsFlagIn (codes "all") met given.all
