-- Into what the words ask to split a stream. (docs/FORMAT.md, The program: this project's own.)
use Rattle.std.specs.Prelude.{◌≡◌, ◌<◌, ◌*◌, ◌^◌, ◌⊎◌, ℕ, List, [], ◌∷◌, ◌++◌, codes, Option, Some, None}
use Rattle.clap.specs.Words.{Row, Text, first_of}
use Rattle.gob_words.specs.declared.splitting.PartWords.{PartWords}
use Rattle.gob_words.specs.declared.splitting.PartWords.TheVariants as size
use Rattle.gob_words.specs.declared.splitting.Splitting.{Splitting}
use Rattle.gob_words.specs.declared.view.ViewFault.{ViewFault}
use Rattle.gob_words.specs.declared.view.ViewFault.TheVariants as view_fault
use Rattle.gob_words.specs.declared.words.OrderFault.TheVariants as fault
use Rattle.gob_words.specs.Views.{IsWordAtFault}
use Rattle.gob_words.specs.Words.{IsNumber}

-- how many bytes one of a letter's unit is: of K (75), M (77) and G (71)
pub data IsUnit : (letter bytes : ℕ) → Type 0 where
  kilo : IsUnit 75 1024
  mega : IsUnit 77 1048576
  giga : IsUnit 71 1073741824

-- the digits say as many units as this is
pub record AreUnits (digits : Text) (unit n : ℕ) : Type 0 where
  pub count : ℕ
  pub says : IsNumber (Some digits) 0 count
  pub is : n ≡ count * unit
  pub within : n < 2 ^ 64

-- the word says so many bytes: in digits, or in digits and the letter of a unit
pub data IsSizeWord (word : Text) (n : ℕ) : Type 0 where
  in_bytes : IsNumber (Some word) 0 n → IsSizeWord word n
  in_units : {digits : Text} {letter unit : ℕ} → word ≡ digits ++ letter ∷ [] → IsUnit letter unit
      → AreUnits digits unit n → IsSizeWord word n

-- how large a part is, by the words for its bytes and its values, of which one is there at most
abbrev pub IsPartSize : (bytes values : Option Text) → PartWords → Type 0
IsPartSize None None given = given ≡ size.Bytes 67108864
IsPartSize (Some word) None given = (n : ℕ) × (given ≡ size.Bytes n) × IsSizeWord word n
IsPartSize None (Some word) given = (n : ℕ) × (given ≡ size.Values n) × IsNumber (Some word) 0 n
IsPartSize (Some word) (Some other) given = ⊥

-- clap met a subcommand with these rows, and this is how they ask to split
pub record AsksToSplit (met : Option (Text × List Row)) (given : Splitting) : Type 0 where
  pub name : Text
  pub rows : List Row
  pub command : met ≡ Some (name, rows)
  pub directory : first_of (codes "DIR") rows ≡ Some given.directory.now
  pub size : IsPartSize (first_of (codes "size") rows) (first_of (codes "values") rows) given.size

-- or they don't, or no memory was had
abbrev pub RefusesToSplit : Option (Text × List Row) → ViewFault → Type 0
RefusesToSplit met given = (IsWordAtFault given × ((splitting : Splitting) → ¬ AsksToSplit met splitting))
    ⊎ (given ≡ view_fault.Order fault.Memory)
