-- What the definitions of texts in place of numbers say together.
use Rattle.std.specs.Prelude.{◌≡◌, ℕ, List, ◌++◌, false, All, map}
use Rattle.serde_json.specs.Data.{Data}
use Rattle.serde_json.specs.Written.{has_float}
use Rattle.json_number_texts.specs.Texts.{as_texts, lines, place_after, with_texts}
use Rattle.json_number_texts.specs.declared.place.Place.{Place}
use Rattle.json_number_texts.specs.declared.place.Place.TheVariants as place

-- lines of values without floats become the lines of those values with texts in place of numbers
abbrev pub LinesBecomeTexts : Type 0
LinesBecomeTexts = (ds : List Data) → All (λ d. has_float d ≡ false) ds
    → with_texts place.Outside (lines ds) ≡ lines (map as_texts ds)

-- two pieces become what both become as one
pub record ArePiecesOf (p : Place) (a b : List ℕ) : Type 0 where
  pub texts : with_texts p (a ++ b) ≡ with_texts p a ++ with_texts (place_after p a) b
  pub place : place_after p (a ++ b) ≡ place_after (place_after p a) b

abbrev pub PiecesAreOne : Type 0
PiecesAreOne = (p : Place) (a b : List ℕ) → ArePiecesOf p a b
