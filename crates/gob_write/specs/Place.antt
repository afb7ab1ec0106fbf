-- Places in an input: the line, and the column in bytes, both from 1. (docs/FORMAT.md, Plain JSON as input.)
use Rattle.std.specs.Prelude.{◌≡◌, ℕ, List, [], ◌∷◌, take, cond, ◌==◌}
use Rattle.gob_stream.specs.Devices.{counts_up}
use Rattle.gob_write.specs.declared.place.Place.{Place}

abbrev pub first_place : Place
first_place = record { line = 1; column = 1 }

-- the place behind a byte: the next line is that behind a line feed
abbrev pub next_place : Place → ℕ → Place
next_place p x = cond (x == 10) (record { line = counts_up p.line 1; column = 1 })
    (record { line = p.line; column = counts_up p.column 1 })

-- the place behind bytes that stand at another
abbrev pub place_from : Place → List ℕ → Place
place_from p [] = p
place_from p (x ∷ xs) = place_from (next_place p x) xs

abbrev pub place_behind : List ℕ → Place
place_behind bytes = place_from first_place bytes

-- the line and the column are those of a byte of the text, which begins at this place, or of what stands behind it
pub record IsPlaceIn (start : Place) (text : List ℕ) (line column : ℕ) : Type 0 where
  pub at : ℕ
  pub is : place_from start (take at text) ≡ record { line = line; column = column }

-- the line is that of such a place
pub record IsLineIn (start : Place) (text : List ℕ) (line : ℕ) : Type 0 where
  pub column : ℕ
  pub place : IsPlaceIn start text line column
