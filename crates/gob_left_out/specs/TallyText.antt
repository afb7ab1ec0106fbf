-- What is told of the fields that values leave out. (docs/FORMAT.md, The program: this project's own.)
use Rattle.std.specs.Prelude.{ℕ, ◌-◌, ◌==◌, List, [], ◌∷◌, ◌++◌, codes, if◌then◌else◌, length, take, drop}
use Rattle.std.specs.Fmt.{decimal}
use Rattle.std.specs.List.{flat_map}
use Rattle.gob_match.specs.ClashText.{path_text}
use Rattle.gob_left_out.specs.declared.tally.TalliedField.{TalliedField}
use Rattle.gob_left_out.specs.Tally.{TallyRow}

-- the ending of a noun behind the number
abbrev pub plural : ℕ → List ℕ
plural n = if n == 1 then [] else codes "s"

-- of the first field it is said that values are counted
abbrev pub first_text : TalliedField → List ℕ
first_text field =
    path_text field.path.items ++ (codes " of " ++ (decimal field.values ++ (codes " value" ++ plural field.values)))

abbrev pub later_text : TalliedField → List ℕ
later_text field = codes ", " ++ (path_text field.path.items ++ (codes " of " ++ decimal field.values))

-- the fields behind the first, up to the twentieth
abbrev pub all_later_text : List TallyRow → List ℕ
all_later_text rows = flat_map (λ row. later_text row.1) (drop 1 (take 20 rows))

-- how many more there are, if any
abbrev pub more_text : ℕ → List ℕ
more_text n = if n == 0 then [] else codes ", and " ++ (decimal n ++ codes " more")

-- what is wrong with so many
abbrev pub verdict_text : ℕ → List ℕ
verdict_text n = if n == 1 then codes "it isn't wanted" else codes "they aren't wanted"

-- the line
abbrev pub tally_line : List TallyRow → List ℕ
tally_line [] = codes "gob: left out nothing"
tally_line (row ∷ rows) = codes "gob: left out " ++ (first_text row.1 ++ (all_later_text (row ∷ rows)
    ++ (more_text (length (row ∷ rows) - 20) ++ (codes ": " ++ verdict_text (length (row ∷ rows))))))
