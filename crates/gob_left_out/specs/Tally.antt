-- How many values leave out which fields. (docs/FORMAT.md, The program: this project's own.)
use Rattle.std.specs.Prelude.{ℕ, ◌^◌, ◌-◌, ◌==◌, ◌&&◌, Bool, not, List, [], ◌∷◌, count_by, filter, map, min}
use Rattle.std.specs.List.{flat_map, list_any}
use Rattle.gob_left_out.specs.declared.field.UnwantedField.{UnwantedField}
use Rattle.gob_left_out.specs.declared.tally.TalliedField.{TalliedField}
use Rattle.gob_left_out.specs.LeftOut.{Row}

-- a field, and what is told of it
abbrev pub TallyRow : Type 0
TallyRow = UnwantedField × TalliedField

abbrev pub tallied : TallyRow → TalliedField
tallied row = row.1

-- whether they are one field
abbrev pub same_field : UnwantedField → UnwantedField → Bool
same_field x y =
    ((x.pair.stream.0 == y.pair.stream.0) && (x.pair.wanted.0 == y.pair.wanted.0)) && (x.number == y.number)

-- whether one of the rows is of the field
abbrev pub has_field : UnwantedField → List Row → Bool
has_field x rows = list_any (λ row. same_field row.0 x) rows

-- the first row of each field
abbrev pub first_rows : List Row → List Row
first_rows [] = []
first_rows (row ∷ rows) = row ∷ filter (λ other. not (same_field row.0 other.0)) (first_rows rows)

-- how many of the values leave out the field, of each of which these are the rows
abbrev pub values_without : UnwantedField → List (List Row) → ℕ
values_without x all = count_by (has_field x) all

-- what is told of a field that was first met in this row: how many of the values leave it out, as far as 64 bits go
abbrev pub tally_row : List (List Row) → Row → TallyRow
tally_row all row = (row.0, record { path = row.1; values = min (values_without row.0 all) (2 ^ 64 - 1) })

-- the fields that the values leave out, in the order in which they are first met
abbrev pub tally_of : List (List Row) → List TallyRow
tally_of all = map (tally_row all) (first_rows (flat_map (λ rows. rows) all))
