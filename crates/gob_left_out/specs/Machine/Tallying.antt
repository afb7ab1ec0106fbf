-- A tally, row by row.
use Rattle.std.specs.Prelude.{◌+◌, ◌^◌, ◌-◌, List, [], ◌∷◌, if◌then◌else◌, min, fold}
use Rattle.gob_left_out.specs.LeftOut.{Row}
use Rattle.gob_left_out.specs.Tally.{TallyRow, same_field}

-- one value more leaves out its field
abbrev pub one_more : TallyRow → TallyRow
one_more t = (t.0, record { path = t.1.path; values = min (t.1.values + 1) (2 ^ 64 - 1) })

-- with a row of one value more
abbrev pub with_row : List TallyRow → Row → List TallyRow
with_row [] row = (row.0, record { path = row.1; values = 1 }) ∷ []
with_row (t ∷ ts) row = if same_field row.0 t.0 then one_more t ∷ ts else t ∷ with_row ts row

-- with all of its rows
abbrev pub with_rows : List TallyRow → List Row → List TallyRow
with_rows ts rows = fold with_row ts rows
