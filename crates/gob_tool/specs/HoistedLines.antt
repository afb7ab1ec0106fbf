-- The lines of an item, and those of the items that come of it when each definition in its value stands in an item of
-- its own before it. (They follow from docs/FORMAT.md, The JSON lines; Fillings and segments.)
use Rattle.std.specs.Prelude.{ℕ, List, [], ◌∷◌, ◌++◌}
use Rattle.gob_types.specs.Table.{Table}
use Rattle.gob_filled.specs.Stream.{FilledItem}
use Rattle.gob_go_writer.specs.Hoisting.{hoisted}
use Rattle.gob_tool.specs.LineGo.{IsLinesOf}

-- the text is the lines of the items, one item behind another, where the types are those of the table
pub data AreLinesOf (T : Table) : List FilledItem → List ℕ → Type 0 where
  no_lines : AreLinesOf T [] []
  lines_then : {i : FilledItem} {items : List FilledItem} {b : List ℕ} (a : List ℕ) → IsLinesOf T i a
      → AreLinesOf T items b
      → AreLinesOf T (i ∷ items) (a ++ b)

-- they are the same: a value shows the same wherever the types stand that it comes with
abbrev pub HoistingKeepsLines : Type 0
HoistingKeepsLines = (T : Table) (i : FilledItem) (text : List ℕ) → IsLinesOf T i text → AreLinesOf T (hoisted i) text
