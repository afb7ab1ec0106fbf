-- The lines of an item, by all that it shows. For private clauses.
use Rattle.std.specs.Prelude.{◌≡◌, ℕ, List, ◌++◌}
use Rattle.serde_json.specs.Data.{Data}
use Rattle.gob_types.specs.Table.{Table}
use Rattle.gob_value.specs.Tree.{Tree}
use Rattle.gob_stream.specs.Item.{defines}
use Rattle.gob_filled.specs.Stream.{FilledItem, defining, putting}
use Rattle.gob_go.specs.Meaning.{ItemMeans}
use Rattle.gob_go.specs.declared.item.GoItem.{GoItem}
use Rattle.gob_json_writer.specs.FilledJson.{FilledShows}
use Rattle.gob_tool.specs.Line.{line}
use Rattle.gob_tool.specs.LineGo.{inner_lines, value_line}

-- whatever the item shows, the text is that in lines
abbrev pub ShowsInLines : Table → FilledItem → List ℕ → Type 0
ShowsInLines T (defining id v) text = text ≡ line T (defines id v)
ShowsInLines T (putting id w) text = (v : Tree) (N : ℕ → Data) → FilledShows T id w v N
    → text ≡ inner_lines T w ++ value_line T id v N

-- of an item that was given
abbrev pub LinesGiven : Table → GoItem → (made : List ℕ) → Type 0
LinesGiven T given made = (i : FilledItem) → ItemMeans T given i → ShowsInLines T i made
