-- The lines of an item of a stream of Go's encoder: that of a definition; or those of the definitions that a value
-- holds, in the order of the stream, and behind them that of the value.
-- (docs/FORMAT.md, The JSON lines: this project's own.)
use Rattle.std.specs.Prelude.{◌≡◌, ℕ, List, [], ◌∷◌, ◌++◌}
use Rattle.serde_json.specs.Data.{Data}
use Rattle.serde_json.specs.Written.{compact_text}
use Rattle.gob_types.specs.Table.{Table}
use Rattle.gob_types.specs.declared.id.TypeId.{TypeId}
use Rattle.gob_value.specs.Tree.{Tree}
use Rattle.gob_stream.specs.Item.{defines}
use Rattle.gob_filled.specs.Filled.{Definitions, no_definitions, definition, Filled, filled}
use Rattle.gob_filled.specs.Filled.{Fillings, no_filling, filling}
use Rattle.gob_filled.specs.Stream.{FilledItem, defining, putting}
use Rattle.gob_json_writer.specs.NilsJson.{put_json_with}
use Rattle.gob_json_writer.specs.FilledJson.{FilledShows}
use Rattle.gob_tool.specs.Line.{line}

-- those of definitions, by the shapes that the table has
abbrev pub definition_lines : Table → Definitions → List ℕ
definition_lines T no_definitions = []
definition_lines T (definition id v ds) = line T (defines id v) ++ definition_lines T ds

abbrev mutual
  -- those of the definitions that a value holds
  pub inner_lines : Table → Filled → List ℕ
  inner_lines T (filled v fs) = filling_lines T fs

  -- those of a filling, in front of those of the value that it holds, filling by filling
  pub filling_lines : Table → Fillings → List ℕ
  filling_lines T no_filling = []
  filling_lines T (filling place name ds u w fs) = definition_lines T ds ++ (inner_lines T w ++ filling_lines T fs)

-- that of a value of the type, whose nils show what N has
abbrev pub value_line : Table → TypeId → Tree → (ℕ → Data) → List ℕ
value_line T id v N = compact_text (put_json_with N T id v) ++ 10 ∷ []

-- the text is the lines of a value, behind which the types are those of the table: it shows this tree, and its nils
-- these. Each value of a stream shows some, and no others: `values_show` and `values_show_once` of gob_json_writer.
pub record AreLinesOfValue (T : Table) (id : TypeId) (w : Filled) (text : List ℕ) : Type 0 where
  pub value : Tree
  pub nils : ℕ → Data
  pub shows : FilledShows T id w value nils
  pub lines : text ≡ inner_lines T w ++ value_line T id value nils

-- the text is the lines of the item, where the types behind it are those of the table
abbrev pub IsLinesOf : Table → FilledItem → List ℕ → Type 0
IsLinesOf T (defining id v) text = text ≡ line T (defines id v)
IsLinesOf T (putting id w) text = AreLinesOfValue T id w text
