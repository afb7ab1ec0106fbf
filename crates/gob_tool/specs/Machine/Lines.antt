-- Lines of items, as they are made. For private clauses.
use Rattle.std.specs.Prelude.{◌≡◌, ℕ, List, [], Option, Some, None}
use Rattle.gob_types.specs.Table.{Table}
use Rattle.gob_types.specs.declared.id.TypeId.{TypeId}
use Rattle.gob_read.specs.Calls.Builders.{tree_building}
use Rattle.gob_read.specs.declared.tree_builder.TreeBuilder.{TreeBuilder}
use Rattle.gob_value.specs.Whole.{IsWhole}
use Rattle.gob_value.specs.declared.value.Value.{Value}
use Rattle.gob_stream.specs.Calls.Reader.{StreamReader}
use Rattle.gob_stream.specs.Calls.ReaderOf.{session_of, waits_in}
use Rattle.gob_stream.specs.Calls.Session.{HasBodyNext, IsBetweenItems, types_of}
use Rattle.gob_stream.specs.Item.{StreamItem, item_view}
use Rattle.gob_stream.specs.StrictStepping.{strict_stepping}
use Rattle.gob_stream.specs.declared.item.Item as declared
use Rattle.gob_filled.specs.Filled.{Filled}
use Rattle.gob_tool.specs.Line.{line}
use Rattle.gob_tool.specs.Texts.{IsTextBy, of_format}

-- the reader of trees
abbrev pub Trees : Type 0
Trees = StreamReader TreeBuilder Value

-- an item that waits whole, with a value no deeper than this
pub record IsWholeItem {X O : Type 0} (r : StreamReader X O) (depth : ℕ) (id : TypeId) (body : List ℕ) (used : ℕ)
    : Type 0 where
  pub between : IsBetweenItems (session_of r)
  pub next : HasBodyNext (session_of r) id body used (waits_in r)
  pub whole : IsWhole (types_of (session_of r)) id depth body

-- the line of what a step gave
abbrev pub line_given : Table → Option (declared.Item Value) → List ℕ
line_given T None = []
line_given T (Some given) = line T (item_view given)

-- the texts of items that are their lines: of what was handed out, and of a value
abbrev pub is_line_of_item : Table → declared.Item Value → List ℕ → Type 0
is_line_of_item T given text = text ≡ line T (item_view given)

abbrev pub is_line_of_value : Table → TypeId → Filled → List ℕ → Type 0
is_line_of_value = of_format (λ T i text. text ≡ line T i)

-- the text of an item, as a run makes it
abbrev pub IsLine : Table → StreamItem → List ℕ → Type 0
IsLine = IsTextBy (strict_stepping tree_building) is_line_of_item is_line_of_value
