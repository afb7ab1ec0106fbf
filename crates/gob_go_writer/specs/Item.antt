-- The bytes of an item that is kept as a session gave it: those of the item of a stream that it stands for.
-- (docs/FORMAT.md, Fillings and segments.)
use Rattle.std.specs.Prelude.{◌≡◌, ℕ, ◌≤◌, List, Some}
use Rattle.gob_types.specs.declared.id.TypeId.{TypeId}
use Rattle.gob_types.specs.declared.kind.Shape.{Shape}
use Rattle.gob_types.specs.Base.{base_table}
use Rattle.gob_types.specs.Table.{Table, shape_of}
use Rattle.gob_stream.specs.Bounds.{Bounds, greatest_depth}
use Rattle.gob_filled.specs.Stream.{FilledItem, IsFilledItem}
use Rattle.gob_go.specs.Meaning.{ItemMeans}
use Rattle.gob_go.specs.declared.item.GoItem.{GoItem}

-- the second table says of each type what the first one says
abbrev pub IsGrown : Table → Table → Type 0
IsGrown T U = (t : TypeId) (s : Shape) → shape_of T t ≡ Some s → shape_of U t ≡ Some s

-- under these types what is kept stands for an item, and from some table and at some offset the bytes are this item,
-- behind which no type is another than now; no value in it is deeper than trees may be
pub record IsItemOf (now : Table) (kept : GoItem) (bytes : List ℕ) : Type 0 where
  pub limits : Bounds
  pub before : Table
  pub behind : Table
  pub offset : ℕ
  pub item : FilledItem
  pub means : ItemMeans now kept item
  pub is : IsFilledItem base_table limits before offset item bytes behind
  pub grown : IsGrown behind now
  pub shallow : limits.depth ≤ greatest_depth
