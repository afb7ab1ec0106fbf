-- The items that come of an item have bytes where it has, and lead to the same types.
-- (They follow from docs/FORMAT.md, Fillings and segments.)
use Rattle.std.specs.Prelude.{◌≡◌, ℕ, ◌+◌, ◌^◌, ◌<◌, ◌≤◌, List, length}
use Rattle.gob_types.specs.Base.{base_table}
use Rattle.gob_types.specs.Table.{Table}
use Rattle.gob_stream.specs.Bounds.{Bounds}
use Rattle.gob_filled.specs.Stream.{FilledItem, IsFilledItem, AreFilledItems}
use Rattle.gob_go_writer.specs.Hoisting.{hoisted}

-- from these types on some bytes are the items at each offset, and behind them the types are those of the last table,
-- under all limits that allow the same depth, as many types, and so many bytes
pub record HaveBytes (L : Bounds) (T : Table) (items : List FilledItem) (U : Table) : Type 0 where
  pub bytes : List ℕ
  pub are : (M : Bounds) (offset : ℕ) → M.depth ≡ L.depth → M.types ≡ L.types → length bytes ≤ M.item
      → offset + length bytes ≤ M.stream → AreFilledItems base_table M T offset items bytes U

-- so the hoisted items have some that lead to the types behind the item
abbrev pub HoistedHaveBytes : Type 0
HoistedHaveBytes = (L : Bounds) (T U : Table) (offset : ℕ) (i : FilledItem) (b : List ℕ) → length b < 2 ^ 60
    → IsFilledItem base_table L T offset i b U → HaveBytes L T (hoisted i) U
