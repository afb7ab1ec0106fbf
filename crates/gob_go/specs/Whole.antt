-- Values of the profile that stand whole in bytes and define nothing, no deeper than a limit, and the items that have
-- them. (docs/FORMAT.md, Fillings and segments; Depth.)
use Rattle.std.specs.Prelude.{◌≡◌, ℕ, ◌≤◌, List, length, take}
use Rattle.gob_types.specs.declared.id.TypeId.{TypeId}
use Rattle.gob_types.specs.Base.{base_table}
use Rattle.gob_types.specs.Table.{Table}
use Rattle.gob_stream.specs.Bounds.{Bounds}
use Rattle.gob_filled.specs.Filled.{Filled, SpellsFilled}
use Rattle.gob_filled.specs.Stream.{FilledItem, AreFilledItems}

-- the bytes are a value of the type behind its tag, with what its interfaces hold, and behind it the types are the
-- same, whatever else a stream may define
pub record IsFilledWhole (T : Table) (t : TypeId) (limit : ℕ) (bytes : List ℕ) : Type 0 where
  pub value : Filled
  pub spelled : (base : Table) (L : Bounds) → SpellsFilled base L T t limit value bytes T

-- the bytes of the piece, which begins at this offset, up to the end are so many items that define nothing, one behind
-- another
pub record AreFilledBefore (L : Bounds) (T : Table) (offset count : ℕ) (piece : List ℕ) (end : ℕ) : Type 0 where
  pub items : List FilledItem
  pub counted : count ≡ length items
  pub inside : end ≤ length piece
  pub are : AreFilledItems base_table L T offset items (take end piece) T
