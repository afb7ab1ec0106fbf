-- What reading the first items of a stream takes.
use Rattle.std.specs.Prelude.{◌≡◌, ℕ, ◌<◌, ◌≤◌, List, [], Option, Some, length}
use Rattle.gob_types.specs.Base.{base_table}
use Rattle.gob_types.specs.Table.{Table}
use Rattle.gob_stream.specs.Bounds.{Bounds}
use Rattle.gob_stream.specs.Item.{StreamItem}
use Rattle.gob_stream.specs.Reading.{SomeTaken}
use Rattle.gob_stream.specs.Stream.{Stream}

-- the bytes are those of the items, and no more
pub record AreBytesOf (L : Bounds) (items : List StreamItem) (bytes : List ℕ) : Type 0 where
  pub table : Table
  pub stream : Stream base_table L items bytes table

-- of the bytes that were left, those of these items were taken; they are so many as were asked for, or all that there
-- are
pub record TakesPrefix (L : Bounds) (count : ℕ) (before : List ℕ) (now : Option (List ℕ)) (items : List StreamItem) :
    Type 0 where
  pub taken : SomeTaken before now (λ bytes. AreBytesOf L items bytes)
  pub few : length items ≤ count
  pub all : length items < count → now ≡ Some []
