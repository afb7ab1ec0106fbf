-- A stream: items one after another, each a count and a body of so many bytes, of types that were defined before.
-- (Go's encoding/gob documentation, Encoding Details; docs/FORMAT.md, Items and streams.)
use Rattle.std.specs.Prelude.{ℕ, ◌+◌, ◌≤◌, List, ◌++◌, length}
use Rattle.gob_num.specs.Unsigned.{IsUnsigned}
use Rattle.gob_types.specs.Table.{Table}
use Rattle.gob_stream.specs.Bounds.{Bounds}
use Rattle.gob_stream.specs.Item.{StreamItem}
use Rattle.gob_stream.specs.Body.{Body}
pub use Rattle.gob_stream.specs.Items.{AreItemsOf, no_more, and_then}

-- at this offset the bytes are the item, its count and its body, and the second table is the one behind it
pub data IsItem (base : Table) (L : Bounds) (T : Table) (offset : ℕ) : StreamItem → List ℕ → Table → Type 0 where
  counted : {i : StreamItem} {c d : List ℕ} {U : Table} → IsUnsigned (length d) c → length d ≤ L.item
      → offset + length (c ++ d) ≤ L.stream
      → Body base L T i d U → IsItem base L T offset i (c ++ d) U

-- from this table and offset on, the bytes are these items, and behind them the types are those of the last table
abbrev pub AreItems : (base : Table) (L : Bounds) → Table → ℕ → List StreamItem → List ℕ → Table → Type 0
AreItems base L T offset items bytes U = AreItemsOf (IsItem base L) T offset items bytes U

-- the bytes are the stream of the items, and the types behind it are those of the table
abbrev pub Stream : Table → Bounds → List StreamItem → List ℕ → Table → Type 0
Stream base L items bytes T = AreItems base L base 0 items bytes T

-- the items can be written one after another
pub record HasStream (base : Table) (L : Bounds) (items : List StreamItem) : Type 0 where
  pub bytes : List ℕ
  pub table : Table
  pub stream : Stream base L items bytes table

-- the bytes are a stream and nothing more
pub record IsStream (base : Table) (L : Bounds) (bytes : List ℕ) : Type 0 where
  pub items : List StreamItem
  pub table : Table
  pub stream : Stream base L items bytes table
