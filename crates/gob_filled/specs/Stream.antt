-- Streams of items whose values may be filled: an item of a value is one or more segments, each behind its count.
-- (docs/FORMAT.md, Fillings and segments.)
use Rattle.std.specs.Prelude.{◌≡◌, ℕ, pos, ◌+◌, ◌-◌, ◌≤◌, List, ◌∷◌, ◌++◌, length}
use Rattle.gob_num.specs.Unsigned.{IsUnsigned, AreBytes}
use Rattle.gob_num.specs.Signed.{IsSigned}
use Rattle.gob_types.specs.declared.id.TypeId.{TypeId}
use Rattle.gob_types.specs.Table.{Table}
use Rattle.gob_value.specs.Tree.{Tree}
use Rattle.gob_stream.specs.Bounds.{Bounds}
use Rattle.gob_stream.specs.Body.{MayPut}
use Rattle.gob_filled.specs.Definition.{Defines}
use Rattle.gob_filled.specs.Filled.{cut, Filled, SpellsFilled}
pub use Rattle.gob_stream.specs.Items.{AreItemsOf, no_more, and_then}

pub data FilledItem : Type 0 where
  -- a type, by its description
  defining : TypeId → Tree → FilledItem
  -- a value of a type
  putting : TypeId → Filled → FilledItem

-- at this offset the bytes are the segments of the letters, which have no more than so many bytes together
pub data AreCounted (L : Bounds) : (most offset : ℕ) → List ℕ → List ℕ → Type 0 where
  last_counted : {most offset : ℕ} {c : List ℕ} (s : List ℕ) → AreBytes s → IsUnsigned (length s) c → length s ≤ most
      → offset + length (c ++ s) ≤ L.stream → AreCounted L most offset s (c ++ s)
  next_counted : {most offset next : ℕ} {c ls f : List ℕ} (s : List ℕ) → AreBytes s → IsUnsigned (length s) c
      → length s ≤ most
      → offset + length (c ++ s) ≤ L.stream → next ≡ offset + length (c ++ s)
      → AreCounted L (most - length s) next ls f → AreCounted L most offset (s ++ (cut ∷ ls)) (c ++ (s ++ f))

-- at this offset the bytes are the item, and the second table is the one behind it
pub data IsFilledItem (base : Table) (L : Bounds) (T : Table) (offset : ℕ) : FilledItem → List ℕ → Table → Type 0 where
  of_definition : {id : TypeId} {v : Tree} {c d : List ℕ} {U : Table} → IsUnsigned (length d) c → length d ≤ L.item
      → offset + length (c ++ d) ≤ L.stream
      → Defines base L T id v d U → IsFilledItem base L T offset (defining id v) (c ++ d) U
  of_value : {t : TypeId} {w : Filled} {a ls f : List ℕ} {U : Table} → MayPut T t → IsSigned (pos t.0) a
      → SpellsFilled base L T t L.depth w ls U → AreCounted L L.item offset (a ++ ls) f
      → IsFilledItem base L T offset (putting t w) f U

-- from this table and offset on, the bytes are these items, and behind them the types are those of the last table
abbrev pub AreFilledItems : (base : Table) (L : Bounds) → Table → ℕ → List FilledItem → List ℕ → Table → Type 0
AreFilledItems base L T offset items bytes U = AreItemsOf (IsFilledItem base L) T offset items bytes U

-- the bytes are the stream of the items, and the types behind it are those of the table
abbrev pub FilledStream : Table → Bounds → List FilledItem → List ℕ → Table → Type 0
FilledStream base L items bytes T = AreFilledItems base L base 0 items bytes T
