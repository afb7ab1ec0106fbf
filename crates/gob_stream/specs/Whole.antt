-- Items of values that stand whole at the front of a piece, between two items.
use Rattle.std.specs.Prelude.{◌≡◌, ℕ, pos, ◌+◌, ◌-◌, ◌<◌, ◌≤◌, List, ◌++◌, length, take, drop, Some}
use Rattle.gob_num.specs.Unsigned.{IsUnsigned}
use Rattle.gob_num.specs.Signed.{IsSigned}
use Rattle.gob_types.specs.declared.id.TypeId.{TypeId}
use Rattle.gob_types.specs.Base.{base_table}
use Rattle.gob_types.specs.Table.{Table, shape_of}
use Rattle.gob_types.specs.declared.kind.Kind.{Kind}
use Rattle.gob_types.specs.declared.kind.Shape.{Shape}
use Rattle.gob_value.specs.Tree.{Tree}
use Rattle.gob_stream.specs.Bounds.{Bounds}
use Rattle.gob_stream.specs.Item.{StreamItem, puts}
use Rattle.gob_stream.specs.Body.{MayPut}
use Rattle.gob_stream.specs.Stream.{IsItem, AreItems}

-- at this offset the first bytes of the piece are the count of an item, the number of a type whose values may come, and
-- this body
pub record HasBody (L : Bounds) (T : Table) (offset : ℕ) (id : TypeId) (body : List ℕ) (used : ℕ) (piece : List ℕ) :
    Type 0 where
  pub count : List ℕ
  pub number : List ℕ
  pub counts : IsUnsigned (length (number ++ body)) count
  pub item : length (number ++ body) ≤ L.item
  pub stream : offset + length (count ++ (number ++ body)) ≤ L.stream
  pub names : IsSigned (pos id.0) number
  pub may : MayPut T id
  pub within : used ≤ length piece
  pub whole : take used piece ≡ count ++ (number ++ body)

-- at this offset the first bytes of the piece are the count of an item that the limits allow
pub record HasCount (L : Bounds) (offset count used : ℕ) (piece : List ℕ) : Type 0 where
  pub counts : IsUnsigned count (take used piece)
  pub within : used ≤ length piece
  pub item : count ≤ L.item
  pub stream : offset + (used + count) ≤ L.stream

-- the bytes of the piece from one place up to the other are the number of the type, as that of a value
pub record NamesTypeAt (id : TypeId) (piece : List ℕ) (at end : ℕ) : Type 0 where
  pub order : at < end
  pub inside : end ≤ length piece
  pub names : IsSigned (pos id.0) (take (end - at) (drop at piece))

-- at this offset the piece is the first bytes of an item of so many bytes, and not all of them: its count, and in its
-- head the number of a type whose values may come
pub record HasBegun (L : Bounds) (T : Table) (offset : ℕ) (id : TypeId) (head size : ℕ) (piece : List ℕ) : Type 0 where
  pub announced : ℕ
  pub count : List ℕ
  pub number : List ℕ
  pub rest : List ℕ
  pub counts : IsUnsigned announced count
  pub names : IsSigned (pos id.0) number
  pub whole : piece ≡ count ++ (number ++ rest)
  pub before : head ≡ length count + length number
  pub all : size ≡ length count + announced
  pub item : announced ≤ L.item
  pub stream : offset + size ≤ L.stream
  pub may : MayPut T id
  pub short : length piece < size

-- at this offset the first bytes of some piece are an item that defines nothing
pub record HasItem (L : Bounds) (T : Table) (offset used : ℕ) : Type 0 where
  pub item : StreamItem
  pub bytes : List ℕ
  pub counted : IsItem base_table L T offset item bytes T
  pub size : length bytes ≡ used

-- at this offset the first bytes of some piece are items that define nothing
pub record HasItems (L : Bounds) (T : Table) (offset used : ℕ) : Type 0 where
  pub items : List StreamItem
  pub bytes : List ℕ
  pub are : AreItems base_table L T offset items bytes T
  pub size : length bytes ≡ used

-- values of the type may come, and it is of this kind
pub record IsOpenKind (T : Table) (id : TypeId) (k : Kind) : Type 0 where
  pub may : MayPut T id
  pub shape : Shape
  pub known : shape_of T id ≡ Some shape
  pub is : shape.kind ≡ k

-- the limits allow items of so many bytes, values so deep, and all bytes of the piece, which begins at this offset
pub record AllowsIn (L : Bounds) (item depth offset : ℕ) (piece : List ℕ) : Type 0 where
  pub item_is : item ≤ L.item
  pub depth_is : depth ≤ L.depth
  pub stream_is : length piece ≤ L.stream - offset

-- the bytes of the piece, which begins at this offset, from one place up to the other are the item of a value
pub record IsValueBetween (L : Bounds) (T : Table) (offset : ℕ) (id : TypeId) (piece : List ℕ) (at end : ℕ) : Type
    0 where
  pub value : Tree
  pub order : at < end
  pub inside : end ≤ length piece
  pub item : IsItem base_table L T (offset + at) (puts id value) (take (end - at) (drop at piece)) T

-- they are so many items that define nothing, one behind another
pub record AreItemsBetween (L : Bounds) (T : Table) (offset count : ℕ) (piece : List ℕ) (at end : ℕ) : Type 0 where
  pub items : List StreamItem
  pub counted : count ≡ length items
  pub order : at ≤ end
  pub inside : end ≤ length piece
  pub are : AreItems base_table L T (offset + at) items (take (end - at) (drop at piece)) T
