-- Descriptions, what stands in front of the bytes of a value or a description in its item, and which items the limits
-- don't admit.
-- (docs/FORMAT.md, Items and streams; Refusals, the writer's order: this project's own.)
use Rattle.std.specs.Prelude.{◌≡◌, ℕ, ℤ, ◌+◌, ◌<◌, ◌≤◌, List, ◌++◌, length}
use Rattle.gob_num.specs.Signed.{IsSigned}
use Rattle.gob_num.specs.Unsigned.{AreBytes, IsUnsigned}
use Rattle.gob_types.specs.Base.{base_table, wire_type}
use Rattle.gob_types.specs.Definable.{IsDefinable}
use Rattle.gob_types.specs.Table.{Table}
use Rattle.gob_types.specs.declared.id.TypeId.{TypeId}
use Rattle.gob_types.specs.declared.kind.Shape.{Shape}
use Rattle.gob_types.specs.declared.reason.Reason.{Reason}
use Rattle.gob_types.specs.declared.reason.Reason.TheVariants as reason
use Rattle.gob_value.specs.Described.{described}
use Rattle.gob_value.specs.Spelling.{Spells}
use Rattle.gob_value.specs.Tree.{depth}
use Rattle.gob_stream.specs.Body.{MayDefine}
use Rattle.gob_stream.specs.Bounds.{Bounds}
use Rattle.gob_stream.specs.WriterRefusal.{WriterRefusesBody}

-- the bytes are the count of a body of the number and the rest, and the number, and the limits admit the item at the
-- offset
pub record BeginsItem (L : Bounds) (offset : ℕ) (number : ℤ) (rest head : List ℕ) : Type 0 where
  pub count : List ℕ
  pub spelled : List ℕ
  pub numbered : IsSigned number spelled
  pub bytes : AreBytes (spelled ++ rest)
  pub counted : IsUnsigned (length (spelled ++ rest)) count
  pub whole : head ≡ count ++ spelled
  pub item : length (spelled ++ rest) ≤ L.item
  pub stream : offset + length (count ++ (spelled ++ rest)) ≤ L.stream

-- or they don't, for this reason
pub record RefusesBytes (L : Bounds) (offset : ℕ) (number : ℤ) (rest : List ℕ) (r : Reason) : Type 0 where
  pub spelled : List ℕ
  pub numbered : IsSigned number spelled
  pub refused : WriterRefusesBody L offset (spelled ++ rest) r

-- an item of a count of so many bytes and a body of so many is too long, or ends too far on
pub data RefusesLength (L : Bounds) (offset count size : ℕ) : Reason → Type 0 where
  long_item : L.item < size → RefusesLength L offset count size reason.ItemTooLong
  long_stream : size ≤ L.item → L.stream < offset + (count + size) → RefusesLength L offset count size
      reason.StreamTooLong

-- the type may be defined now, and the bytes are the description that a writer makes of its shape
pub record IsDescribedAs (L : Bounds) (T : Table) (id : TypeId) (s : Shape) (bytes : List ℕ) : Type 0 where
  pub may : MayDefine base_table L T id
  pub definable : IsDefinable s
  pub within : depth (described id s) ≤ L.depth
  pub spelled : Spells T wire_type (described id s) bytes
