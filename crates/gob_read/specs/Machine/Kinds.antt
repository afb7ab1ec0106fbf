-- What a reader reads a part as, by the kind of its type.
use Rattle.std.specs.Prelude.{◌≡◌, ℕ, ◌-◌, ◌≤◌, List, Some}
use Rattle.gob_num.specs.Unsigned.{IsUnsigned}
use Rattle.gob_num.specs.Pattern.{IsPattern}
use Rattle.gob_types.specs.declared.id.TypeId.{TypeId}
use Rattle.gob_types.specs.declared.basic.Basic.{Basic}
use Rattle.gob_types.specs.declared.basic.Basic.TheVariants as basic
use Rattle.gob_types.specs.declared.kind.Marshal.{Marshal}
use Rattle.gob_types.specs.declared.kind.Kind.{Kind}
use Rattle.gob_types.specs.declared.kind.Kind.TheVariants as kind
use Rattle.gob_types.specs.declared.kind.Shape.{Shape}
use Rattle.gob_types.specs.Table.{Table, shape_of}
use Rattle.gob_value.specs.Top.{HasStructs}
use Rattle.gob_read.specs.declared.event.RawKind.{RawKind}
use Rattle.gob_read.specs.declared.event.RawKind.TheVariants as raw
use Rattle.gob_read.specs.declared.event.GroupKind.{GroupKind}
use Rattle.gob_read.specs.declared.event.GroupKind.TheVariants as group
use Rattle.gob_read.specs.declared.next.Next.{Next}
use Rattle.gob_read.specs.declared.next.Next.TheVariants.{Top, Number, Raw}
use Rattle.gob_read.specs.declared.next.NextNumber.{NextNumber}
use Rattle.gob_read.specs.declared.next.NextNumber.TheVariants.{Tag, Part}
use Rattle.gob_read.specs.declared.frame.Frame.{Frame}
use Rattle.gob_read.specs.declared.frame.Frame.TheVariants as frame

-- the type is of this kind
pub record HasKind (T : Table) (t : TypeId) (k : Kind) : Type 0 where
  pub shape : Shape
  pub there : shape_of T t ≡ Some shape
  pub kind : shape.kind ≡ k

-- the kind's values are raw bytes, told as these
pub data IsRawKind : Kind → RawKind → Type 0 where
  is_bytes : IsRawKind (kind.Basic basic.Bytes) raw.Bytes
  is_text : IsRawKind (kind.Basic basic.Str) raw.Str
  is_opaque : {m : Marshal} → IsRawKind (kind.Opaque m) raw.Opaque

-- a part of the kind that has this number is a list of so many elements of this type
pub data IsList : Kind → ℕ → TypeId → Type 0 where
  is_slice : {e : TypeId} {n : ℕ} → IsList (kind.Slice e) n e
  is_array : {e : TypeId} {n : ℕ} → IsList (kind.Array e n) n e

-- a part of the kind that has this number is such a group, and this frame is open while its first part is read
pub data IsGroup : Kind → ℕ → GroupKind → Frame → Type 0 where
  of_list : {k : Kind} {e : TypeId} {n left : ℕ} → IsList k n e → left ≡ n - 1
      → IsGroup k n group.Many (frame.Many e left)
  of_map : {k e : TypeId} {n left : ℕ} → left ≡ n - 1 → IsGroup (kind.Map k e) n group.Pairs (frame.Key k e left)

-- a part of the kind that has this number alone is told by these two
pub data IsScalar : Kind → ℕ → Basic → ℕ → Type 0 where
  of_bool : {n : ℕ} → n ≤ 1 → IsScalar (kind.Basic basic.Bool) n basic.Bool n
  of_int : {n : ℕ} → IsScalar (kind.Basic basic.Int) n basic.Int n
  of_uint : {n : ℕ} → IsScalar (kind.Basic basic.Uint) n basic.Uint n
  of_float : {n p : ℕ} → ((b : List ℕ) → IsUnsigned n b → IsPattern p b)
      → IsScalar (kind.Basic basic.Float) n basic.Float p
  of_nil : {n : ℕ} → n ≡ 0 → IsScalar (kind.Basic basic.Interface) n basic.Interface n

-- what a body begins with, once its type is looked up: the first delta of a struct, or else the tag
pub data BeginsAs (T : Table) : Next → Next → Type 0 where
  as_struct : {t : TypeId} → HasStructs T t → BeginsAs T (Top t) (Number (Part t))
  as_tagged : {t : TypeId} → ¬ HasStructs T t → BeginsAs T (Top t) (Number (Tag t))
  number_stays : {i : NextNumber} → BeginsAs T (Number i) (Number i)
  raw_stays : {left : ℕ} → BeginsAs T (Raw left) (Raw left)
