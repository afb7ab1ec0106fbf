-- The zeros that stand for what isn't said, and what a struct leaves out. (docs/FORMAT.md, Plain JSON as input.)
use Rattle.std.specs.Prelude.{◌≡◌, ℕ, ◌+◌, pos, false, List, [], Some, slice_get}
use Rattle.gob_types.specs.declared.basic.Basic.TheVariants as basic
use Rattle.gob_types.specs.declared.id.TypeId.{TypeId}
use Rattle.gob_types.specs.declared.kind.Field.{Field}
use Rattle.gob_types.specs.declared.kind.Kind.{Kind}
use Rattle.gob_types.specs.declared.kind.Kind.TheVariants as kind
use Rattle.gob_types.specs.declared.kind.Shape.{Shape}
use Rattle.gob_types.specs.Table.{Table, shape_of}
use Rattle.gob_value.specs.Tidy.{IsDropped}
use Rattle.gob_value.specs.Tree.{Tree, Trees, no_tree, tree, no_pair, Fields, no_field, field, tree_count}
use Rattle.gob_value.specs.Tree as Value

mutual
  -- the zero of the type; opaque types have none
  pub data IsZeroOf (T : Table) : TypeId → Tree → Type 0 where
    of_type : {t : TypeId} {s : Shape} {v : Tree} → shape_of T t ≡ Some s → IsZeroAs T s.kind v → IsZeroOf T t v

  pub data IsZeroAs (T : Table) : Kind → Tree → Type 0 where
    of_bool : IsZeroAs T (kind.Basic basic.Bool) (Value.bool false)
    of_int : IsZeroAs T (kind.Basic basic.Int) (Value.int (pos 0))
    of_uint : IsZeroAs T (kind.Basic basic.Uint) (Value.uint 0)
    of_float : IsZeroAs T (kind.Basic basic.Float) (Value.float 0)
    of_bytes : IsZeroAs T (kind.Basic basic.Bytes) (Value.bytes [])
    of_text : IsZeroAs T (kind.Basic basic.Str) (Value.text [])
    of_complex : IsZeroAs T (kind.Basic basic.Complex) (Value.complex 0 0)
    of_interface : IsZeroAs T (kind.Basic basic.Interface) Value.nil
    of_slice : {e : TypeId} → IsZeroAs T (kind.Slice e) (Value.many no_tree)
    of_map : {k e : TypeId} → IsZeroAs T (kind.Map k e) (Value.pairs no_pair)
    of_struct : {types : List Field} → IsZeroAs T (kind.Struct types) (Value.fields no_field)
    of_array : {e : TypeId} {n : ℕ} {vs : Trees} → AreFilled T e n no_tree vs
        → IsZeroAs T (kind.Array e n) (Value.many vs)

  -- so many elements: those that are said, and zeros of the type behind them
  pub data AreFilled (T : Table) : TypeId → ℕ → (said filled : Trees) → Type 0 where
    full : {e : TypeId} → AreFilled T e 0 no_tree no_tree
    zero : {e : TypeId} {n : ℕ} {v : Tree} {vs : Trees} → IsZeroOf T e v → AreFilled T e n no_tree vs
        → AreFilled T e (n + 1) no_tree (tree v vs)
    said : {e : TypeId} {n : ℕ} {v : Tree} {vs ws : Trees} → AreFilled T e n vs ws
        → AreFilled T e (n + 1) (tree v vs) (tree v ws)

-- a struct leaves the value of the field of this number out, as Go's encoder does
pub record IsLeftOut (T : Table) (types : List Field) (f : ℕ) (v : Tree) : Type 0 where
  pub field : Field
  pub shape : Shape
  pub is_field : slice_get types f ≡ Some field
  pub has : shape_of T field.id ≡ Some shape
  pub dropped : IsDropped shape.kind v

-- the fields but those that a struct leaves out
pub data AreKept (T : Table) (types : List Field) : (said kept : Fields) → Type 0 where
  no_more : AreKept T types no_field no_field
  left_out : {f : ℕ} {v : Tree} {fs gs : Fields} → IsLeftOut T types f v → AreKept T types fs gs
      → AreKept T types (field f v fs) gs
  kept : {f : ℕ} {v : Tree} {fs gs : Fields} → ¬ IsLeftOut T types f v → AreKept T types fs gs
      → AreKept T types (field f v fs) (field f v gs)
