-- The tidy form of a value: each struct in it without the fields that Go's encoder leaves out.
-- (Go's encoding/gob documentation, Encoding Details, on omitted zero values; docs/FORMAT.md, Tidy form.)
use Rattle.std.specs.Prelude.{◌≡◌, ℕ, pos, false, List, [], Some, slice_get}
use Rattle.gob_types.specs.declared.id.TypeId.{TypeId}
use Rattle.gob_types.specs.declared.basic.Basic.{Basic}
use Rattle.gob_types.specs.declared.kind.Field.{Field}
use Rattle.gob_types.specs.declared.kind.Marshal.{Marshal}
use Rattle.gob_types.specs.declared.kind.Kind.{Kind}
use Rattle.gob_types.specs.declared.kind.Kind.TheVariants as kind
use Rattle.gob_types.specs.declared.kind.Shape.{Shape}
use Rattle.gob_types.specs.Table.{Table, shape_of}
use Rattle.gob_value.specs.Tree.{Tree, Trees, no_tree, tree, Pairs, no_pair, pair, Fields, no_field, field}
use Rattle.gob_value.specs.Tree as Value
use Rattle.gob_value.specs.Written.{HasParts}

-- false, a number or a pattern of 0, two patterns of 0, or no bytes
pub data IsZero : Tree → Type 0 where
  of_bool : IsZero (Value.bool false)
  of_int : IsZero (Value.int (pos 0))
  of_uint : IsZero (Value.uint 0)
  of_float : IsZero (Value.float 0)
  of_complex : IsZero (Value.complex 0 0)
  of_bytes : IsZero (Value.bytes [])
  of_text : IsZero (Value.text [])

-- a struct drops the value from a field of this kind: a zero of a basic type, or a slice without elements
pub data IsDropped : Kind → Tree → Type 0 where
  zero_basic : {b : Basic} {v : Tree} → IsZero v → IsDropped (kind.Basic b) v
  empty_slice : {e : TypeId} → IsDropped (kind.Slice e) (Value.many no_tree)

mutual
  -- the second value is the tidy form of the first, a value of the type of this id
  pub data Tidies (T : Table) : TypeId → Tree → Tree → Type 0 where
    of_type : {t : TypeId} {s : Shape} {v w : Tree} → shape_of T t ≡ Some s → TidiesAs T s.kind v w → Tidies T t v w

  -- the second value is the tidy form of the first at a kind: a value without parts stays as it is, any other has its
  -- parts tidied
  pub data TidiesAs (T : Table) : Kind → Tree → Tree → Type 0 where
    of_basic : {b : Basic} {v : Tree} → ¬ HasParts v → TidiesAs T (kind.Basic b) v v
    of_opaque : {m : Marshal} {v : Tree} → ¬ HasParts v → TidiesAs T (kind.Opaque m) v v
    of_slice : {e : TypeId} {vs ws : Trees} → TidiesEach T e vs ws
        → TidiesAs T (kind.Slice e) (Value.many vs) (Value.many ws)
    of_array : {e : TypeId} {n : ℕ} {vs ws : Trees} → TidiesEach T e vs ws
        → TidiesAs T (kind.Array e n) (Value.many vs) (Value.many ws)
    of_map : {k e : TypeId} {ps qs : Pairs} → TidiesPairs T k e ps qs
        → TidiesAs T (kind.Map k e) (Value.pairs ps) (Value.pairs qs)
    of_struct : {types : List Field} {fs gs : Fields} → TidiesFields T types fs gs
        → TidiesAs T (kind.Struct types) (Value.fields fs) (Value.fields gs)

  -- no element is dropped
  pub data TidiesEach (T : Table) : TypeId → Trees → Trees → Type 0 where
    no_element : {e : TypeId} → TidiesEach T e no_tree no_tree
    element : {e : TypeId} {v w : Tree} {vs ws : Trees} → Tidies T e v w → TidiesEach T e vs ws
        → TidiesEach T e (tree v vs) (tree w ws)

  -- nor is an entry of a map
  pub data TidiesPairs (T : Table) : TypeId → TypeId → Pairs → Pairs → Type 0 where
    no_entry : {k e : TypeId} → TidiesPairs T k e no_pair no_pair
    entry : {k e : TypeId} {x y v w : Tree} {ps qs : Pairs} → Tidies T k x y → Tidies T e v w → TidiesPairs T k e ps qs
        → TidiesPairs T k e (pair x v ps) (pair y w qs)

  -- a field is dropped or kept by its type's shape and its value
  pub data TidiesFields (T : Table) : List Field → Fields → Fields → Type 0 where
    no_more : {types : List Field} → TidiesFields T types no_field no_field
    dropped : {types : List Field} {f : ℕ} {e : Field} {s : Shape} {v : Tree} {fs gs : Fields}
        → slice_get types f ≡ Some e → shape_of T e.id ≡ Some s
        → IsDropped s.kind v → TidiesFields T types fs gs → TidiesFields T types (field f v fs) gs
    kept : {types : List Field} {f : ℕ} {e : Field} {s : Shape} {v w : Tree} {fs gs : Fields}
        → slice_get types f ≡ Some e → shape_of T e.id ≡ Some s
        → ¬ IsDropped s.kind v → TidiesAs T s.kind v w → TidiesFields T types fs gs
        → TidiesFields T types (field f v fs) (field f w gs)

-- a value, elements, entries or fields have a tidy form
pub record HasTidyForm {V : Type 0} (Tidies : V → Type 0) : Type 0 where
  pub tidy : V
  pub tidies : Tidies tidy
