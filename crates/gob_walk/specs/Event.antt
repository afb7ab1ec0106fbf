-- What a walk over a value tells: of each part where it begins, and where it ends what is put together of others. What
-- has no parts is one event. The parts' types are told by the shapes of the table, as in the lines of a stream.
use Rattle.std.specs.Prelude.{ℕ, ◌+◌, List, [], ◌∷◌, ◌++◌, Bool, true, false, Option, slice_get}
use Rattle.gob_types.specs.declared.id.TypeId.{TypeId}
use Rattle.gob_types.specs.declared.kind.Field.{Field}
use Rattle.gob_types.specs.declared.kind.Shape.{Shape}
use Rattle.gob_types.specs.Table.{Table, shape_of}
use Rattle.gob_value.specs.Tree.{Tree, Trees, no_tree, tree, Pairs, no_pair, pair, Fields, no_field, field}
use Rattle.gob_value.specs.Tree as Value
use Rattle.gob_walk.specs.PartTypes.{element_type, key_type, struct_fields, field_type}

pub data Event : Type 0 where
  -- a value without parts that isn't opaque
  leaf : Tree → Event
  -- an opaque value of a type of this shape
  raw : Option Shape → List ℕ → Event
  list_begins : Event
  -- an element begins, before which others stand or not
  element : Bool → Event
  list_ends : Event
  -- a map whose keys have this type
  map_begins : TypeId → Event
  -- an entry begins, before which others stand or not
  entry : TypeId → Bool → Event
  -- between a key and its element
  between : TypeId → Event
  entry_ends : TypeId → Event
  map_ends : TypeId → Event
  struct_begins : Event
  -- of these fields that of the last number is present, and those from the first number up to it aren't
  present : List Field → ℕ → ℕ → Event
  field_ends : Event
  -- those from this number on aren't present
  struct_ends : List Field → ℕ → Event

abbrev mutual
  -- of a value of this type
  pub value_told : Table → TypeId → Tree → List Event
  value_told T t (Value.many vs) = list_begins ∷ elements_told false T (element_type (shape_of T t)) vs
  value_told T t (Value.pairs ps) =
      map_begins (key_type (shape_of T t))
      ∷ entries_told false T (key_type (shape_of T t)) (element_type (shape_of T t)) ps
  value_told T t (Value.fields fs) = struct_begins ∷ fields_told T (struct_fields (shape_of T t)) 0 fs
  value_told T t (Value.opaque b) = raw (shape_of T t) b ∷ []
  value_told T t v = leaf v ∷ []

  -- of elements that are left of a list
  pub elements_told : Bool → Table → TypeId → Trees → List Event
  elements_told later T e no_tree = list_ends ∷ []
  elements_told later T e (tree v vs) = element later ∷ (value_told T e v ++ elements_told true T e vs)

  -- of entries that are left of a map
  pub entries_told : Bool → Table → TypeId → TypeId → Pairs → List Event
  entries_told later T k e no_pair = map_ends k ∷ []
  entries_told later T k e (pair x v ps) =
      entry k later ∷ ((value_told T k x ++ between k ∷ (value_told T e v ++ entry_ends k ∷ []))
      ++ entries_told true T k e ps)

  -- of fields that are left of a struct
  pub fields_told : Table → List Field → ℕ → Fields → List Event
  fields_told T types next no_field = struct_ends types next ∷ []
  fields_told T types next (field f v fs) =
      (present types next f ∷ (value_told T (field_type (slice_get types f)) v ++ field_ends ∷ []))
      ++ fields_told T types (f + 1) fs

-- of an entry of a map
abbrev pub entry_told : Table → TypeId → TypeId → Tree → Tree → List Event
entry_told T k e x v = value_told T k x ++ between k ∷ (value_told T e v ++ entry_ends k ∷ [])
