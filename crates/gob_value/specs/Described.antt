-- The description that a writer makes of a shape, with no field that can be left out.
-- (Go's encoding/gob documentation, Encoding Details, on wireType; docs/FORMAT.md, Descriptions.)
use Rattle.std.specs.Prelude.{ℕ, pos, ◌==◌, List, [], ◌∷◌, if◌then◌else◌}
use Rattle.gob_types.specs.declared.id.TypeId.{TypeId}
use Rattle.gob_types.specs.declared.kind.Field.{Field}
use Rattle.gob_types.specs.declared.kind.Kind.{Kind}
use Rattle.gob_types.specs.declared.kind.Kind.TheVariants as kind
use Rattle.gob_types.specs.declared.kind.Marshal.{Marshal}
use Rattle.gob_types.specs.declared.kind.Marshal.TheVariants as marshal
use Rattle.gob_types.specs.declared.kind.Shape.{Shape}
use Rattle.gob_value.specs.Tree.{Tree, Trees, no_tree, tree, Fields, no_field, field}
use Rattle.gob_value.specs.Tree as Value

-- an id, as a signed number
abbrev pub id_number : TypeId → Tree
id_number t = Value.int (pos t.0)

-- the fields of CommonType and of fieldType: Name only where it isn't empty, Id always
abbrev pub name_and_id : List ℕ → TypeId → Fields
name_and_id [] t = field 1 (id_number t) no_field
name_and_id (b ∷ bs) t = field 0 (Value.text (b ∷ bs)) (field 1 (id_number t) no_field)

-- the elements of structType's Field
abbrev pub field_types : List Field → Trees
field_types [] = no_tree
field_types (f ∷ fs) = tree (Value.fields (name_and_id f.name f.id)) (field_types fs)

-- Field only where there is a field
abbrev pub field_list : List Field → Fields
field_list [] = no_field
field_list (f ∷ fs) = field 1 (Value.many (field_types (f ∷ fs))) no_field

-- Len only where it isn't 0
abbrev pub array_length : ℕ → Fields
array_length n = if n == 0 then no_field else field 2 (Value.int (pos n)) no_field

-- a value of wireType with this field alone
abbrev pub wire_type_of : ℕ → Fields → Tree
wire_type_of f fs = Value.fields (field f (Value.fields fs) no_field)

-- the field of wireType for each way of marshalling
abbrev pub marshal_field : Marshal → ℕ
marshal_field marshal.Gob = 4
marshal_field marshal.Binary = 5
marshal_field marshal.Text = 6

-- the kind with the CommonType before what it says itself; a basic kind has no description
abbrev pub described_kind : Tree → Kind → Tree
described_kind common (kind.Array e n) = wire_type_of 0 (field 0 common (field 1 (id_number e) (array_length n)))
described_kind common (kind.Slice e) = wire_type_of 1 (field 0 common (field 1 (id_number e) no_field))
described_kind common (kind.Struct fs) = wire_type_of 2 (field 0 common (field_list fs))
described_kind common (kind.Map k e) = wire_type_of 3
    (field 0 common (field 1 (id_number k) (field 2 (id_number e) no_field)))
described_kind common (kind.Opaque m) = wire_type_of (marshal_field m) (field 0 common no_field)
described_kind common (kind.Basic b) = Value.fields no_field

-- the description of the shape for the type of this id
abbrev pub described : TypeId → Shape → Tree
described id s = described_kind (Value.fields (name_and_id s.name id)) s.kind
