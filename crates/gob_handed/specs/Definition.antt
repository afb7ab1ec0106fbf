-- A definition as nodes: one of its kind and name, and behind it one for each type that it names. Names stand in the
-- item's bytes. (docs/LIBRARY.md, Flat nodes: this project's own.)
use Rattle.std.specs.Prelude.{ℕ, ◌+◌, ◌-◌, ◌^◌, List, [], ◌∷◌, ◌++◌, Option, Some, None, length, min}
use Rattle.gob_types.specs.declared.id.TypeId.{TypeId}
use Rattle.gob_types.specs.declared.kind.Field.{Field}
use Rattle.gob_types.specs.declared.kind.Kind.{Kind}
use Rattle.gob_types.specs.declared.kind.Kind.TheVariants as kind
use Rattle.gob_types.specs.declared.kind.Marshal.{Marshal}
use Rattle.gob_types.specs.declared.kind.Marshal.TheVariants as marshal
use Rattle.gob_types.specs.declared.kind.Shape.{Shape}
use Rattle.gob_tape.specs.declared.flat.FlatNode.{FlatNode}

-- a node with a name, which begins there in the item's bytes
abbrev pub name_node : (kind number start : ℕ) → (name : List ℕ) → FlatNode
name_node kind number start name = record {
  first = start;
  second = length name;
  number = number;
  kind = kind;
  named = 0;
}

-- the number of a type, in 32 bits: no type of a stream has a greater one than 2 ^ 31 - 1
abbrev pub id_number : TypeId → ℕ
id_number id = min id.0 (2 ^ 32 - 1)

-- a node that names the type of the elements of an array that has so many
abbrev pub elem_node : TypeId → ℕ → FlatNode
elem_node id count = record { first = count; second = 0; number = id_number id; kind = 14; named = 0 }

-- a node that names a type
abbrev pub type_node : TypeId → FlatNode
type_node id = elem_node id 0

-- the fields of a struct, whose names begin there
abbrev pub field_nodes : ℕ → List Field → List FlatNode
field_nodes start [] = []
field_nodes start (f ∷ fs) = name_node 14 (id_number f.id) start f.name ∷ field_nodes (start + length f.name) fs

-- their names, one behind another
abbrev pub field_names : List Field → List ℕ
field_names [] = []
field_names (f ∷ fs) = f.name ++ field_names fs

-- the code of a kind: 14 is a type that is only named
abbrev pub kind_code : Kind → ℕ
kind_code (kind.Basic b) = 14
kind_code (kind.Array e n) = 13
kind_code (kind.Slice e) = 9
kind_code (kind.Struct fs) = 11
kind_code (kind.Map k e) = 10
kind_code (kind.Opaque m) = 12

-- by which method a type encodes itself
abbrev pub marshal_code : Marshal → ℕ
marshal_code marshal.Gob = 1
marshal_code marshal.Binary = 2
marshal_code marshal.Text = 3

-- by which method an opaque type does
abbrev pub kind_number : Kind → ℕ
kind_number (kind.Opaque m) = marshal_code m
kind_number _ = 0

-- the nodes behind the first; names begin there
abbrev pub named_nodes : ℕ → Kind → List FlatNode
named_nodes start (kind.Array e n) = elem_node e n ∷ []
named_nodes start (kind.Slice e) = type_node e ∷ []
named_nodes start (kind.Map k e) = type_node k ∷ (type_node e ∷ [])
named_nodes start (kind.Struct fs) = field_nodes start fs
named_nodes start _ = []

-- and the names that they have
abbrev pub named_bytes : Kind → List ℕ
named_bytes (kind.Struct fs) = field_names fs
named_bytes _ = []

-- all nodes of a shape; where there is none, one that names no type
abbrev pub shape_nodes : Option Shape → List FlatNode
shape_nodes None = name_node 14 0 0 [] ∷ []
shape_nodes (Some s) = name_node (kind_code s.kind) (kind_number s.kind) 0 s.name ∷ named_nodes (length s.name) s.kind

-- all bytes of a shape: its name, and the names of its fields
abbrev pub shape_bytes : Option Shape → List ℕ
shape_bytes None = []
shape_bytes (Some s) = s.name ++ named_bytes s.kind
