-- The JSON of a definition: the shape of its type. (docs/FORMAT.md, The JSON lines: this project's own.)
use Rattle.std.specs.Prelude.{ℕ, List, [], ◌∷◌, codes, Option, Some, None}
use Rattle.serde_json.specs.Data.{Data, string, array, object, Items, no_items, item, Members, no_members, member}
use Rattle.gob_types.specs.declared.id.TypeId.{TypeId}
use Rattle.gob_types.specs.declared.kind.Field.{Field}
use Rattle.gob_types.specs.declared.kind.Kind.{Kind}
use Rattle.gob_types.specs.declared.kind.Kind.TheVariants as kind
use Rattle.gob_types.specs.declared.kind.Marshal.{Marshal}
use Rattle.gob_types.specs.declared.kind.Marshal.TheVariants as marshal
use Rattle.gob_types.specs.declared.kind.Shape.{Shape}
use Rattle.gob_json.specs.Json.{text_json, natural_json, id_json, pair_json}

-- [name,type] for each field
abbrev pub field_types_json : List Field → Items
field_types_json [] = no_items
field_types_json (f ∷ fs) = item (pair_json (text_json f.name) (id_json f.id)) (field_types_json fs)

-- the last member of a definition
abbrev pub name_member : List ℕ → Members
name_member name = member (codes "name") (text_json name) no_members

abbrev pub kind_member : List ℕ → Members → Members
kind_member kind members = member (codes "kind") (string kind) members

-- the kind of an opaque type, by its way of marshalling
abbrev pub marshal_name : Marshal → List ℕ
marshal_name marshal.Gob = codes "gob"
marshal_name marshal.Binary = codes "binary"
marshal_name marshal.Text = codes "text"

-- what stands behind the id, by the kind: nothing for a basic type, which no definition gives
abbrev pub shape_members : Kind → List ℕ → Members
shape_members (kind.Array e n) name =
    member (codes "elem") (id_json e)
    (kind_member (codes "array") (member (codes "len") (natural_json n) (name_member name)))
shape_members (kind.Slice e) name = member (codes "elem") (id_json e) (kind_member (codes "slice") (name_member name))
shape_members (kind.Struct fs) name = member (codes "fields") (array (field_types_json fs))
    (kind_member (codes "struct") (name_member name))
shape_members (kind.Map k e) name =
    member (codes "elem") (id_json e) (member (codes "key") (id_json k) (kind_member (codes "map") (name_member name)))
shape_members (kind.Opaque m) name = kind_member (marshal_name m) (name_member name)
shape_members (kind.Basic b) name = no_members

-- what the table says of a type: nothing where it has none
abbrev pub definition_members : Option Shape → Members
definition_members None = no_members
definition_members (Some s) = shape_members s.kind s.name

-- the JSON of a definition whose type has this shape
abbrev pub definition_json : TypeId → Option Shape → Data
definition_json id shape = object (member (codes "define") (id_json id) (definition_members shape))
