-- The JSON of a value of a type. A part's type is told by the shape that its type has in the table.
-- (docs/FORMAT.md, The JSON lines: this project's own.)
use Rattle.std.specs.Prelude.{ℕ, ℤ, pos, negsuc, List, codes, slice_get, if◌then◌else◌}
use Rattle.std.specs.Int.{to_be_bytes, w64}
use Rattle.std.specs.Str.{is_utf8}
use Rattle.hex.specs.Hex.{encode_lower}
use Rattle.serde_json.specs.Data.{unsigned, negative, Data, null, boolean, number, string, array, object, Items}
use Rattle.serde_json.specs.Data.{no_items, item, no_members, member}
use Rattle.gob_types.specs.declared.id.TypeId.{TypeId}
use Rattle.gob_types.specs.declared.kind.Field.{Field}
use Rattle.gob_types.specs.Table.{Table, shape_of}
use Rattle.gob_value.specs.Tree.{Tree, Trees, no_tree, tree, Pairs, no_pair, pair, Fields, no_field, field}
use Rattle.gob_value.specs.Tree as Value
pub use Rattle.gob_walk.specs.PartTypes.{no_type, element_type, key_type, struct_fields, field_name, field_type}

-- bytes in lower case hexadecimal
abbrev pub hex_json : List ℕ → Data
hex_json b = string (encode_lower b)

-- text as a string where it is UTF-8, else {"hex":h}
abbrev pub text_json : List ℕ → Data
text_json b = if is_utf8 b then string b else object (member (codes "hex") (hex_json b) no_members)

-- {"opaque":h}
abbrev pub opaque_json : List ℕ → Data
opaque_json b = object (member (codes "opaque") (hex_json b) no_members)

-- the 64 bits of a float: 16 digits, the high one first
abbrev pub pattern_json : ℕ → Data
pattern_json p = hex_json (to_be_bytes w64 p)

abbrev pub natural_json : ℕ → Data
natural_json n = number (unsigned n)

abbrev pub integer_json : ℤ → Data
integer_json (pos n) = natural_json n
integer_json (negsuc n) = number (negative (negsuc n))

abbrev pub id_json : TypeId → Data
id_json t = natural_json t.0

-- [a,b]
abbrev pub pair_json : Data → Data → Data
pair_json a b = array (item a (item b no_items))

-- [a,b,c]
abbrev pub triple_json : Data → Data → Data → Data
triple_json a b c = array (item a (item b (item c no_items)))

abbrev mutual
  -- the value as a value of this type
  pub value_json : Table → TypeId → Tree → Data
  value_json T t (Value.bool x) = boolean x
  value_json T t (Value.int i) = integer_json i
  value_json T t (Value.uint n) = natural_json n
  value_json T t (Value.float p) = pattern_json p
  value_json T t (Value.complex p q) = pair_json (pattern_json p) (pattern_json q)
  value_json T t (Value.bytes b) = hex_json b
  value_json T t (Value.text b) = text_json b
  value_json T t Value.nil = null
  value_json T t (Value.many vs) = array (elements_json T (element_type (shape_of T t)) vs)
  value_json T t (Value.pairs ps) = array (pairs_json T (key_type (shape_of T t)) (element_type (shape_of T t)) ps)
  value_json T t (Value.fields fs) = array (fields_json T (struct_fields (shape_of T t)) fs)
  value_json T t (Value.opaque b) = opaque_json b

  pub elements_json : Table → TypeId → Trees → Items
  elements_json T e no_tree = no_items
  elements_json T e (tree v vs) = item (value_json T e v) (elements_json T e vs)

  -- [key,element] for each
  pub pairs_json : Table → TypeId → TypeId → Pairs → Items
  pairs_json T k e no_pair = no_items
  pairs_json T k e (pair x v ps) = item (pair_json (value_json T k x) (value_json T e v)) (pairs_json T k e ps)

  -- [number,name,value] for each field that is present
  pub fields_json : Table → List Field → Fields → Items
  fields_json T types no_field = no_items
  fields_json T types (field f v fs) = item
      (triple_json (natural_json f) (text_json (field_name (slice_get types f)))
      (value_json T (field_type (slice_get types f)) v)) (fields_json T types fs)

-- the value with its type: {"type":t,"value":v}
abbrev pub put_json : Table → TypeId → Tree → Data
put_json T id value = object (member (codes "type") (id_json id)
    (member (codes "value") (value_json T id value) no_members))
