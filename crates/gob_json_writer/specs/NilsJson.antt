-- The JSON of a value each of whose nils shows some JSON: null, or what an interface holds there. The parts of a value
-- are numbered in the order of their first bytes, the value itself first, and N has what the nil of a number shows.
-- (docs/FORMAT.md, The JSON lines: this project's own.)
use Rattle.std.specs.Prelude.{ℕ, ◌+◌, List, [], ◌∷◌, ◌++◌, codes, slice_get}
use Rattle.json.specs.Token.{Token}
use Rattle.json.specs.Tree.{json_tokens}
use Rattle.serde_json.specs.Written.{outline}
use Rattle.serde_json.specs.Data.{Data, array, object, Items, no_items, item, no_members, member}
use Rattle.gob_types.specs.declared.id.TypeId.{TypeId}
use Rattle.gob_types.specs.declared.kind.Field.{Field}
use Rattle.gob_types.specs.Table.{Table, shape_of}
use Rattle.gob_value.specs.Tree.{Tree, Trees, no_tree, tree, Pairs, no_pair, pair, Fields, no_field, field}
use Rattle.gob_value.specs.Tree as Value
use Rattle.gob_read.specs.Weight.{part_count}
use Rattle.gob_json.specs.Json.{value_json, element_type, key_type, struct_fields, field_name, field_type}
use Rattle.gob_json.specs.Json.{text_json, natural_json, id_json, pair_json, triple_json}

abbrev mutual
  -- the value as a value of this type, where its own number is n
  pub value_json_with : (ℕ → Data) → Table → TypeId → ℕ → Tree → Data
  value_json_with N T t n Value.nil = N n
  value_json_with N T t n (Value.many vs) = array (elements_json_with N T (element_type (shape_of T t)) (n + 1) vs)
  value_json_with N T t n (Value.pairs ps) =
      array (pairs_json_with N T (key_type (shape_of T t)) (element_type (shape_of T t)) (n + 1) ps)
  value_json_with N T t n (Value.fields fs) = array (fields_json_with N T (struct_fields (shape_of T t)) (n + 1) fs)
  value_json_with N T t n v = value_json T t v

  pub elements_json_with : (ℕ → Data) → Table → TypeId → ℕ → Trees → Items
  elements_json_with N T e n no_tree = no_items
  elements_json_with N T e n (tree v vs) =
      item (value_json_with N T e n v) (elements_json_with N T e (n + part_count v) vs)

  -- [key,element] for each
  pub pairs_json_with : (ℕ → Data) → Table → TypeId → TypeId → ℕ → Pairs → Items
  pairs_json_with N T k e n no_pair = no_items
  pairs_json_with N T k e n (pair x v ps) =
      item (pair_json (value_json_with N T k n x) (value_json_with N T e (n + part_count x) v))
      (pairs_json_with N T k e (n + part_count x + part_count v) ps)

  -- [number,name,value] for each field that is present
  pub fields_json_with : (ℕ → Data) → Table → List Field → ℕ → Fields → Items
  fields_json_with N T types n no_field = no_items
  fields_json_with N T types n (field f v fs) = item
      (triple_json (natural_json f) (text_json (field_name (slice_get types f)))
      (value_json_with N T (field_type (slice_get types f)) n v)) (fields_json_with N T types (n + part_count v) fs)

-- the value with its type: {"type":t,"value":v}
abbrev pub put_json_with : (ℕ → Data) → Table → TypeId → Tree → Data
put_json_with N T id v = object (member (codes "type") (id_json id)
    (member (codes "value") (value_json_with N T id 0 v) no_members))

-- what an interface holds, by the name of its type: {"interface":{"name":s,"type":t,"value":v}}
abbrev pub interface_json : List ℕ → TypeId → Data → Data
interface_json name id value = object (member (codes "interface") (object (member (codes "name") (text_json name)
    (member (codes "type") (id_json id) (member (codes "value") value no_members)))) no_members)

-- the tokens of it before the value
abbrev pub interface_front : List ℕ → TypeId → List Token
interface_front name id = Token.begin_object ∷ (Token.key (codes "interface") ∷ (Token.begin_object
    ∷ (Token.key (codes "name") ∷ (json_tokens (outline (text_json name)) ++ (Token.key (codes "type")
    ∷ (json_tokens (outline (id_json id)) ++ (Token.key (codes "value") ∷ [])))))))
