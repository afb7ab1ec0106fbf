-- Where each nil shows null, a value shows what it shows as one without them.
use Rattle.std.proofs.Common.{◌≡◌, ◌∙◌, ℕ, ◌+◌, List, ap, refl}
use Rattle.std.specs.Prelude.{slice_get, codes}
use Rattle.serde_json.specs.Data.{Data, null, array, object, item, no_members, member}
use Rattle.gob_types.specs.declared.id.TypeId.{TypeId}
use Rattle.gob_types.specs.declared.kind.Field.{Field}
use Rattle.gob_types.specs.Table.{Table, shape_of}
use Rattle.gob_value.specs.Tree.{Tree, Trees, no_tree, tree, Pairs, no_pair, pair, Fields, no_field, field}
use Rattle.gob_value.specs.Tree as Value
use Rattle.gob_read.specs.Weight.{part_count}
use Rattle.gob_json.specs.Json.{value_json, elements_json, pairs_json, fields_json, put_json, id_json, pair_json}
use Rattle.gob_json.specs.Json.{element_type, key_type, struct_fields, field_name, field_type, triple_json}
use Rattle.gob_json.specs.Json.{natural_json, text_json}
use Rattle.gob_json_writer.specs.NilsJson.{value_json_with, elements_json_with, pairs_json_with, fields_json_with}
use Rattle.gob_json_writer.specs.NilsJson.{put_json_with}

-- what nils show in which nothing stands
abbrev pub nulls : ℕ → Data
nulls n = null

mutual
  pub value_nulls : (T : Table) (t : TypeId) (n : ℕ) (v : Tree) → value_json_with nulls T t n v ≡ value_json T t v
  value_nulls T t n (Value.many vs) = ap array (elements_nulls T (element_type (shape_of T t)) (n + 1) vs)
  value_nulls T t n (Value.pairs ps) =
      ap array (pairs_nulls T (key_type (shape_of T t)) (element_type (shape_of T t)) (n + 1) ps)
  value_nulls T t n (Value.fields fs) = ap array (fields_nulls T (struct_fields (shape_of T t)) (n + 1) fs)
  value_nulls T t n _ = refl

  pub elements_nulls : (T : Table) (e : TypeId) (n : ℕ) (vs : Trees)
      → elements_json_with nulls T e n vs ≡ elements_json T e vs
  elements_nulls T e n no_tree = refl
  elements_nulls T e n (tree v vs) =
      ap (λ d. item d (elements_json_with nulls T e (n + part_count v) vs)) (value_nulls T e n v)
      ∙ ap (item (value_json T e v)) (elements_nulls T e (n + part_count v) vs)

  pairs_nulls : (T : Table) (k e : TypeId) (n : ℕ) (ps : Pairs)
      → pairs_json_with nulls T k e n ps ≡ pairs_json T k e ps
  pairs_nulls T k e n no_pair = refl
  pairs_nulls T k e n (pair x v ps) =
      let m = n + part_count x in
      let rest = pairs_json_with nulls T k e (m + part_count v) ps in
      ap (λ d. item (pair_json d (value_json_with nulls T e m v)) rest) (value_nulls T k n x)
      ∙ ap (λ d. item (pair_json (value_json T k x) d) rest) (value_nulls T e m v)
      ∙ ap (item (pair_json (value_json T k x) (value_json T e v))) (pairs_nulls T k e (m + part_count v) ps)

  fields_nulls : (T : Table) (types : List Field) (n : ℕ) (fs : Fields)
      → fields_json_with nulls T types n fs ≡ fields_json T types fs
  fields_nulls T types n no_field = refl
  fields_nulls T types n (field f v fs) =
      let e = slice_get types f in
      ap (λ d. item (triple_json (natural_json f) (text_json (field_name e)) d)
      (fields_json_with nulls T types (n + part_count v) fs)) (value_nulls T (field_type e) n v)
      ∙ ap (item (triple_json (natural_json f) (text_json (field_name e)) (value_json T (field_type e) v)))
      (fields_nulls T types (n + part_count v) fs)

pub put_nulls : (T : Table) (id : TypeId) (v : Tree) → put_json_with nulls T id v ≡ put_json T id v
put_nulls T id v = ap (λ d. object (member (codes "type") (id_json id) (member (codes "value") d no_members)))
    (value_nulls T id 0 v)
