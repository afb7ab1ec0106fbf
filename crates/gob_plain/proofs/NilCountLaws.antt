-- A value has as many nils as parts that are nil: a key that gives a name is none.
use Rattle.std.proofs.Common.{◌≡◌, ℕ, ◌+◌, List, [], ◌++◌, Bool, true, false, Option, Some, None, length, arith, refl}
use Rattle.std.proofs.Common.{sym, ap}
use Rattle.std.proofs.Common.{zero-add, ◌∙◌, subst, length-append, if◌then◌else◌}
use Rattle.std.specs.Prelude.{◌==◌, ◌||◌, ◌&&◌, ⊤, slice_get}
use Rattle.std.specs.Option.{unwrap_or}
use Rattle.gob_types.specs.Base.{base_table, id}
use Rattle.gob_types.specs.Defined.{IsTable}
use Rattle.gob_types.specs.KindParts.{elem_named, key_named, fields_named}
use Rattle.gob_types.specs.Table.{Table, basic_kind, basic_of, basic_shape, shape_of}
use Rattle.gob_types.specs.declared.basic.Basic.{Basic}
use Rattle.gob_types.specs.declared.basic.Basic.TheVariants as basic
use Rattle.gob_types.specs.declared.id.TypeId.{TypeId}
use Rattle.gob_types.specs.declared.kind.Field.{Field}
use Rattle.gob_types.specs.declared.kind.Kind.{Kind}
use Rattle.gob_types.specs.declared.kind.Kind.TheVariants as kind
use Rattle.gob_types.proofs.BasicLaws.{basic_of-table}
use Rattle.gob_value.specs.Tree.{Tree, Trees, no_tree, tree, Pairs, no_pair, pair, Fields, no_field, field}
use Rattle.gob_value.specs.Spelling.{Spells, SpellsAs, SpellsEach, SpellsPairs, SpellsFields, of_type, of_bool, of_int}
use Rattle.gob_value.specs.Spelling.{of_uint, of_float, of_complex, of_nil, of_bytes, of_text, of_opaque, of_slice}
use Rattle.gob_value.specs.Spelling.{of_array, of_map, of_struct, no_element, element, no_entry, entry, end_of_fields}
use Rattle.gob_value.specs.Spelling.{next_field}
use Rattle.gob_read.specs.Weight.{part_count}
use Rattle.gob_go.specs.Machine.WholeFilled.{IsOfKind}
use Rattle.gob_json.specs.Json.{element_type, key_type, struct_fields, field_type, no_type}
use Rattle.gob_plain.specs.declared.style.Style.{Style}
use Rattle.gob_plain.specs.Filled.{all_filled, filled, nils_in, nils_of_each_in}
use Rattle.gob_plain.specs.HeldPlain.{nil_parts, nil_parts_of_each, nil_parts_of_pairs, nil_parts_of_fields}
use Rattle.gob_plain.specs.Plain.{all_differ, are_utf8, key_names}
use Rattle.gob_plain.specs.Plain.{are_named, gives_names, nils, nils_of_each, nils_of_members, nils_of_pairs}
use Rattle.gob_plain.specs.Plain.{nils_of_fields}
use Rattle.gob_plain.proofs.NilLaws.{each_filled_nils, filled_nils}

-- ---- what a type is made of

pub elements_of : (T : Table) (t e : TypeId) (k : Kind) → IsOfKind T t k → elem_named k ≡ Some e
    → element_type (shape_of T t) ≡ e
elements_of T t e k is named = ap element_type is.1 ∙ ap (λ k. unwrap_or (elem_named k) no_type) is.2
    ∙ ap (λ o. unwrap_or o no_type) named

pub keys_of : (T : Table) (t u e : TypeId) → IsOfKind T t (kind.Map u e) → key_type (shape_of T t) ≡ u
keys_of T t u e is = ap key_type is.1 ∙ ap (λ k. unwrap_or (key_named k) no_type) is.2

pub fields_of : (T : Table) (t : TypeId) (types : List Field) → IsOfKind T t (kind.Struct types)
    → struct_fields (shape_of T t) ≡ types
fields_of T t types is = ap struct_fields is.1 ∙ ap (λ k. unwrap_or (fields_named k) []) is.2

-- ---- keys that give names

-- a text or a whole number
abbrev pub NamesKind : Option Basic → Type 0
NamesKind (Some basic.Str) = ⊤
NamesKind (Some basic.Int) = ⊤
NamesKind (Some basic.Uint) = ⊤
NamesKind _ = ⊥

pub names_kind : {T : Table} {shape : Kind} → IsTable T → (k : TypeId) → gives_names k ≡ true → IsOfKind T k shape
    → NamesKind (basic_kind shape)
names_kind {T = T} table k named is =
    subst NamesKind (sym (basic_of-table table k) ∙ ap basic_shape is.1 ∙ ap basic_kind is.2)
    (by (k.0 == 6) refl (k.0 == 2) refl (k.0 == 3) refl named)
  where
    at : (n : ℕ) → k.0 ≡ n → NamesKind (basic_of base_table (id n)) → NamesKind (basic_of base_table k)
    at n e = subst (λ n. NamesKind (basic_of base_table (id n))) (sym e)

    by : (a : Bool) → (k.0 == 6) ≡ a → (b : Bool) → (k.0 == 2) ≡ b → (c : Bool) → (k.0 == 3) ≡ c
        → (a || (b || c)) ≡ true → NamesKind (basic_of base_table k)
    by true e b f c g h = at 6 (grind arith) tt
    by false e true f c g h = at 2 (grind arith) tt
    by false e false f true g h = at 3 (grind arith) tt
    by false e false f false g h = cc

module _ {T : Table} (table : IsTable T) where
  pub name_bare : {x : Tree} {b : List ℕ} (k : TypeId) (n : ℕ) → gives_names k ≡ true → Spells T k x b
      → nil_parts n x ≡ []
  name_bare k n named (of_type {s = s} found spelled) = by spelled (names_kind table k named (s, found, refl))
    where
      by : {s : Kind} {x : Tree} {b : List ℕ} → SpellsAs T s x b → NamesKind (basic_kind s) → nil_parts n x ≡ []
      by (of_bool h) is = refl
      by (of_int h) is = refl
      by (of_uint h) is = refl
      by (of_float h) is = refl
      by (of_complex h i) is = refl
      by (of_nil h) is = absurd is
      by (of_bytes h) is = refl
      by (of_text h) is = refl
      by (of_opaque h) is = refl
      by (of_slice h i) is = absurd is
      by (of_array e h i) is = absurd is
      by (of_map h i) is = absurd is
      by (of_struct h) is = absurd is

  -- ---- how many there are
  both_counted : {m n : ℕ} (a b : List ℕ) → length a ≡ m → length b ≡ n → length (a ++ b) ≡ m + n
  both_counted a b e f = omega (arith, e, f, length-append a b)

  map_counted : {c : ℕ} (k e : TypeId) (ps : Pairs) → (gives_names k ≡ true → c ≡ nils_of_members T e ps)
      → c ≡ nils_of_pairs T k e ps → c ≡ (if are_named k ps then nils_of_members T e ps else nils_of_pairs T k e ps)
  map_counted {c = c} k e ps members pairs = by (gives_names k) (are_utf8 ps || all_differ (key_names ps)) members
    where
      by : (a b : Bool) → (a ≡ true → c ≡ nils_of_members T e ps)
          → c ≡ (if a && b then nils_of_members T e ps else nils_of_pairs T k e ps)
      by true true f = f refl
      by true false f = pairs
      by false b f = pairs

  mutual
    pub nils_counted : {t : TypeId} {v : Tree} {b : List ℕ} (n : ℕ) → Spells T t v b
        → length (nil_parts n v) ≡ nils T t v
    nils_counted {t = t} n (of_type {s = s} found spelled) = kind_counted t n (s, found, refl) spelled

    kind_counted : {k : Kind} {v : Tree} {b : List ℕ} (t : TypeId) (n : ℕ) → IsOfKind T t k → SpellsAs T k v b
        → length (nil_parts n v) ≡ nils T t v
    kind_counted t n is (of_bool h) = refl
    kind_counted t n is (of_int h) = refl
    kind_counted t n is (of_uint h) = refl
    kind_counted t n is (of_float h) = refl
    kind_counted t n is (of_complex h i) = refl
    kind_counted t n is (of_nil h) = refl
    kind_counted t n is (of_bytes h) = refl
    kind_counted t n is (of_text h) = refl
    kind_counted t n is (of_opaque h) = refl
    kind_counted t n is (of_slice {e = e} {vs = vs} h i) =
        each_counted (n + 1) i ∙ ap (λ e. nils_of_each T e vs) (sym (elements_of T t e (kind.Slice e) is refl))
    kind_counted t n is (of_array {e = e} {n = m} {vs = vs} many h i) =
        each_counted (n + 1) i ∙ ap (λ e. nils_of_each T e vs) (sym (elements_of T t e (kind.Array e m) is refl))
    kind_counted t n is (of_map {k = k} {e = e} {ps = ps} h i) =
        map_counted k e ps (λ named. members_counted k named (n + 1) i) (pairs_counted (n + 1) i)
        ∙ ap (λ e. if are_named k ps then nils_of_members T e ps else nils_of_pairs T k e ps)
        (sym (elements_of T t e (kind.Map k e) is refl))
        ∙ ap (λ k. if are_named k ps then nils_of_members T (element_type (shape_of T t)) ps
        else nils_of_pairs T k (element_type (shape_of T t)) ps) (sym (keys_of T t k e is))
    kind_counted t n is (of_struct {types = types} {fs = fs} h) =
        fields_counted (n + 1) h ∙ ap (λ types. nils_of_fields T types fs) (sym (fields_of T t types is))

    pub each_counted : {e : TypeId} {vs : Trees} {b : List ℕ} (n : ℕ) → SpellsEach T e vs b
        → length (nil_parts_of_each n vs) ≡ nils_of_each T e vs
    each_counted n no_element = refl
    each_counted n (element {v = v} h i) = both_counted _ _ (nils_counted n h) (each_counted (n + part_count v) i)

    members_counted : {e : TypeId} {ps : Pairs} {b : List ℕ} (k : TypeId) → gives_names k ≡ true → (n : ℕ)
        → SpellsPairs T k e ps b → length (nil_parts_of_pairs n ps) ≡ nils_of_members T e ps
    members_counted k named n no_entry = refl
    members_counted k named n (entry {x = x} {v = v} g h i) =
        let none : length (nil_parts n x) ≡ 0 = ap length (name_bare k n named g) in
        both_counted _ _ none (both_counted _ _ (nils_counted (n + part_count x) h)
        (members_counted k named (n + part_count x + part_count v) i)) ∙ zero-add _

    pairs_counted : {k e : TypeId} {ps : Pairs} {b : List ℕ} (n : ℕ) → SpellsPairs T k e ps b
        → length (nil_parts_of_pairs n ps) ≡ nils_of_pairs T k e ps
    pairs_counted n no_entry = refl
    pairs_counted n (entry {x = x} {v = v} g h i) =
        both_counted _ _ (nils_counted n g) (both_counted _ _ (nils_counted (n + part_count x) h)
        (pairs_counted (n + part_count x + part_count v) i))

    fields_counted : {types : List Field} {next : ℕ} {fs : Fields} {b : List ℕ} (n : ℕ) → SpellsFields T types next fs b
        → length (nil_parts_of_fields n fs) ≡ nils_of_fields T types fs
    fields_counted n (end_of_fields h) = refl
    fields_counted n (next_field {f = f} {v = v} {fs = fs} order here delta h i) =
        both_counted _ _ (nils_counted n h ∙ ap (λ t. nils T t v) (sym (ap field_type here)))
        (fields_counted (n + part_count v) i)

-- and no zero is one
pub nils_shown : (style : Style) (T : Table) (t : TypeId) (v : Tree) → nils_in style T t v ≡ nils T t v
nils_shown style T t v = by style.zeros
  where
    by : (z : Bool) → nils T t (if z then filled T t v else v) ≡ nils T t v
    by true = filled_nils T t v
    by false = refl

pub each_nils_shown : (style : Style) (T : Table) (e : TypeId) (vs : Trees)
    → nils_of_each_in style T e vs ≡ nils_of_each T e vs
each_nils_shown style T e vs = by style.zeros
  where
    by : (z : Bool) → nils_of_each T e (if z then all_filled T e vs else vs) ≡ nils_of_each T e vs
    by true = each_filled_nils T e vs
    by false = refl
