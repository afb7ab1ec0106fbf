-- A value is no deeper than the deepest place in its spelling.
use Rattle.std.proofs.Common.{◌≡◌, ◌≢◌, ℕ, ◌+◌, ◌-◌, ◌<◌, ◌≤◌, inl, inr, List, [], ◌∷◌, ◌++◌, length, Some, arith, refl}
use Rattle.std.proofs.Common.{sym, ap, ◌∙◌, subst, append_assoc, length-append}
use Rattle.std.specs.Prelude.{slice_get, max}
use Rattle.std.proofs.lemmas.Bool.{cases_lt}
use Rattle.gob_num.specs.Unsigned.{IsUnsigned}
use Rattle.gob_num.proofs.PublicLaws.{unsigned_length}
use Rattle.gob_types.specs.declared.id.TypeId.{TypeId}
use Rattle.gob_types.specs.declared.kind.Field.{Field}
use Rattle.gob_types.specs.declared.kind.Kind.{Kind}
use Rattle.gob_types.specs.declared.kind.Kind.TheVariants as kind
use Rattle.gob_types.specs.declared.kind.Shape.{Shape}
use Rattle.gob_types.specs.Table.{Table, shape_of}
use Rattle.gob_value.specs.Tree.{Tree, Trees, Pairs, Fields, tree_count, pair_count, depth, trees_depth, pairs_depth}
use Rattle.gob_value.specs.Tree.{fields_depth}
use Rattle.gob_value.specs.Spelling.{Spells, of_type, SpellsAs, of_bool, of_int, of_uint, of_float, of_complex, of_nil}
use Rattle.gob_value.specs.Spelling.{of_bytes, of_text, of_opaque, of_slice, of_array, of_map, of_struct, SpellsEach}
use Rattle.gob_value.specs.Spelling.{no_element, element, SpellsPairs, no_entry, entry, SpellsFields, end_of_fields}
use Rattle.gob_value.specs.Spelling.{next_field}
use Rattle.gob_value.specs.Top.{SpellsTop, at_once, tagged}
use Rattle.gob_read.specs.Expected.{Allowed, Expected, a_number, first_allowed}
use Rattle.gob_read.specs.Expects.{FieldsRun, no_fields, field_then, Enters, slice_element, array_element, next_key}
use Rattle.gob_read.specs.Expects.{next_value, next_field as enters_field, first, Expects, in_itself, in_part}
use Rattle.gob_read.specs.Expects.{in_struct, behind_tag}
use Rattle.gob_read.specs.Viable.{IsShallow}
use Rattle.gob_read.proofs.Grammar.Prefixes.{append_nil, joined_three}
use Rattle.gob_read.proofs.Grammar.Whole.{Meets, number_met, first_met}

-- somewhere before the end of the bytes something is expected so deep
pub record DeepPlace (T : Table) (t : TypeId) (n : ℕ) (b : List ℕ) : Type 0 where
  pub before : List ℕ
  pub rest : List ℕ
  pub expected : Expected
  pub expects : Expects T t before expected n
  pub whole : b ≡ before ++ rest
  pub some : 0 < length rest

-- in bytes of a part something is expected so deep: in the part itself, or in a part that is entered
data DeepIn (T : Table) (k : Kind) (n : ℕ) (b : List ℕ) : Type 0 where
  at_start : n ≡ 0 → DeepIn T k n b
  entered : {u : TypeId} {q p : List ℕ} {w : Expected} (rest : List ℕ) → Enters T k q u → Expects T u p w n → b ≡ q
      ++ (p ++ rest) → 0 < length rest → DeepIn T k n b

data DeepEach (T : Table) (e : TypeId) (n count : ℕ) (b : List ℕ) : Type 0 where
  no_elements : n ≡ 0 → DeepEach T e n count b
  in_element : {vs : Trees} {a p : List ℕ} {w : Expected} (rest : List ℕ) → SpellsEach T e vs a → tree_count vs < count
      → Expects T e p w n → b ≡ a ++ (p ++ rest) → 0 < length rest → DeepEach T e n count b

data DeepPairs (T : Table) (k e : TypeId) (n count : ℕ) (b : List ℕ) : Type 0 where
  no_pairs : n ≡ 0 → DeepPairs T k e n count b
  in_key : {ps : Pairs} {a p : List ℕ} {w : Expected} (rest : List ℕ) → SpellsPairs T k e ps a → pair_count ps < count
      → Expects T k p w n → b ≡ a ++ (p ++ rest) → 0 < length rest → DeepPairs T k e n count b
  in_value : {ps : Pairs} {x : Tree} {a c p : List ℕ} {w : Expected} (rest : List ℕ) → SpellsPairs T k e ps a
      → pair_count ps < count → Spells T k x c → Expects T e p w n → b ≡ a ++ (c ++ (p ++ rest)) → 0 < length rest
      → DeepPairs T k e n count b

data DeepFields (T : Table) (types : List Field) (start n : ℕ) (b : List ℕ) : Type 0 where
  no_field_deep : n ≡ 0 → DeepFields T types start n b
  in_field : {next f : ℕ} {e : Field} {a d p : List ℕ} {w : Expected} (rest : List ℕ) → FieldsRun T types start next a
      → next ≤ f → slice_get types f ≡ Some e → IsUnsigned (f + 1 - next) d → Expects T e.id p w n
      → b ≡ a ++ (d ++ (p ++ rest)) → 0 < length rest → DeepFields T types start n b

-- the number that a part begins with
met_length : {a : Allowed} {x : List ℕ} → Meets (a_number a) x → 0 < length x
met_length (number_met {c = c} r l s) = let some = (unsigned_length s).0 in omega (arith, length-append c r)

spelled_some : {T : Table} {k : Kind} {v : Tree} {b : List ℕ} → SpellsAs T k v b → 0 < length b
spelled_some {b = b} s = met_length (first_met b [] s (sym (append_nil b)))

at_first : {T : Table} {t : TypeId} {s : Shape} {v : Tree} {b : List ℕ} → shape_of T t ≡ Some s → SpellsAs T s.kind v b
    → DeepPlace T t 1 b
at_first {s = s} {b = b} e p = record {
  before = [];
  rest = b;
  expected = a_number (first_allowed s.kind);
  expects =
      in_itself e first;
  whole = refl;
  some = spelled_some p;
}

deeper : {T : Table} {t : TypeId} {s : Shape} {n : ℕ} {v : Tree} {b : List ℕ} → shape_of T t ≡ Some s
    → SpellsAs T s.kind v b → DeepIn T s.kind n b → DeepPlace T t (n + 1) b
deeper {T = T} {t = t} {b = b} e p (at_start z) = subst (λ n. DeepPlace T t n b) (omega arith) (at_first e p)
deeper {T = T} {t = t} {n = n} {b = b} e p (entered {q = q} {p = y} {w = w} r i a h l) =
    subst (λ n. DeepPlace T t n b) (omega arith) (record {
      before = q ++ y;
      rest = r;
      expected = w;
      expects =
          in_part e i a;
      whole = h ∙ sym (append_assoc q y r);
      some = l;
    })

each_same : {T : Table} {e : TypeId} {m n count : ℕ} {b : List ℕ} → m ≡ n → DeepEach T e m count b
    → DeepEach T e n count b
each_same {T = T} {e = e} {count = count} {b = b} h d = subst (λ n. DeepEach T e n count b) h d

each_later : {T : Table} {e : TypeId} {v : Tree} {n count : ℕ} {b c : List ℕ} → Spells T e v b → 0 < n
    → DeepEach T e n count c → DeepEach T e n (count + 1) (b ++ c)
each_later s l (no_elements z) = absurd (omega arith)
each_later {b = b} s l (in_element {a = a} {p = p} r ps k w h i) = in_element r (element s ps) (omega arith) w
    (ap (λ l. b ++ l) h ∙ sym (append_assoc b a (p ++ r))) i

each_here : {T : Table} {e : TypeId} {n : ℕ} {b : List ℕ} (count : ℕ) (c : List ℕ) → DeepPlace T e n b
    → DeepEach T e n (count + 1) (b ++ c)
each_here {b = b} count c d =
    in_element (d.rest ++ c) no_element (omega arith) d.expects (ap (λ l. l ++ c) d.whole
    ∙ append_assoc d.before d.rest c) (let l = d.some in omega (arith, length-append d.rest c))

pairs_same : {T : Table} {k e : TypeId} {m n count : ℕ} {b : List ℕ} → m ≡ n → DeepPairs T k e m count b
    → DeepPairs T k e n count b
pairs_same {T = T} {k = k} {e = e} {count = count} {b = b} h d = subst (λ n. DeepPairs T k e n count b) h d

pairs_later : {T : Table} {k e : TypeId} {x v : Tree} {n count : ℕ} {a b c : List ℕ} → Spells T k x a → Spells T e v b
    → 0 < n → DeepPairs T k e n count c → DeepPairs T k e n (count + 1) (a ++ (b ++ c))
pairs_later s s' l (no_pairs z) = absurd (omega arith)
pairs_later {a = a} {b = b} s s' l (in_key {a = d} {p = p} r ps k w h i) = in_key r (entry s s' ps) (omega arith) w
    (ap (λ l. a ++ (b ++ l)) h ∙ joined_three a b d (p ++ r)) i
pairs_later {a = a} {b = b} s s' l (in_value {a = d} {c = c} {p = p} r ps k x w h i) =
    in_value r (entry s s' ps) (omega arith) x w (ap (λ l. a ++ (b ++ l)) h ∙ joined_three a b d (c ++ (p ++ r))) i

key_here : {T : Table} {k e : TypeId} {n : ℕ} {a : List ℕ} (count : ℕ) (c : List ℕ) → DeepPlace T k n a
    → DeepPairs T k e n (count + 1) (a ++ c)
key_here {a = a} count c d =
    in_key (d.rest ++ c) no_entry (omega arith) d.expects (ap (λ l. l ++ c) d.whole ∙ append_assoc d.before d.rest c)
    (let l = d.some in omega (arith, length-append d.rest c))

value_here : {T : Table} {k e : TypeId} {x : Tree} {n : ℕ} {a b : List ℕ} (count : ℕ) (c : List ℕ) → Spells T k x a
    → DeepPlace T e n b → DeepPairs T k e n (count + 1) (a ++ (b ++ c))
value_here {a = a} {b = b} count c s d =
    in_value (d.rest ++ c) no_entry (omega arith) s d.expects (ap (λ l. a ++ (l ++ c)) d.whole
    ∙ ap (λ l. a ++ l) (append_assoc d.before d.rest c)) (let l = d.some in omega (arith, length-append d.rest c))

fields_same : {T : Table} {types : List Field} {start m n : ℕ} {b : List ℕ} → m ≡ n → DeepFields T types start m b
    → DeepFields T types start n b
fields_same {T = T} {types = types} {start = start} {b = b} h d = subst (λ n. DeepFields T types start n b) h d

fields_later : {T : Table} {types : List Field} {start f n : ℕ} {e : Field} {v : Tree} {a b c : List ℕ} → start ≤ f
    → slice_get types f ≡ Some e → IsUnsigned (f + 1 - start) a → Spells T e.id v b → 0 < n
    → DeepFields T types (f + 1) n c → DeepFields T types start n (a ++ (b ++ c))
fields_later l g u s i (no_field_deep z) = absurd (omega arith)
fields_later {a = a} {b = b} l g u s i (in_field {a = c} {d = d} {p = p} r q k m n w h j) =
    in_field r (field_then l g u s q) k m n w (ap (λ l. a ++ (b ++ l)) h ∙ joined_three a b c (d ++ (p ++ r))) j

field_here : {T : Table} {types : List Field} {start f n : ℕ} {e : Field} {a b : List ℕ} (c : List ℕ) → start ≤ f
    → slice_get types f ≡ Some e → IsUnsigned (f + 1 - start) a → DeepPlace T e.id n b
    → DeepFields T types start n (a ++ (b ++ c))
field_here {a = a} c l g u d =
    in_field (d.rest ++ c) no_fields l g u d.expects (ap (λ l. a ++ (l ++ c)) d.whole
    ∙ ap (λ l. a ++ l) (append_assoc d.before d.rest c)) (let l = d.some in omega (arith, length-append d.rest c))

not_none : (r : List ℕ) → 0 < length r → r ≢ []
not_none r l e = let n = ap length e in omega arith

-- how deep the parts of a value of the kind are, and where the deepest is
record DeepParts (T : Table) (k : Kind) (v : Tree) (b : List ℕ) : Type 0 where
  pub parts : ℕ
  pub depth_is : parts + 1 ≡ depth v
  pub deepest : DeepIn T k parts b

list_parts : {T : Table} {k : Kind} {e : TypeId} {n m : ℕ} {b : List ℕ} (c : List ℕ)
    → ((us : Trees) (a : List ℕ) → SpellsEach T e us a → tree_count us < m → Enters T k (c ++ a) e) → DeepEach T e n m b
    → DeepIn T k n (c ++ b)
list_parts c f (no_elements z) = at_start z
list_parts c f (in_element {a = a} {p = p} r ps l w h i) = entered r (f _ _ ps l) w (ap (λ l. c ++ l) h
    ∙ sym (append_assoc c a (p ++ r))) i

map_parts : {T : Table} {k e : TypeId} {n m : ℕ} {c b : List ℕ} → IsUnsigned m c → DeepPairs T k e n m b
    → DeepIn T (kind.Map k e) n (c ++ b)
map_parts u (no_pairs z) = at_start z
map_parts {c = c} u (in_key {a = a} {p = p} r ps l w h i) = entered r (next_key u ps l) w (ap (λ l. c ++ l) h
    ∙ sym (append_assoc c a (p ++ r))) i
map_parts {c = c} u (in_value {a = a} {c = x} {p = p} r ps l s w h i) = entered r (next_value u ps l s) w
    (ap (λ l. c ++ l) h ∙ joined_three c a x (p ++ r)) i

struct_parts : {T : Table} {types : List Field} {n : ℕ} {b : List ℕ} → DeepFields T types 0 n b
    → DeepIn T (kind.Struct types) n b
struct_parts (no_field_deep z) = at_start z
struct_parts (in_field {a = a} {d = d} {p = p} r q l g u w h i) = entered r (enters_field q l g u) w (h
    ∙ sym (append_assoc a d (p ++ r))) i

mutual
  pub deep_place : {T : Table} {t : TypeId} {v : Tree} {b : List ℕ} → Spells T t v b → DeepPlace T t (depth v) b
  deep_place {T = T} {t = t} {b = b} (of_type e p) = let r = deep_as p in subst (λ n. DeepPlace T t n b) r.depth_is
      (deeper e p r.deepest)

  deep_as : {T : Table} {k : Kind} {v : Tree} {b : List ℕ} → SpellsAs T k v b → DeepParts T k v b
  deep_as (of_bool p) = record { parts = 0; depth_is = omega arith; deepest = at_start refl }
  deep_as (of_int p) = record { parts = 0; depth_is = omega arith; deepest = at_start refl }
  deep_as (of_uint p) = record { parts = 0; depth_is = omega arith; deepest = at_start refl }
  deep_as (of_float p) = record { parts = 0; depth_is = omega arith; deepest = at_start refl }
  deep_as (of_complex p q) = record { parts = 0; depth_is = omega arith; deepest = at_start refl }
  deep_as (of_nil p) = record { parts = 0; depth_is = omega arith; deepest = at_start refl }
  deep_as (of_bytes p) = record { parts = 0; depth_is = omega arith; deepest = at_start refl }
  deep_as (of_text p) = record { parts = 0; depth_is = omega arith; deepest = at_start refl }
  deep_as (of_opaque p) = record { parts = 0; depth_is = omega arith; deepest = at_start refl }
  deep_as (of_slice {vs = vs} {c = c} p ps) = record {
    parts = trees_depth vs;
    depth_is = omega arith;
    deepest =
        list_parts c (λ us a qs l. slice_element p qs l) (deep_each ps);
  }
  deep_as (of_array {vs = vs} {c = c} m p ps) = record {
    parts = trees_depth vs;
    depth_is = omega arith;
    deepest =
        list_parts c (λ us a qs l. array_element p qs (omega arith)) (deep_each ps);
  }
  deep_as (of_map {ps = es} p ps) = record {
    parts = pairs_depth es;
    depth_is = omega arith;
    deepest =
        map_parts p (deep_pairs ps);
  }
  deep_as (of_struct {fs = fs} ps) = record {
    parts = fields_depth fs;
    depth_is = omega arith;
    deepest =
        struct_parts (deep_fields ps);
  }

  deep_each : {T : Table} {e : TypeId} {vs : Trees} {b : List ℕ} → SpellsEach T e vs b
      → DeepEach T e (trees_depth vs) (tree_count vs) b
  deep_each no_element = no_elements refl
  deep_each (element {v = v} {vs = vs} {c = c} s ps) =
      let here = deep_place s in
      let later = deep_each ps in
      elim (cases_lt (depth v) (trees_depth vs)) [
        | inl l ↦ each_same (omega arith) (each_later s (omega arith) later)
        | inr l ↦ each_same (omega arith) (each_here (tree_count vs) c here)
      ]

  deep_pairs : {T : Table} {k e : TypeId} {ps : Pairs} {b : List ℕ} → SpellsPairs T k e ps b
      → DeepPairs T k e (pairs_depth ps) (pair_count ps) b
  deep_pairs no_entry = no_pairs refl
  deep_pairs (entry {x = x} {v = v} {ps = es} {b = b} {c = c} s s' ps) =
      let key = deep_place s in
      let value = deep_place s' in
      let later = deep_pairs ps in
      elim (cases_lt (max (depth x) (depth v)) (pairs_depth es)) [
        | inl l ↦ pairs_same (omega arith) (pairs_later s s' (omega arith) later)
        | inr l ↦ elim (cases_lt (depth x) (depth v)) [
          | inl m ↦ pairs_same (omega arith) (value_here (pair_count es) c s value)
          | inr m ↦ pairs_same (omega arith) (key_here (pair_count es) (b ++ c) key)
        ]
      ]

  deep_fields : {T : Table} {types : List Field} {start : ℕ} {fs : Fields} {b : List ℕ}
      → SpellsFields T types start fs b → DeepFields T types start (fields_depth fs) b
  deep_fields (end_of_fields p) = no_field_deep refl
  deep_fields (next_field {v = v} {fs = fs} {a = a} {b = b} {c = c} l g n s ps) =
      let here = deep_place s in
      let later = deep_fields ps in
      elim (cases_lt (depth v) (fields_depth fs)) [
        | inl k ↦ fields_same (omega arith) (fields_later l g n s (omega arith) later)
        | inr k ↦ fields_same (omega arith) (field_here c l g n here)
      ]

-- where no place is too deep, no part of the value is
pub shallow_within : {T : Table} {t : TypeId} {limit : ℕ} {v : Tree} {b : List ℕ} → SpellsTop T t v b
    → IsShallow T t limit b → depth v ≤ limit
shallow_within (at_once e i s) h = let d = deep_place s in h.each d.before d.rest d.expected _ (in_struct e i d.expects)
    d.whole (not_none d.rest d.some)
shallow_within (tagged e i s) h = let d = deep_place s in h.each (0 ∷ d.before) d.rest d.expected _
    (behind_tag e i d.expects) (ap (λ (l : List ℕ). 0 ∷ l) d.whole) (not_none d.rest d.some)
