-- Each proper prefix of a spelling stands somewhere: after its first bytes something is expected, and the others begin
-- it.
use Rattle.std.proofs.Common.{◌≡◌, ◌≢◌, ℕ, zero, suc, ◌+◌, ◌-◌, ◌<◌, ◌≤◌, ◌⊎◌, inl, inr, List, [], ◌∷◌, ◌++◌, length}
use Rattle.std.proofs.Common.{Some, arith, refl, sym, ap, ◌∙◌, subst, append_assoc, length-append}
use Rattle.std.proofs.lemmas.Option.{slice_get_within}
use Rattle.std.specs.Prelude.{ℤ, slice_get}
use Rattle.gob_types.specs.declared.basic.Basic.TheVariants as basic
use Rattle.gob_types.specs.declared.kind.Shape.{Shape}
use Rattle.std.proofs.lemmas.Bool.{cases_lt}
use Rattle.gob_num.specs.Unsigned.{IsUnsigned, short}
use Rattle.gob_num.specs.Signed.{IsSigned}
use Rattle.gob_num.proofs.PublicLaws.{pattern_unsigned, signed_unsigned}
use Rattle.gob_types.specs.declared.id.TypeId.{TypeId}
use Rattle.gob_types.specs.declared.kind.Field.{Field}
use Rattle.gob_types.specs.declared.kind.Kind.{Kind}
use Rattle.gob_types.specs.declared.kind.Kind.TheVariants as kind
use Rattle.gob_types.specs.Table.{Table, shape_of}
use Rattle.gob_value.specs.Tree.{Tree, Trees, no_tree, tree, Pairs, Fields, tree_count, pair_count}
use Rattle.gob_value.specs.Spelling.{Spells, of_type, SpellsAs, of_bool, of_int, of_uint, of_float, of_complex, of_nil}
use Rattle.gob_value.specs.Spelling.{of_bytes, of_text, of_opaque, of_slice, of_array, of_map, of_struct, SpellsEach}
use Rattle.gob_value.specs.Spelling.{no_element, element, SpellsPairs, no_entry, entry, SpellsFields, end_of_fields}
use Rattle.gob_value.specs.Spelling.{next_field}
use Rattle.gob_value.specs.Top.{SpellsTop, at_once, tagged}
use Rattle.gob_read.specs.Expected.{Expected, a_number, raw, Allowed, Allows, delta, tag, first_allowed}
use Rattle.gob_read.specs.Expects.{FieldsRun, no_fields, field_then, Enters, slice_element, array_element, next_key}
use Rattle.gob_read.specs.Expects.{next_value, next_field as enters_field, ExpectsAt, first, second, byte_content}
use Rattle.gob_read.specs.Expects.{text_content, opaque_content, next_delta, Expects, in_itself, in_part, in_struct}
use Rattle.gob_read.specs.Expects.{at_tag, behind_tag}
use Rattle.gob_read.specs.Begins.{IsProperPrefix}
use Rattle.gob_read.specs.Laws.{is_number, is_raw, BeginsExpected, ExpectsMore}
use Rattle.gob_read.proofs.Grammar.Prefixes.{prefix_of, some_bytes, nothing_left, rest_behind, prefix_length}
use Rattle.gob_read.proofs.Grammar.Prefixes.{joined_three}
use Rattle.gob_read.proofs.Grammar.Whole.{truth_low}

-- two lists, one behind the other, are cut in the first or behind it
cut : {P : Type 0} (a b z x : List ℕ) → a ++ b ≡ z ++ x → ((s : List ℕ) → a ≡ z ++ s → s ≢ [] → P)
    → ((s : List ℕ) → z ≡ a ++ s → b ≡ s ++ x → P) → P
cut a b z x e f g =
    elim (cases_lt (length z) (length a)) [
      | inl l ↦ (let h = prefix_of z a x b (sym e) (omega arith) in
          f h.rest h.whole (λ k. let n = prefix_length z a h in
          let m = ap length k in omega arith))
      | inr l ↦ (let h = prefix_of a z b x e l in g h.rest h.whole (rest_behind a z b x e h))
    ]

number_begun : {a : Allowed} {n : ℕ} {c : List ℕ} (z s : List ℕ) → Allows a n → IsUnsigned n c → c ≡ z ++ s → s ≢ []
    → BeginsExpected (a_number a) z
number_begun {a = a} {n = n} z s l u e k = record { rest = s; more = k; item = is_number l (subst (IsUnsigned n) e u) }

raw_begun : {n : ℕ} {c : List ℕ} (z s : List ℕ) → length c ≡ n → c ≡ z ++ s → s ≢ [] → BeginsExpected (raw n) z
raw_begun z s l e k = record { rest = s; more = k; item = is_raw (ap length (sym e) ∙ l) }

-- where bytes of a part stop: in the part itself, or in one that is entered
pub record Stops (T : Table) (t : TypeId) (z : List ℕ) : Type 0 where
  pub before : List ℕ
  pub under_way : List ℕ
  pub expected : Expected
  pub depth : ℕ
  pub expects : Expects T t before expected depth
  pub whole : z ≡ before ++ under_way
  pub begun : BeginsExpected expected under_way

data StopsIn (T : Table) (k : Kind) (z : List ℕ) : Type 0 where
  stops_here : {p : List ℕ} {w : Expected} (r : List ℕ) → ExpectsAt T k p w → z ≡ p ++ r → BeginsExpected w r
      → StopsIn T k z
  stops_inside : {u : TypeId} {q : List ℕ} (y : List ℕ) → Enters T k q u → Stops T u y → z ≡ q ++ y → StopsIn T k z

at_number : {T : Table} {k : Kind} {n : ℕ} {c : List ℕ} (z s : List ℕ) → Allows (first_allowed k) n → IsUnsigned n c
    → c ≡ z ++ s → s ≢ [] → StopsIn T k z
at_number z s l u e n = stops_here z first refl (number_begun z s l u e n)

of_stops : {T : Table} {t : TypeId} {s : Shape} {z : List ℕ} → shape_of T t ≡ Some s → StopsIn T s.kind z → Stops T t z
of_stops e (stops_here {p = p} {w = w} r a h b) = record {
  before = p;
  under_way = r;
  expected = w;
  depth = 1;
  expects =
      in_itself e a;
  whole = h;
  begun = b;
}
of_stops e (stops_inside {q = q} y i s h) =
    record {
      before = q ++ s.before;
      under_way = s.under_way;
      expected = s.expected;
      depth = suc s.depth;
      expects =
          in_part e i s.expects;
      whole = h ∙ ap (λ l. q ++ l) s.whole ∙ sym (append_assoc q s.before s.under_way);
      begun =
          s.begun;
    }

-- in the elements, behind some of them
record StopsEach (T : Table) (e : TypeId) (count : ℕ) (z : List ℕ) : Type 0 where
  pub trees : Trees
  pub bytes : List ℕ
  pub rest : List ℕ
  pub spelled : SpellsEach T e trees bytes
  pub fewer : tree_count trees < count
  pub stops : Stops T e rest
  pub whole : z ≡ bytes ++ rest

data StopsPairs (T : Table) (k e : TypeId) (count : ℕ) (z : List ℕ) : Type 0 where
  in_key : {ps : Pairs} {b : List ℕ} (y : List ℕ) → SpellsPairs T k e ps b → pair_count ps < count → Stops T k y → z ≡ b
      ++ y → StopsPairs T k e count z
  in_value : {ps : Pairs} {v : Tree} {b a : List ℕ} (y : List ℕ) → SpellsPairs T k e ps b → pair_count ps < count
      → Spells T k v a → Stops T e y → z ≡ b ++ (a ++ y) → StopsPairs T k e count z

-- in the fields: at a delta, or in a field
data StopsFields (T : Table) (types : List Field) (start : ℕ) (z : List ℕ) : Type 0 where
  in_delta : {next : ℕ} {a : List ℕ} (r : List ℕ) → FieldsRun T types start next a → next ≤ length types → z ≡ a ++ r
      → BeginsExpected (a_number (delta (length types - next))) r → StopsFields T types start z
  in_field : {next f : ℕ} {e : Field} {a b : List ℕ} (y : List ℕ) → FieldsRun T types start next a → next ≤ f
      → slice_get types f ≡ Some e → IsUnsigned (f + 1 - next) b → Stops T e.id y → z ≡ a ++ (b ++ y)
      → StopsFields T types start z

each_later : {T : Table} {e : TypeId} {v : Tree} {b : List ℕ} {count : ℕ} (z y : List ℕ) → Spells T e v b → z ≡ b ++ y
    → StopsEach T e count y → StopsEach T e (count + 1) z
each_later {v = v} {b = b} z y s h r = record {
  trees = tree v r.trees;
  bytes = b ++ r.bytes;
  rest = r.rest;
  spelled = element s r.spelled;
  fewer = let n = r.fewer in omega arith;
  stops = r.stops;
  whole = h ∙ ap (λ l. b ++ l) r.whole ∙ sym (append_assoc b r.bytes r.rest);
}

pairs_later : {T : Table} {k e : TypeId} {x v : Tree} {a b : List ℕ} {count : ℕ} (z y : List ℕ) → Spells T k x a
    → Spells T e v b → z ≡ a ++ (b ++ y) → StopsPairs T k e count y → StopsPairs T k e (count + 1) z
pairs_later {a = a} {b = b} z y s s' h (in_key {b = c} x ps l i j) = in_key x (entry s s' ps) (omega arith) i (h
    ∙ ap (λ l. a ++ (b ++ l)) j ∙ joined_three a b c x)
pairs_later {a = a} {b = b} z y s s' h (in_value {b = c} {a = d} x ps l m i j) =
    in_value x (entry s s' ps) (omega arith) m i (h ∙ ap (λ l. a ++ (b ++ l)) j ∙ joined_three a b c (d ++ x))

fields_later : {T : Table} {types : List Field} {start f : ℕ} {e : Field} {v : Tree} {a b : List ℕ} (z y : List ℕ)
    → start ≤ f → slice_get types f ≡ Some e → IsUnsigned (f + 1 - start) a → Spells T e.id v b → z ≡ a ++ (b ++ y)
    → StopsFields T types (f + 1) y → StopsFields T types start z
fields_later {a = a} {b = b} z y l g u s h (in_delta {a = c} r q m j i) = in_delta r (field_then l g u s q) m (h
    ∙ ap (λ l. a ++ (b ++ l)) j ∙ joined_three a b c r) i
fields_later {a = a} {b = b} z y l g u s h (in_field {a = c} {b = d} x q m n w i j) = in_field x (field_then l g u s q)
    m n w i (h ∙ ap (λ l. a ++ (b ++ l)) j ∙ joined_three a b c (d ++ x))

-- field numbers rise
run_rises : {T : Table} {types : List Field} {start next : ℕ} {a : List ℕ} → FieldsRun T types start next a
    → (start ≤ next) × (next ≡ start → a ≡ [])
run_rises no_fields = (omega arith, λ e. refl)
run_rises (field_then l g n s q) = let r = (run_rises q).0 in (omega arith, λ e. absurd (omega arith))

struct_stops : {T : Table} {types : List Field} {z : List ℕ} → StopsFields T types 0 z → StopsIn T (kind.Struct types) z
struct_stops {T = T} {types = types} {z = z} (in_delta {next = zero} {a = a} r q l h i) =
    stops_here r first (h ∙ ap (λ l. l ++ r) ((run_rises q).1 refl)) (subst (λ n. BeginsExpected (a_number (delta n)) r)
    (omega arith) i)
struct_stops (in_delta {next = suc n} r q l h i) = stops_here r (next_delta (omega arith) q) h i
struct_stops (in_field {a = a} {b = b} y q l g n s h) = stops_inside y (enters_field q l g n) s (h
    ∙ sym (append_assoc a b y))

content_stops : {T : Table} {k : Kind} {c : List ℕ} (s z x : List ℕ) → Allows (first_allowed k) (length s)
    → IsUnsigned (length s) c → (0 < length s → ExpectsAt T k c (raw (length s))) → c ++ s ≡ z ++ x → x ≢ []
    → StopsIn T k z
content_stops {c = c} s z x l u f e n =
    cut c s z x e (λ r h i. at_number z r l u h i)
    (λ r h i. stops_here r (f (let m = ap length i in let k = some_bytes x n in omega (arith, length-append r x))) h
    (raw_begun r x refl i n))

-- behind the count of a list or a map
counted_stops : {T : Table} {k : Kind} {n : ℕ} {c b : List ℕ} (z x : List ℕ) → Allows (first_allowed k) n
    → IsUnsigned n c → ((y : List ℕ) → z ≡ c ++ y → b ≡ y ++ x → StopsIn T k z) → c ++ b ≡ z ++ x → StopsIn T k z
counted_stops {c = c} {b = b} z x l u f e = cut c b z x e (λ r h i. at_number z r l u h i) f

list_stops : {T : Table} {k : Kind} {e : TypeId} {m : ℕ} (c z y : List ℕ)
    → ((us : Trees) (a : List ℕ) → SpellsEach T e us a → tree_count us < m → Enters T k (c ++ a) e) → z ≡ c ++ y
    → StopsEach T e m y → StopsIn T k z
list_stops c z y f h r = stops_inside r.rest (f r.trees r.bytes r.spelled r.fewer) r.stops (h ∙ ap (λ l. c ++ l) r.whole
    ∙ sym (append_assoc c r.bytes r.rest))

map_stops : {T : Table} {k e : TypeId} {m : ℕ} {c : List ℕ} (z y : List ℕ) → IsUnsigned m c → z ≡ c ++ y
    → StopsPairs T k e m y → StopsIn T (kind.Map k e) z
map_stops {c = c} z y u h (in_key {b = b} x ps l s j) = stops_inside x (next_key u ps l) s (h ∙ ap (λ l. c ++ l) j
    ∙ sym (append_assoc c b x))
map_stops {c = c} z y u h (in_value {b = b} {a = a} x ps l v s j) = stops_inside x (next_value u ps l v) s (h
    ∙ ap (λ l. c ++ l) j ∙ joined_three c b a x)

signed_stops : {T : Table} {i : ℤ} {b : List ℕ} (z x : List ℕ) → IsSigned i b → b ≡ z ++ x → x ≢ []
    → StopsIn T (kind.Basic basic.Int) z
signed_stops z x p e n = at_number z x tt (signed_unsigned p).1 e n

mutual
  pub stops_type : {T : Table} {t : TypeId} {v : Tree} {b : List ℕ} (z x : List ℕ) → Spells T t v b → b ≡ z ++ x
      → x ≢ [] → Stops T t z
  stops_type z x (of_type e p) h n = of_stops e (stops_as z x p h n)

  stops_as : {T : Table} {k : Kind} {v : Tree} {b : List ℕ} (z x : List ℕ) → SpellsAs T k v b → b ≡ z ++ x → x ≢ []
      → StopsIn T k z
  stops_as z x (of_bool {x = b} p) h n = at_number z x (truth_low b) p h n
  stops_as z x (of_int p) h n = signed_stops z x p h n
  stops_as z x (of_uint p) h n = at_number z x tt p h n
  stops_as z x (of_float p) h n = at_number z x tt (pattern_unsigned p).1 h n
  stops_as z x (of_complex {b = b} {c = c} p q) h n =
      counted_stops z x tt (pattern_unsigned p).1
      (λ y i j. stops_here y (second p) i (number_begun y x tt (pattern_unsigned q).1 j n)) h
  stops_as z x (of_nil p) h n = at_number z x refl p h n
  stops_as z x (of_bytes {s = s} p) h n = content_stops s z x tt p (λ l. byte_content l p) h n
  stops_as z x (of_text {s = s} p) h n = content_stops s z x tt p (λ l. text_content l p) h n
  stops_as z x (of_opaque {s = s} p) h n = content_stops s z x tt p (λ l. opaque_content l p) h n
  stops_as z x (of_slice {c = c} p ps) h n =
      counted_stops z x tt p (λ y i j. list_stops c z y (λ us a qs l. slice_element p qs l) i (stops_each y x ps j n)) h
  stops_as z x (of_array {c = c} m p ps) h n =
      counted_stops z x refl p (λ y i j. list_stops c z y (λ us a qs l. array_element p qs (omega arith)) i
      (stops_each y x ps j n)) h
  stops_as z x (of_map p ps) h n = counted_stops z x tt p (λ y i j. map_stops z y p i (stops_pairs y x ps j n)) h
  stops_as z x (of_struct ps) h n = struct_stops (stops_fields z x (omega arith) ps h n)

  stops_each : {T : Table} {e : TypeId} {vs : Trees} {b : List ℕ} (z x : List ℕ) → SpellsEach T e vs b → b ≡ z ++ x
      → x ≢ [] → StopsEach T e (tree_count vs) z
  stops_each z x no_element h n = absurd (n (nothing_left z x (sym h)))
  stops_each z x (element {b = b} {c = c} s ps) h n =
      cut b c z x h
      (λ r i j. record {
        trees = no_tree;
        bytes = [];
        rest = z;
        spelled = no_element;
        fewer = omega arith;
        stops =
            stops_type z r s i j;
        whole = refl;
      })
      (λ r i j. each_later z r s i (stops_each r x ps j n))

  stops_pairs : {T : Table} {k e : TypeId} {ps : Pairs} {b : List ℕ} (z x : List ℕ) → SpellsPairs T k e ps b → b ≡ z
      ++ x → x ≢ [] → StopsPairs T k e (pair_count ps) z
  stops_pairs z x no_entry h n = absurd (n (nothing_left z x (sym h)))
  stops_pairs z x (entry {a = a} {b = b} {c = c} s s' ps) h n =
      cut a (b ++ c) z x h
      (λ r i j. in_key z no_entry (omega arith) (stops_type z r s i j) refl)
      (λ r i j. cut b c r x j
      (λ y k l. in_value r no_entry (omega arith) s (stops_type r y s' k l) i)
      (λ y k l. pairs_later z y s s' (i ∙ ap (λ l. a ++ l) k) (stops_pairs y x ps l n)))

  stops_fields : {T : Table} {types : List Field} {start : ℕ} {fs : Fields} {b : List ℕ} (z x : List ℕ)
      → start ≤ length types → SpellsFields T types start fs b → b ≡ z ++ x → x ≢ [] → StopsFields T types start z
  stops_fields z x l (end_of_fields p) h n = in_delta z no_fields l refl (number_begun z x (omega arith) p h n)
  stops_fields {types = types} z x k (next_field {f = f} {e = e} {a = a} {b = b} {c = c} l g u s ps) h n =
      let below = slice_get_within types f e g in
      cut a (b ++ c) z x h
      (λ r i j. in_delta z no_fields k refl (number_begun z r (omega arith) u i j))
      (λ r i j. cut b c r x j
      (λ y m o. in_field r no_fields l g u (stops_type r y s m o) i)
      (λ y m o. fields_later z y l g u s (i ∙ ap (λ l. a ++ l) m) (stops_fields y x (omega arith) ps o n)))

tag_one : {z b x : List ℕ} → 0 ∷ b ≡ z ++ x → z ≢ [] → (y : List ℕ) × (z ≡ 0 ∷ y) × (b ≡ y ++ x)
tag_one {z = []} e n = absurd (n refl)
tag_one {z = a ∷ z} e n = (z, cc, cc)

none_or_some : (z : List ℕ) → (z ≡ []) ⊎ (z ≢ [])
none_or_some [] = inl refl
none_or_some (a ∷ z) = inr (λ e. cc)

pub prefix_stands : {T : Table} {t : TypeId} {z : List ℕ} → IsProperPrefix T t z → ExpectsMore T t z
prefix_stands {T = T} {t = t} {z = z} h = from h.begins.spelled refl
  where
    from : {b : List ℕ} → SpellsTop T t h.begins.value b → b ≡ z ++ h.begins.rest → ExpectsMore T t z
    from (at_once e i s) k =
        let r = stops_type z h.begins.rest s k h.more in
        record {
          before = r.before;
          under_way = r.under_way;
          expected = r.expected;
          depth = r.depth;
          expects =
              in_struct e i r.expects;
          whole = r.whole;
          begun = r.begun;
        }
    from (tagged {b = b} e i s) k =
        elim (none_or_some z) [
          | inl n ↦ record {
            before = [];
            under_way = z;
            expected = a_number tag;
            depth = 0;
            expects = at_tag e i;
            whole = refl;
            begun = record {
              rest = 0 ∷ [];
              more = λ e. cc;
              item =
                  is_number refl (subst (λ z. IsUnsigned 0 (z ++ 0 ∷ [])) (sym n) (short (omega arith)));
            };
          }
          | inr n ↦ (
              let y = tag_one k n in
              let r = stops_type y.0 h.begins.rest s y.2 h.more in
              record {
                before = 0 ∷ r.before;
                under_way = r.under_way;
                expected = r.expected;
                depth = r.depth;
                expects = behind_tag e i r.expects;
                whole = y.1 ∙ ap (λ (l : List ℕ). 0 ∷ l) r.whole;
                begun = r.begun;
              })
        ]
