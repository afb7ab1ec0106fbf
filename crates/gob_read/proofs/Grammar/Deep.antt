-- A value is at least as deep as each place in its spelling.
use Rattle.std.proofs.Common.{◌≡◌, ℕ, suc, ◌+◌, ◌-◌, ◌<◌, ◌≤◌, List, [], ◌++◌, Some, arith, sym, ap, ◌∙◌, subst}
use Rattle.std.proofs.Common.{append_assoc}
use Rattle.std.specs.Prelude.{slice_get}
use Rattle.gob_num.specs.Unsigned.{IsUnsigned}
use Rattle.gob_num.proofs.PublicLaws.{unsigned_prefix, regroup}
use Rattle.gob_types.specs.declared.id.TypeId.{TypeId}
use Rattle.gob_types.specs.declared.kind.Field.{Field}
use Rattle.gob_types.specs.declared.kind.Kind.{Kind}
use Rattle.gob_types.specs.declared.kind.Shape.{Shape}
use Rattle.gob_types.specs.Table.{Table}
use Rattle.gob_types.proofs.PublicLaws.{some_injective}
use Rattle.gob_value.specs.Tree.{Tree, Trees, Pairs, Fields, tree_count, pair_count, depth, trees_depth, pairs_depth}
use Rattle.gob_value.specs.Tree.{fields_depth}
use Rattle.gob_value.specs.Tree as Value
use Rattle.gob_value.specs.Spelling.{Spells, of_type, SpellsAs, of_slice, of_array, of_map, of_struct, SpellsEach}
use Rattle.gob_value.specs.Spelling.{no_element, element, SpellsPairs, no_entry, entry, SpellsFields, end_of_fields}
use Rattle.gob_value.specs.Spelling.{next_field}
use Rattle.gob_value.specs.Top.{SpellsTop, at_once, tagged}
use Rattle.gob_value.proofs.PublicLaws.{same_spelling}
use Rattle.gob_read.specs.Expected.{Expected}
use Rattle.gob_read.specs.Expects.{FieldsRun, no_fields, field_then, Enters, slice_element, array_element, next_key}
use Rattle.gob_read.specs.Expects.{next_value, next_field as enters_field, Expects, in_itself, in_part, ExpectsTop}
use Rattle.gob_read.specs.Expects.{in_struct, at_tag, behind_tag}
use Rattle.gob_read.specs.Viable.{IsShallow}
use Rattle.gob_read.proofs.Grammar.Prefixes.{append_nil}
use Rattle.gob_read.proofs.Grammar.Compare.{one_way, tail_same}

-- some value of the type stands first, and isn't deeper than this
pub record StandsWithin (T : Table) (t : TypeId) (most : ℕ) (r : List ℕ) : Type 0 where
  pub value : Tree
  pub bytes : List ℕ
  pub rest : List ℕ
  pub spelled : Spells T t value bytes
  pub whole : r ≡ bytes ++ rest
  pub within : depth value ≤ most

pub within_more : {T : Table} {t : TypeId} {m n : ℕ} {r : List ℕ} → m ≤ n → StandsWithin T t m r → StandsWithin T t n r
within_more l h = record {
  value = h.value;
  bytes = h.bytes;
  rest = h.rest;
  spelled = h.spelled;
  whole = h.whole;
  within = let k = h.within in omega arith;
}

each_within : {T : Table} {e : TypeId} {vs ws : Trees} {b c : List ℕ} (x y : List ℕ) → SpellsEach T e vs b
    → SpellsEach T e ws c → tree_count vs < tree_count ws → b ++ x ≡ c ++ y → StandsWithin T e (trees_depth ws) x
each_within x y no_element no_element n h = absurd (omega arith)
each_within x y no_element (element {v = w} {b = c} {c = q'} q qs) n h = record {
  value = w;
  bytes = c;
  rest = q'
      ++ y;
  spelled = q;
  whole = h ∙ append_assoc c q' y;
  within = omega arith;
}
each_within x y (element p ps) no_element n h = absurd (omega arith)
each_within x y (element {b = b} {c = p'} p ps) (element {b = c} {c = q'} q qs) n h =
    let r = same_spelling (p' ++ x) (q' ++ y) p q (regroup b p' x c q' y h) in
    within_more (omega arith) (each_within x y ps qs (omega arith) r.rest)

fields_within : {T : Table} {types : List Field} {start next f : ℕ} {e : Field} {fs : Fields} {a n b : List ℕ}
    (x y : List ℕ) → FieldsRun T types start next a → next ≤ f → slice_get types f ≡ Some e
    → IsUnsigned (f + 1 - next) n
    → SpellsFields T types start fs b → a ++ (n ++ x) ≡ b ++ y → StandsWithin T e.id (fields_depth fs) x
fields_within x y no_fields l g n (end_of_fields k) h = absurd (let u = (unsigned_prefix x y n k h).value in
    omega arith)
fields_within {T = T} {types = types} {f = f} {e = e} x y no_fields l g n (next_field {f = f'} {e = e'} {v = w} {a = a'}
    {b = b'} {c = c'} l' g' n' s' ps) h =
    let u = unsigned_prefix x ((b' ++ c') ++ y) n n' (h ∙ append_assoc a' (b' ++ c') y) in
    let one : f' ≡ f = let v = u.value in omega arith in
    let type : e' ≡ e = some_injective (sym g' ∙ ap (λ n. slice_get types n) one ∙ g) in
    record {
      value = w;
      bytes = b';
      rest = c' ++ y;
      spelled = subst (λ (e : Field). Spells T e.id w b') type s';
      whole =
          u.rest ∙ append_assoc b' c' y;
      within = omega arith;
    }
fields_within {n = m} x y (field_then {a = a} {b = b} {c = c} l g n s q) l' g' k (end_of_fields j) h =
    absurd (let r = (unsigned_prefix ((b ++ c) ++ (m ++ x)) y n j (sym (append_assoc a (b ++ c) (m ++ x)) ∙ h)).value in
    omega arith)
fields_within {T = T} {types = types} {n = m} x y (field_then {f = f} {e = e} {a = a} {b = b} {c = c} l g n s q) l'' g''
    k (next_field {f = f'} {e = e'} {v = w} {fs = ws} {a = a'} {b = b'} {c = c'} l' g' n' s' ps) h =
    let r = unsigned_prefix ((b ++ c) ++ (m ++ x)) ((b' ++ c') ++ y) n n' (regroup a (b ++ c) (m ++ x) a' (b' ++ c') y
    h) in
    let one : f' ≡ f = let v = r.value in omega arith in
    let type : e' ≡ e = some_injective (sym g' ∙ ap (λ n. slice_get types n) one ∙ g) in
    let u = same_spelling (c ++ (m ++ x)) (c' ++ y) s (subst (λ (e : Field). Spells T e.id w b') type s')
    (regroup b c (m ++ x) b' c' y r.rest) in
    within_more (omega arith) (fields_within x y q l'' g'' k (subst (λ n. SpellsFields T types (n + 1) ws c') one ps)
    u.rest)

key_within : {T : Table} {k e : TypeId} {ps qs : Pairs} {b c : List ℕ} (x y : List ℕ) → SpellsPairs T k e ps b
    → SpellsPairs T k e qs c → pair_count ps < pair_count qs → b ++ x ≡ c ++ y → StandsWithin T k (pairs_depth qs) x
key_within x y no_entry no_entry n h = absurd (omega arith)
key_within x y no_entry (entry {x = v} {v = w} {a = f} {b = g} {c = q'} q s qs) n h =
    record {
      value = v;
      bytes = f;
      rest = (g ++ q') ++ y;
      spelled = q;
      whole = h ∙ append_assoc f (g ++ q') y;
      within =
          omega arith;
    }
key_within x y (entry p r ps) no_entry n h = absurd (omega arith)
key_within x y (entry {a = a} {b = b} {c = p'} p r ps) (entry {a = c} {b = d} {c = q'} q s qs) n h =
    let one = same_spelling ((b ++ p') ++ x) ((d ++ q') ++ y) p q (regroup a (b ++ p') x c (d ++ q') y h) in
    let two = same_spelling (p' ++ x) (q' ++ y) r s (regroup b p' x d q' y one.rest) in
    within_more (omega arith) (key_within x y ps qs (omega arith) two.rest)

value_within : {T : Table} {k e : TypeId} {ps qs : Pairs} {v : Tree} {b a c : List ℕ} (x y : List ℕ)
    → SpellsPairs T k e ps b → Spells T k v a → SpellsPairs T k e qs c → pair_count ps < pair_count qs → b
    ++ (a ++ x) ≡ c ++ y → StandsWithin T e (pairs_depth qs) x
value_within x y no_entry t no_entry n h = absurd (omega arith)
value_within x y no_entry t (entry {v = w} {a = f} {b = g} {c = q'} q s qs) n h =
    let u = same_spelling x ((g ++ q') ++ y) t q (h ∙ append_assoc f (g ++ q') y) in
    record {
      value = w;
      bytes = g;
      rest = q' ++ y;
      spelled = s;
      whole = u.rest ∙ append_assoc g q' y;
      within =
          omega arith;
    }
value_within x y (entry p r ps) t no_entry n h = absurd (omega arith)
value_within {a = k} x y (entry {a = a} {b = b} {c = p'} p r ps) t (entry {a = c} {b = d} {c = q'} q s qs) n h =
    let one = same_spelling ((b ++ p') ++ (k ++ x)) ((d ++ q') ++ y) p q (regroup a (b ++ p') (k ++ x) c (d ++ q') y h)
    in
    let two = same_spelling (p' ++ (k ++ x)) (q' ++ y) r s (regroup b p' (k ++ x) d q' y one.rest) in
    within_more (omega arith) (value_within x y ps t qs (omega arith) two.rest)

-- a part that is entered is less deep than the whole
enters_less : {T : Table} {k : Kind} {s : TypeId} {v : Tree} {b q : List ℕ} (y r : List ℕ) → Enters T k q s
    → SpellsAs T k v b → q ++ r ≡ b ++ y → (n : ℕ) × (suc n ≡ depth v) × StandsWithin T s n r
enters_less y r (slice_element {c = f} {b = g} n qs l) (of_slice {vs = vs} {c = c} {b = d} p ps) h =
    let u = unsigned_prefix (g ++ r) (d ++ y) n p (regroup f g r c d y h) in
    (trees_depth vs, omega arith, each_within r y qs ps (let total = u.value in omega arith) u.rest)
enters_less y r (array_element {c = f} {b = g} n qs l) (of_array {vs = vs} {c = c} {b = d} m p ps) h =
    let u = unsigned_prefix (g ++ r) (d ++ y) n p (regroup f g r c d y h) in
    (trees_depth vs, omega arith, each_within r y qs ps (let total = u.value in omega arith) u.rest)
enters_less y r (next_key {c = f} {b = g} n qs l) (of_map {ps = es} {c = c} {b = d} p ps) h =
    let u = unsigned_prefix (g ++ r) (d ++ y) n p (regroup f g r c d y h) in
    (pairs_depth es, omega arith, key_within r y qs ps (let m = u.value in omega arith) u.rest)
enters_less y r (next_value {c = f} {b = g} {a = a} n qs l s) (of_map {ps = es} {c = c} {b = d} p ps) h =
    let u = unsigned_prefix ((g ++ a) ++ r) (d ++ y) n p (regroup f (g ++ a) r c d y h) in (
      pairs_depth es,
      omega arith,
      value_within r y qs s ps (let m = u.value in omega arith) (sym (append_assoc g a r)
          ∙ u.rest),
    )
enters_less y r (enters_field {a = a} {b = b} q l g n) (of_struct {fs = fs} ps) h =
    (fields_depth fs, omega arith, fields_within r y q l g n ps (sym (append_assoc a b r) ∙ h))

depth_some : (v : Tree) → 1 ≤ depth v
depth_some (Value.bool b) = omega arith
depth_some (Value.int i) = omega arith
depth_some (Value.uint n) = omega arith
depth_some (Value.float p) = omega arith
depth_some (Value.complex p q) = omega arith
depth_some (Value.bytes s) = omega arith
depth_some (Value.text s) = omega arith
depth_some Value.nil = omega arith
depth_some (Value.many vs) = omega arith
depth_some (Value.pairs ps) = omega arith
depth_some (Value.fields fs) = omega arith
depth_some (Value.opaque s) = omega arith

pub expects_within : {T : Table} {t : TypeId} {d : ℕ} {v : Tree} {b p : List ℕ} {w : Expected} (x y : List ℕ)
    → Spells T t v b → Expects T t p w d → p ++ x ≡ b ++ y → d ≤ depth v
expects_within {v = v} x y s (in_itself e a) h = depth_some v
expects_within {T = T} {v = v} {b = b} x y (of_type {s = l} f s) (in_part {s = k} {p = p} {q = q} g n a) h =
    let one : l ≡ k = some_injective (sym f ∙ g) in
    let u = enters_less y (p ++ x) n (subst (λ (k : Shape). SpellsAs T k.kind v b) one s) (sym (append_assoc q p x)
    ∙ h) in
    let m = expects_within x u.2.rest u.2.spelled a u.2.whole in
    let l = u.2.within in let o = u.1 in omega arith

pub expects_top_within : {T : Table} {t : TypeId} {d : ℕ} {v : Tree} {b p : List ℕ} {w : Expected} (x y : List ℕ)
    → SpellsTop T t v b → ExpectsTop T t p w d → p ++ x ≡ b ++ y → d ≤ depth v
expects_top_within x y (at_once e i s) (in_struct f j a) h = expects_within x y s a h
expects_top_within x y (at_once e i s) (at_tag f n) h = omega arith
expects_top_within x y (at_once e i s) (behind_tag f n a) h = one_way e i f n
expects_top_within x y (tagged e n s) (in_struct f j a) h = one_way f j e n
expects_top_within x y (tagged e n s) (at_tag f m) h = omega arith
expects_top_within x y (tagged e n s) (behind_tag f m a) h = expects_within x y s a (tail_same h)

-- before the end of a value that isn't too deep no part is
pub within_shallow : {T : Table} {t : TypeId} {limit : ℕ} {v : Tree} {b : List ℕ} → SpellsTop T t v b → depth v ≤ limit
    → IsShallow T t limit b
within_shallow {b = b} s l =
    record { each = λ q x w d a e n. (let m = expects_top_within x [] s a (sym e ∙ sym (append_nil b)) in omega arith) }
