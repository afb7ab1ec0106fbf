-- Of two parts of a value that begin behind some bytes and behind more, more parts begin before the second.
use Rattle.std.proofs.Common.{◌≡◌, ◌∙◌, ℕ, suc, ◌+◌, ◌-◌, ◌<◌, ◌≤◌, ◌⊎◌, inl, inr, List, [], ◌∷◌, ◌++◌, length}
use Rattle.std.proofs.Common.{Some, arith, refl, sym, ap, subst, append_assoc, append-nil, length-append}
use Rattle.std.specs.Prelude.{slice_get}
use Rattle.gob_num.specs.Unsigned.{IsUnsigned}
use Rattle.gob_num.specs.Spelled.{Same}
use Rattle.gob_num.proofs.PublicLaws.{unsigned_prefix, regroup}
use Rattle.gob_types.specs.declared.id.TypeId.{TypeId}
use Rattle.gob_types.specs.declared.kind.Field.{Field}
use Rattle.gob_types.specs.declared.kind.Kind.{Kind}
use Rattle.gob_types.specs.declared.kind.Shape.{Shape}
use Rattle.gob_types.specs.Table.{Table, shape_of}
use Rattle.gob_types.proofs.PublicLaws.{some_injective}
use Rattle.gob_value.specs.Tree.{Tree, Trees, Pairs, Fields, no_field, tree_count, pair_count}
use Rattle.gob_value.specs.Tree as Value
use Rattle.gob_value.specs.Spelling.{Spells, of_type, SpellsAs, of_slice, of_array, of_map, of_struct, SpellsEach}
use Rattle.gob_value.specs.Spelling.{no_element, element, SpellsPairs, no_entry, entry, SpellsFields, end_of_fields}
use Rattle.gob_value.specs.Spelling.{next_field}
use Rattle.gob_value.specs.Top.{IsStruct}
use Rattle.gob_value.proofs.PublicLaws.{same_spelling}
use Rattle.gob_read.specs.Expected.{Expected, a_number, nil, first_allowed, within_number}
use Rattle.gob_read.specs.Expects.{FieldsRun, no_fields, field_then, Enters, slice_element, array_element, next_key}
use Rattle.gob_read.specs.Expects.{next_value, ExpectsAt, first, second, byte_content, text_content, opaque_content}
use Rattle.gob_read.specs.Expects.{next_delta, Expects, ExpectsTop}
use Rattle.gob_read.specs.Expects as expects
use Rattle.gob_read.specs.Weight.{part_count, parts_of_all, parts_of_pairs, parts_of_fields}
use Rattle.gob_read.specs.Held.{WholeFields, no_whole_field, whole_field, PartsBefore, before_element}
use Rattle.gob_read.specs.Held.{before_array_element, before_key, before_value, before_field, not_begun, PartialPart}
use Rattle.gob_read.specs.Held.{in_itself, in_part, PartialBody, in_struct, behind_tag}
use Rattle.gob_read.proofs.Grammar.Compare.{one_way, tail_same}
use Rattle.gob_read.proofs.Grammar.Firsts.{ends_not_met}
use Rattle.gob_read.proofs.Grammar.HeldLaws.{Came, nothing_yet}
use Rattle.gob_read.proofs.Grammar.Once.{NextField, number_then}
use Rattle.gob_read.proofs.Grammar.Whole.{StandsFirst, PairStandsFirst, key_then, whole_meets}

-- ---- where a part begins
-- behind these bytes of a part of the type a part begins, itself or one in it; with them so many parts and raw bytes
-- came
pub data Begins (T : Table) : TypeId → List ℕ → ℕ → ℕ → Type 0 where
  itself : {t : TypeId} {s : Shape} → shape_of T t ≡ Some s → Begins T t [] 0 0
  inside : {t u : TypeId} {s : Shape} {q z : List ℕ} {m n w v : ℕ} → shape_of T t ≡ Some s → Enters T s.kind q u
      → PartsBefore T s.kind q u m w → Begins T u z n v → Begins T t (q ++ z) (m + n) (w + v)

-- and so behind these of a body
pub data BeginsTop (T : Table) : TypeId → List ℕ → ℕ → ℕ → Type 0 where
  in_a_struct : {t : TypeId} {s : Shape} {z : List ℕ} {m w : ℕ} → shape_of T t ≡ Some s → IsStruct s.kind
      → Begins T t z m w → BeginsTop T t z m w
  behind_the_tag : {t : TypeId} {s : Shape} {z : List ℕ} {m w : ℕ} → shape_of T t ≡ Some s → ¬ IsStruct s.kind
      → Begins T t z m w → BeginsTop T t (0 ∷ z) m w

partial_part : {T : Table} {t : TypeId} {z : List ℕ} {m w : ℕ} → Begins T t z m w → PartialPart T t z m w
partial_part (itself e) = in_itself e not_begun
partial_part (inside e n b p) = in_part e b (partial_part p)

pub partial_body : {T : Table} {t : TypeId} {z : List ℕ} {m w : ℕ} → BeginsTop T t z m w → PartialBody T t z m w
partial_body (in_a_struct e i p) = in_struct e i (partial_part p)
partial_body (behind_the_tag e n p) = behind_tag e n (partial_part p)

run_fields : {T : Table} {types : List Field} {start next : ℕ} {b : List ℕ} → FieldsRun T types start next b
    → (fs : Fields) × WholeFields T types start next fs b
run_fields no_fields = (no_field, no_whole_field)
run_fields (field_then {f = f} {v = v} l g n s q) =
    let r = run_fields q in (Value.field f v r.0, whole_field l g n s r.1)

before_came : {T : Table} {k : Kind} {q : List ℕ} {u : TypeId} → Enters T k q u → Came (PartsBefore T k q u)
before_came (slice_element n s l) = record { parts = _; raws = _; holds = before_element n s l }
before_came (array_element n s l) = record { parts = _; raws = _; holds = before_array_element n s l }
before_came (next_key n s l) = record { parts = _; raws = _; holds = before_key n s l }
before_came (next_value n s l v) = record { parts = _; raws = _; holds = before_value n s l v }
before_came (expects.next_field q l g n) =
    let w = run_fields q in record { parts = _; raws = _; holds = before_field w.1 l g n }

-- a nil is the first number of its part
at_nil : {T : Table} {k : Kind} {p : List ℕ} {a : Expected} → ExpectsAt T k p a → a ≡ a_number nil → p ≡ []
at_nil first e = refl
at_nil (second n) e = cc
at_nil (byte_content l n) e = cc
at_nil (text_content l n) e = cc
at_nil (opaque_content l n) e = cc
at_nil (next_delta l q) e = cc

nil_begins : {T : Table} {t : TypeId} {p : List ℕ} {a : Expected} {d : ℕ} → Expects T t p a d → a ≡ a_number nil
    → Came (Begins T t p)
nil_begins {T = T} {t = t} (expects.in_itself e a) h = record {
  parts = 0;
  raws = 0;
  holds = subst (λ p. Begins T t p 0 0) (sym (at_nil a h)) (itself e);
}
nil_begins (expects.in_part e n a) h =
    let b = before_came n in
    let c = nil_begins a h in
    record { parts = b.parts + c.parts; raws = b.raws + c.raws; holds = inside e n b.holds c.holds }

pub nil_begins_top : {T : Table} {t : TypeId} {p : List ℕ} {a : Expected} {d : ℕ} → ExpectsTop T t p a d
    → a ≡ a_number nil → Came (BeginsTop T t p)
nil_begins_top (expects.in_struct e i a) h =
    let c = nil_begins a h in record { parts = c.parts; raws = c.raws; holds = in_a_struct e i c.holds }
nil_begins_top (expects.at_tag e n) h = cc
nil_begins_top (expects.behind_tag e n a) h =
    let c = nil_begins a h in record { parts = c.parts; raws = c.raws; holds = behind_the_tag e n c.holds }

first_expected : {T : Table} {t : TypeId} {z : List ℕ} {m w : ℕ} → Begins T t z m w
    → (k : Kind) × (d : ℕ) × Expects T t z (a_number (first_allowed k)) d
first_expected (itself {s = s} e) = (s.kind, 1, expects.in_itself e first)
first_expected (inside e n b p) = let x = first_expected p in (x.0, suc x.1, expects.in_part e n x.2)

-- so no whole value stands first in the bytes before it
not_whole : {T : Table} {t : TypeId} {z : List ℕ} {m w : ℕ} → Begins T t z m w → StandsFirst T t z → ⊥
not_whole {z = z} p s =
    let x = first_expected p in
    ends_not_met (within_number nothing_yet) (whole_meets [] s.rest s.spelled x.2 (append-nil z ∙ s.whole))

-- ---- of two lists the longer goes on
record EachLonger (T : Table) (e : TypeId) (vs ws : Trees) (x : List ℕ) : Type 0 where
  pub goes_on : StandsFirst T e x
  pub more : tree_count vs < tree_count ws
  pub within : parts_of_all vs + part_count goes_on.value ≤ parts_of_all ws

each_order : {T : Table} {e : TypeId} {vs ws : Trees} {b c : List ℕ} (x y : List ℕ) → SpellsEach T e vs b
    → SpellsEach T e ws c → b ++ x ≡ c ++ y → Same vs ws b c x y ⊎ (EachLonger T e vs ws x ⊎ EachLonger T e ws vs y)
each_order x y no_element no_element h = inl (record { value = refl; bytes = refl; rest = h })
each_order x y no_element (element {v = w} {b = c} {c = q'} q qs) h = inr (inl (record {
  goes_on = record { value = w; bytes = c; rest = q' ++ y; spelled = q; whole = h ∙ append_assoc c q' y };
  more = omega arith;
  within = omega arith;
}))
each_order x y (element {v = v} {b = b} {c = p'} p ps) no_element h = inr (inr (record {
  goes_on = record { value = v; bytes = b; rest = p' ++ x; spelled = p; whole = sym h ∙ append_assoc b p' x };
  more = omega arith;
  within = omega arith;
}))
each_order x y (element {v = v} {vs = vs} {b = b} {c = p'} p ps) (element {v = w} {vs = ws} {b = c} {c = q'} q qs) h =
    let r = same_spelling (p' ++ x) (q' ++ y) p q (regroup b p' x c q' y h) in
    let one : v ≡ w = r.value in
    let bs : b ≡ c = r.bytes in
    let parts : part_count v ≡ part_count w = ap part_count one in
    elim (each_order x y ps qs r.rest) [
      | inl s ↦ inl (let vv : vs ≡ ws = s.value in let cs : p' ≡ q' = s.bytes in
          record { value = cc; bytes = cc; rest = s.rest })
      | inr s ↦ inr (elim s [
        | inl a ↦ inl (record {
          goes_on = a.goes_on;
          more = omega (arith, a.more);
          within = omega (arith, a.within, parts);
        })
        | inr a ↦ inr (record {
          goes_on = a.goes_on;
          more = omega (arith, a.more);
          within = omega (arith, a.within, parts);
        })
      ])
    ]

record PairsLonger (T : Table) (k e : TypeId) (ps qs : Pairs) (x : List ℕ) : Type 0 where
  pub goes_on : PairStandsFirst T k e x
  pub more : pair_count ps < pair_count qs
  pub within : parts_of_pairs ps + (part_count goes_on.key.value + part_count goes_on.value.value) ≤ parts_of_pairs qs

pairs_order : {T : Table} {k e : TypeId} {ps qs : Pairs} {b c : List ℕ} (x y : List ℕ) → SpellsPairs T k e ps b
    → SpellsPairs T k e qs c → b ++ x ≡ c ++ y
    → Same ps qs b c x y ⊎ (PairsLonger T k e ps qs x ⊎ PairsLonger T k e qs ps y)
pairs_order x y no_entry no_entry h = inl (record { value = refl; bytes = refl; rest = h })
pairs_order x y no_entry (entry {x = v} {v = w} {a = f} {b = g} {c = q'} q s qs) h = inr (inl (record {
  goes_on = record {
    key = record { value = v; bytes = f; rest = (g ++ q') ++ y; spelled = q; whole = h ∙ append_assoc f (g ++ q') y };
    value = record { value = w; bytes = g; rest = q' ++ y; spelled = s; whole = append_assoc g q' y };
  };
  more = omega arith;
  within = omega arith;
}))
pairs_order x y (entry {x = v} {v = w} {a = f} {b = g} {c = q'} q s qs) no_entry h = inr (inr (record {
  goes_on = record {
    key = record
        { value = v; bytes = f; rest = (g ++ q') ++ x; spelled = q; whole = sym h ∙ append_assoc f (g ++ q') x };
    value = record { value = w; bytes = g; rest = q' ++ x; spelled = s; whole = append_assoc g q' x };
  };
  more = omega arith;
  within = omega arith;
}))
pairs_order x y (entry {x = v} {v = v'} {ps = vs} {a = a} {b = b} {c = p'} p r ps)
    (entry {x = w} {v = w'} {ps = ws} {a = c} {b = d} {c = q'} q s qs) h =
    let one = same_spelling ((b ++ p') ++ x) ((d ++ q') ++ y) p q (regroup a (b ++ p') x c (d ++ q') y h) in
    let two = same_spelling (p' ++ x) (q' ++ y) r s (regroup b p' x d q' y one.rest) in
    let e1 : v ≡ w = one.value in
    let e2 : v' ≡ w' = two.value in
    let b1 : a ≡ c = one.bytes in
    let b2 : b ≡ d = two.bytes in
    let keys : part_count v ≡ part_count w = ap part_count e1 in
    let values : part_count v' ≡ part_count w' = ap part_count e2 in
    elim (pairs_order x y ps qs two.rest) [
      | inl z ↦ inl (let e3 : vs ≡ ws = z.value in let b3 : p' ≡ q' = z.bytes in
          record { value = cc; bytes = cc; rest = z.rest })
      | inr z ↦ inr (elim z [
        | inl a ↦ inl (record {
          goes_on = a.goes_on;
          more = omega (arith, a.more);
          within = omega (arith, a.within, keys, values);
        })
        | inr a ↦ inr (record {
          goes_on = a.goes_on;
          more = omega (arith, a.more);
          within = omega (arith, a.within, keys, values);
        })
      ])
    ]

record FieldsLonger (T : Table) (types : List Field) (next : ℕ) (fs gs : Fields) (x : List ℕ) : Type 0 where
  pub goes_on : NextField T types next x
  pub within : parts_of_fields fs + part_count goes_on.value.value ≤ parts_of_fields gs

record SameFields (n m : ℕ) (fs gs : Fields) (x y : List ℕ) : Type 0 where
  pub next : n ≡ m
  pub parts : parts_of_fields fs ≡ parts_of_fields gs
  pub rest : x ≡ y

fields_order : {T : Table} {types : List Field} {s n m : ℕ} {fs gs : Fields} {a b : List ℕ} (x y : List ℕ)
    → WholeFields T types s n fs a → WholeFields T types s m gs b → a ++ x ≡ b ++ y
    → SameFields n m fs gs x y ⊎ (FieldsLonger T types n fs gs x ⊎ FieldsLonger T types m gs fs y)
fields_order x y no_whole_field no_whole_field h = inl (record { next = refl; parts = refl; rest = h })
fields_order x y no_whole_field (whole_field {f = f} {e = e} {v = v} {a = a} {b = b} {c = c} l g n s q) h =
    inr (inl (record {
      goes_on = record {
        f = f;
        type = e;
        number = a;
        rest = (b ++ c) ++ y;
        above = l;
        is = g;
        spelled = n;
        whole = h ∙ append_assoc a (b ++ c) y;
        value = record { value = v; bytes = b; rest = c ++ y; spelled = s; whole = append_assoc b c y };
      };
      within = omega arith;
    }))
fields_order x y (whole_field {f = f} {e = e} {v = v} {a = a} {b = b} {c = c} l g n s q) no_whole_field h =
    inr (inr (record {
      goes_on = record {
        f = f;
        type = e;
        number = a;
        rest = (b ++ c) ++ x;
        above = l;
        is = g;
        spelled = n;
        whole = sym h ∙ append_assoc a (b ++ c) x;
        value = record { value = v; bytes = b; rest = c ++ x; spelled = s; whole = append_assoc b c x };
      };
      within = omega arith;
    }))
fields_order {T = T} {types = types} {m = m} x y
    (whole_field {f = f} {e = e} {v = v} {a = a} {b = b} {c = c} l g n s q)
    (whole_field {f = f'} {e = e'} {v = w} {fs = gs} {a = a'} {b = b'} {c = c'} l' g' n' s' q') h =
    let r = unsigned_prefix ((b ++ c) ++ x) ((b' ++ c') ++ y) n n' (regroup a (b ++ c) x a' (b' ++ c') y h) in
    let one : f' ≡ f = let v = r.value in omega arith in
    let type : e' ≡ e = some_injective (sym g' ∙ ap (λ n. slice_get types n) one ∙ g) in
    let u = same_spelling (c ++ x) (c' ++ y) s (subst (λ (e : Field). Spells T e.id w b') type s')
    (regroup b c x b' c' y r.rest) in
    let parts : part_count v ≡ part_count w = ap part_count u.value in
    elim (fields_order x y q (subst (λ n. WholeFields T types (n + 1) m gs c') one q') u.rest) [
      | inl z ↦ inl (record { next = z.next; parts = omega (arith, z.parts, parts); rest = z.rest })
      | inr z ↦ inr (elim z [
        | inl a ↦ inl (record { goes_on = a.goes_on; within = omega (arith, a.within, parts) })
        | inr a ↦ inr (record { goes_on = a.goes_on; within = omega (arith, a.within, parts) })
      ])
    ]

-- ---- a part that stands whole, and those before it
-- a whole value stands first, and with it no more parts came than this
record StandsWithin (T : Table) (t : TypeId) (x : List ℕ) (before most : ℕ) : Type 0 where
  pub stands : StandsFirst T t x
  pub within : before + part_count stands.value ≤ most

-- behind a key its element
element_then : {T : Table} {k e : TypeId} {v : Tree} {a : List ℕ} {most : ℕ} (before : ℕ) (y : List ℕ)
    → (p : PairStandsFirst T k e (a ++ y)) → Spells T k v a
    → before + (part_count p.key.value + part_count p.value.value) ≤ most
    → StandsWithin T e y (before + part_count v) most
element_then {v = v} before y p s l =
    let u = same_spelling y p.key.rest s p.key.spelled p.key.whole in
    let key : part_count v ≡ part_count p.key.value = ap part_count u.value in
    record {
      stands = record {
        value = p.value.value;
        bytes = p.value.bytes;
        rest = p.value.rest;
        spelled = p.value.spelled;
        whole = u.rest ∙ p.value.whole;
      };
      within = omega (arith, key, l);
    }

-- behind a delta the value of its field
field_value : {T : Table} {types : List Field} {m most : ℕ} {e : Field} {b : List ℕ} (before : ℕ) (y : List ℕ) (f : ℕ)
    → (c : NextField T types m (b ++ y)) → m ≤ f → slice_get types f ≡ Some e → IsUnsigned (f + 1 - m) b
    → before + part_count c.value.value ≤ most → StandsWithin T e.id y before most
field_value {T = T} {types = types} {e = e} before y f c l g n within =
    let u = unsigned_prefix y c.rest n c.spelled c.whole in
    let one : f ≡ c.f = let v = u.value in let k = c.above in omega arith in
    let type : c.type ≡ e = some_injective (sym c.is ∙ ap (λ n. slice_get types n) (sym one) ∙ g) in
    record {
      stands = record {
        value = c.value.value;
        bytes = c.value.bytes;
        rest = c.value.rest;
        spelled = subst (λ (e : Field). Spells T e.id c.value.value c.value.bytes) type c.value.spelled;
        whole = u.rest ∙ c.value.whole;
      };
      within = within;
    }

part_some : (v : Tree) → 0 < part_count v
part_some (Value.bool x) = omega arith
part_some (Value.int i) = omega arith
part_some (Value.uint n) = omega arith
part_some (Value.float p) = omega arith
part_some (Value.complex p q) = omega arith
part_some (Value.bytes b) = omega arith
part_some (Value.text b) = omega arith
part_some Value.nil = omega arith
part_some (Value.many vs) = omega arith
part_some (Value.pairs ps) = omega arith
part_some (Value.fields fs) = omega arith
part_some (Value.opaque b) = omega arith

-- the fields of a struct behind whole ones
record FieldsBehind (T : Table) (types : List Field) (next most before : ℕ) (x y : List ℕ) : Type 0 where
  pub fields : Fields
  pub bytes : List ℕ
  pub spelled : SpellsFields T types next fields bytes
  pub whole : x ≡ bytes ++ y
  pub within : before + parts_of_fields fields ≤ most

fields_behind : {T : Table} {types : List Field} {start next : ℕ} {fs gs : Fields} {a b : List ℕ} (x y : List ℕ)
    → WholeFields T types start next fs a → SpellsFields T types start gs b → a ++ x ≡ b ++ y
    → FieldsBehind T types next (parts_of_fields gs) (parts_of_fields fs) x y
fields_behind {gs = gs} {b = b} x y no_whole_field p h =
    record { fields = gs; bytes = b; spelled = p; whole = h; within = omega arith }
fields_behind x y (whole_field {a = a} {b = b} {c = c} l g n s q) (end_of_fields k) h =
    absurd (let r = (unsigned_prefix ((b ++ c) ++ x) y n k (sym (append_assoc a (b ++ c) x) ∙ h)).value in omega arith)
fields_behind {T = T} {types = types} x y (whole_field {f = f} {e = e} {v = v} {a = a} {b = b} {c = c} l g n s q)
    (next_field {f = f'} {e = e'} {v = w} {fs = ws} {a = a'} {b = b'} {c = c'} l' g' n' s' ps) h =
    let r = unsigned_prefix ((b ++ c) ++ x) ((b' ++ c') ++ y) n n' (regroup a (b ++ c) x a' (b' ++ c') y h) in
    let one : f' ≡ f = let v = r.value in omega arith in
    let type : e' ≡ e = some_injective (sym g' ∙ ap (λ n. slice_get types n) one ∙ g) in
    let u = same_spelling (c ++ x) (c' ++ y) s (subst (λ (e : Field). Spells T e.id w b') type s')
    (regroup b c x b' c' y r.rest) in
    let parts : part_count v ≡ part_count w = ap part_count u.value in
    let rest = fields_behind x y q (subst (λ n. SpellsFields T types (n + 1) ws c') one ps) u.rest in
    record {
      fields = rest.fields;
      bytes = rest.bytes;
      spelled = rest.spelled;
      whole = rest.whole;
      within = omega (arith, rest.within, parts);
    }

field_stands : {T : Table} {types : List Field} {m most before f : ℕ} {e : Field} {b : List ℕ} (y r : List ℕ)
    → FieldsBehind T types m most before (b ++ r) y → m ≤ f → slice_get types f ≡ Some e → IsUnsigned (f + 1 - m) b
    → StandsWithin T e.id r before most
field_stands {T = T} {types = types} {m = m} {most = most} {before = before} {f = f} {e = e} {b = b} y r left l g n =
    by left.spelled left.whole left.within
  where
    by : {fs : Fields} {d : List ℕ} → SpellsFields T types m fs d → b ++ r ≡ d ++ y
        → before + parts_of_fields fs ≤ most → StandsWithin T e.id r before most
    by (end_of_fields k) j w = absurd (let u = (unsigned_prefix r y n k j).value in omega arith)
    by (next_field {f = f'} {e = e'} {v = v} {a = a'} {b = b'} {c = c'} l' g' n' s' ps) j w =
        let u = unsigned_prefix r ((b' ++ c') ++ y) n n' (j ∙ append_assoc a' (b' ++ c') y) in
        let one : f' ≡ f = let v = u.value in omega arith in
        let type : e' ≡ e = some_injective (sym g' ∙ ap (λ n. slice_get types n) one ∙ g) in
        record {
          stands = record {
            value = v;
            bytes = b';
            rest = c' ++ y;
            spelled = subst (λ (e : Field). Spells T e.id v b') type s';
            whole = u.rest ∙ append_assoc b' c' y;
          };
          within = omega arith;
        }

-- where a part stands whole, each part in it does, and no more parts came with it than there are
each_stands : {T : Table} {e : TypeId} {vs ws : Trees} {b c : List ℕ} (x y : List ℕ) → SpellsEach T e vs b
    → SpellsEach T e ws c → tree_count vs < tree_count ws → b ++ x ≡ c ++ y
    → StandsWithin T e x (parts_of_all vs + 1) (parts_of_all ws + 1)
each_stands x y p q l h = elim (each_order x y p q h) [
  | inl s ↦ absurd (omega (arith, l, ap tree_count s.value))
  | inr s ↦ elim s [
    | inl a ↦ record { stands = a.goes_on; within = omega (arith, a.within) }
    | inr a ↦ absurd (omega (arith, l, a.more))
  ]
]

pairs_stand : {T : Table} {k e : TypeId} {ps qs : Pairs} {b c : List ℕ} (x y : List ℕ) → SpellsPairs T k e ps b
    → SpellsPairs T k e qs c → pair_count ps < pair_count qs → b ++ x ≡ c ++ y → PairsLonger T k e ps qs x
pairs_stand x y p q l h = elim (pairs_order x y p q h) [
  | inl s ↦ absurd (omega (arith, l, ap pair_count s.value))
  | inr s ↦ elim s [ inl a ↦ a | inr a ↦ absurd (omega (arith, l, a.more)) ]
]

part_stands : {T : Table} {k : Kind} {s : TypeId} {v : Tree} {b q : List ℕ} {m w : ℕ} (y r : List ℕ)
    → PartsBefore T k q s m w → SpellsAs T k v b → q ++ r ≡ b ++ y → StandsWithin T s r m (part_count v)
part_stands y r (before_element {c = f} {b = g} n qs l) (of_slice {c = c} {b = d} p ps) h =
    let u = unsigned_prefix (g ++ r) (d ++ y) n p (regroup f g r c d y h) in
    each_stands r y qs ps (let total = u.value in omega arith) u.rest
part_stands y r (before_array_element {c = f} {b = g} n qs l) (of_array {c = c} {b = d} m p ps) h =
    let u = unsigned_prefix (g ++ r) (d ++ y) n p (regroup f g r c d y h) in
    each_stands r y qs ps (let total = u.value in omega arith) u.rest
part_stands y r (before_key {c = f} {b = g} n qs l) (of_map {c = c} {b = d} p ps) h =
    let u = unsigned_prefix (g ++ r) (d ++ y) n p (regroup f g r c d y h) in
    let a = pairs_stand r y qs ps (let m = u.value in omega arith) u.rest in
    record { stands = a.goes_on.key; within = omega (arith, a.within) }
part_stands y r (before_value {ps = is} {c = f} {b = g} {a = a} n qs l s) (of_map {ps = js} {c = c} {b = d} p ps) h =
    let u = unsigned_prefix ((g ++ a) ++ r) (d ++ y) n p (regroup f (g ++ a) r c d y h) in
    let o = pairs_stand (a ++ r) y qs ps (let m = u.value in omega arith) (sym (append_assoc g a r) ∙ u.rest) in
    let e = element_then (parts_of_pairs is) r o.goes_on s o.within in
    record { stands = e.stands; within = omega (arith, e.within) }
part_stands y r (before_field {fs = fs} {a = a} {b = b} q l g n) (of_struct ps) h =
    let left = fields_behind (b ++ r) y q ps (sym (append_assoc a b r) ∙ h) in
    let e = field_stands y r left l g n in
    record { stands = e.stands; within = omega (arith, e.within) }

-- so a part of a whole one has a number within its parts
begins_within : {T : Table} {t : TypeId} {p b : List ℕ} {m w : ℕ} {v : Tree} (x y : List ℕ) → Begins T t p m w
    → Spells T t v b → p ++ x ≡ b ++ y → m < part_count v
begins_within {v = v} x y (itself e) s h = part_some v
begins_within {T = T} {b = b} {v = v} x y (inside {s = k} {q = q} {z = z} e n before p) (of_type {s = l} f s) h =
    let one : l ≡ k = some_injective (sym f ∙ e) in
    let a = part_stands y (z ++ x) before (subst (λ (k : Shape). SpellsAs T k.kind v b) one s)
    (sym (append_assoc q z x) ∙ h) in
    let inner = begins_within x a.stands.rest p a.stands.spelled a.stands.whole in
    omega (arith, a.within, inner)

-- ---- two parts
record SamePart (u s : TypeId) (x y : List ℕ) (m n : ℕ) : Type 0 where
  pub type : u ≡ s
  pub rest : x ≡ y
  pub parts : m ≡ n

before_order : {T : Table} {k : Kind} {p q : List ℕ} {u s : TypeId} {m n w v : ℕ} (x y : List ℕ)
    → PartsBefore T k p u m w → PartsBefore T k q s n v → p ++ x ≡ q ++ y → (StandsFirst T s y → ⊥)
    → SamePart u s x y m n ⊎ StandsWithin T u x m n
before_order x y (before_element {c = c} {b = b} n ps l) (before_element {c = c'} {b = b'} m qs k) h none =
    let r = unsigned_prefix (b ++ x) (b' ++ y) n m (regroup c b x c' b' y h) in
    elim (each_order x y ps qs r.rest) [
      | inl z ↦ inl (record { type = refl; rest = z.rest; parts = ap (λ vs. parts_of_all vs + 1) z.value })
      | inr z ↦ elim z [
        | inl a ↦ inr (record { stands = a.goes_on; within = omega (arith, a.within) })
        | inr a ↦ absurd (none a.goes_on)
      ]
    ]
before_order x y (before_array_element {c = c} {b = b} n ps l) (before_array_element {c = c'} {b = b'} m qs k) h none =
    let r = unsigned_prefix (b ++ x) (b' ++ y) n m (regroup c b x c' b' y h) in
    elim (each_order x y ps qs r.rest) [
      | inl z ↦ inl (record { type = refl; rest = z.rest; parts = ap (λ vs. parts_of_all vs + 1) z.value })
      | inr z ↦ elim z [
        | inl a ↦ inr (record { stands = a.goes_on; within = omega (arith, a.within) })
        | inr a ↦ absurd (none a.goes_on)
      ]
    ]
before_order x y (before_key {c = c} {b = b} n ps l) (before_key {c = c'} {b = b'} m qs k) h none =
    let r = unsigned_prefix (b ++ x) (b' ++ y) n m (regroup c b x c' b' y h) in
    elim (pairs_order x y ps qs r.rest) [
      | inl z ↦ inl (record { type = refl; rest = z.rest; parts = ap (λ ps. parts_of_pairs ps + 1) z.value })
      | inr z ↦ elim z [
        | inl a ↦ inr (record { stands = a.goes_on.key; within = omega (arith, a.within) })
        | inr a ↦ absurd (none a.goes_on.key)
      ]
    ]
before_order x y (before_key {c = c} {b = b} n ps l) (before_value {x = v} {c = c'} {b = b'} {a = a} m qs k s) h none =
    let r = unsigned_prefix (b ++ x) ((b' ++ a) ++ y) n m (regroup c b x c' (b' ++ a) y h) in
    elim (pairs_order x (a ++ y) ps qs (r.rest ∙ append_assoc b' a y)) [
      | inl z ↦ inr (record {
        stands = record { value = v; bytes = a; rest = y; spelled = s; whole = z.rest };
        within = omega (arith, ap parts_of_pairs z.value);
      })
      | inr z ↦ elim z [
        | inl o ↦ inr (record { stands = o.goes_on.key; within = omega (arith, o.within) })
        | inr o ↦ absurd (none (key_then y o.goes_on s))
      ]
    ]
before_order x y (before_value {x = v} {ps = is} {c = c} {b = b} {a = a} n ps l s) (before_key {c = c'} {b = b'} m qs k)
    h none =
    let r = unsigned_prefix ((b ++ a) ++ x) (b' ++ y) n m (regroup c (b ++ a) x c' b' y h) in
    elim (pairs_order (a ++ x) y ps qs (sym (append_assoc b a x) ∙ r.rest)) [
      | inl z ↦ absurd (none (record { value = v; bytes = a; rest = x; spelled = s; whole = sym z.rest }))
      | inr z ↦ elim z [
        | inl o ↦ (let e = element_then (parts_of_pairs is) x o.goes_on s o.within in
            inr (record { stands = e.stands; within = omega (arith, e.within) }))
        | inr o ↦ absurd (none o.goes_on.key)
      ]
    ]
before_order x y (before_value {x = g} {ps = is} {c = c} {b = b} {a = a} n ps l s)
    (before_value {x = j} {ps = js} {c = c'} {b = b'} {a = a'} m qs k u) h none =
    let r = unsigned_prefix ((b ++ a) ++ x) ((b' ++ a') ++ y) n m (regroup c (b ++ a) x c' (b' ++ a') y h) in
    elim (pairs_order (a ++ x) (a' ++ y) ps qs (regroup b a x b' a' y r.rest)) [
      | inl z ↦
          let v = same_spelling x y s u z.rest in
          let keys : part_count g ≡ part_count j = ap part_count v.value in
          let pairs : parts_of_pairs is ≡ parts_of_pairs js = ap parts_of_pairs z.value in
          inl (record { type = refl; rest = v.rest; parts = omega (arith, keys, pairs) })
      | inr z ↦ elim z [
        | inl o ↦ (let e = element_then (parts_of_pairs is) x o.goes_on s o.within in
            inr (record { stands = e.stands; within = omega (arith, e.within) }))
        | inr o ↦ absurd (none (key_then y o.goes_on u))
      ]
    ]
before_order x y (before_field {types = types} {next = n1} {f = f} {e = e} {fs = fs} {a = a} {b = b} q l g n)
    (before_field {next = n2} {f = f'} {e = e'} {a = a'} {b = b'} r k i m) h none =
    elim (fields_order (b ++ x) (b' ++ y) q r (regroup a b x a' b' y h)) [
      | inl z ↦
          let v = unsigned_prefix x y n m z.rest in
          let one : f ≡ f' = let t = v.value in let w = z.next in omega arith in
          let type : e ≡ e' = some_injective (sym g ∙ ap (λ n. slice_get types n) one ∙ i) in
          inl (record { type = ap (λ (e : Field). e.id) type; rest = v.rest; parts = omega (arith, z.parts) })
      | inr z ↦ elim z [
        | inl o ↦ (let e = field_value (parts_of_fields fs) x f o.goes_on l g n o.within in
            inr (record { stands = e.stands; within = omega (arith, e.within) }))
        | inr o ↦ absurd (none (number_then y f' o.goes_on k i m))
      ]
    ]

before_some : {T : Table} {k : Kind} {q : List ℕ} {u : TypeId} {m w : ℕ} → PartsBefore T k q u m w → 0 < m
before_some (before_element n s l) = omega arith
before_some (before_array_element n s l) = omega arith
before_some (before_key n s l) = omega arith
before_some (before_value n s l v) = omega arith
before_some (before_field q l g n) = omega arith

begins_order : {T : Table} {t : TypeId} {p q : List ℕ} {m n w v : ℕ} (x : List ℕ) → Begins T t p m w
    → Begins T t q n v → p ++ x ≡ q → 0 < length x → m < n
begins_order x (itself e) (itself f) h some = absurd (omega (arith, some, ap length h))
begins_order x (itself e) (inside f c before b) h some = omega (arith, before_some before)
begins_order x (inside {q = q} {z = z} e c before a) (itself f) h some =
    absurd (omega (arith, some, ap length h, length-append (q ++ z) x))
begins_order {T = T} x (inside {s = k} {q = q} {z = z} {m = m} {n = n} e c before a)
    (inside {u = u} {s = l} {q = q'} {z = y} {m = m'} {n = n'} {w = w'} {v = v'} f d behind b) h some =
    let one : l ≡ k = some_injective (sym f ∙ e) in
    elim (before_order (z ++ x) y before (subst (λ (k : Shape). PartsBefore T k.kind q' u m' w') one behind)
    (sym (append_assoc q z x) ∙ h) (not_whole b)) [
      | inl same ↦ omega (
        arith,
        same.parts,
        begins_order x a (subst (λ t. Begins T t y n' v') (sym same.type) b) same.rest some,
      )
      | inr s ↦ omega (arith, s.within, begins_within x s.stands.rest a s.stands.spelled s.stands.whole)
    ]

pub top_order : {T : Table} {t : TypeId} {p q : List ℕ} {m n w v : ℕ} (x : List ℕ) → BeginsTop T t p m w
    → BeginsTop T t q n v → p ++ x ≡ q → 0 < length x → m < n
top_order x (in_a_struct e i a) (in_a_struct f j b) h some = begins_order x a b h some
top_order x (in_a_struct e i a) (behind_the_tag f j b) h some = one_way e i f j
top_order x (behind_the_tag e i a) (in_a_struct f j b) h some = one_way f j e i
top_order x (behind_the_tag e i a) (behind_the_tag f j b) h some = begins_order x a b (tail_same h) some
