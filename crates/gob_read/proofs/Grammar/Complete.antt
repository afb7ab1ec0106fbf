-- What bytes of a ready type expect can be filled in, up to a whole value.
use Rattle.std.proofs.Common.{◌≡◌, ℕ, zero, suc, ◌+◌, ◌-◌, inl, inr, false, List, [], ◌∷◌, ◌++◌, length, Some, arith}
use Rattle.std.proofs.Common.{refl, sym, ◌∙◌, subst, append_assoc}
use Rattle.std.specs.Prelude.{pos}
use Rattle.gob_num.specs.Unsigned.{IsUnsigned, short}
use Rattle.gob_num.specs.Signed.{not_negative}
use Rattle.gob_num.proofs.PublicLaws.{unsigned_spelled, pattern_spelled}
use Rattle.gob_types.specs.declared.id.TypeId.{TypeId}
use Rattle.gob_types.specs.declared.basic.Basic.TheVariants as basic
use Rattle.gob_types.specs.declared.kind.Field.{Field}
use Rattle.gob_types.specs.declared.kind.Kind.{Kind}
use Rattle.gob_types.specs.declared.kind.Kind.TheVariants as kind
use Rattle.gob_types.specs.declared.kind.Shape.{Shape}
use Rattle.gob_types.specs.Table.{Table, shape_of}
use Rattle.gob_types.specs.Ready.{IsFilledArray, HasRank, plain, filled, IsReady}
use Rattle.gob_types.proofs.PublicLaws.{some_injective, names_ready, ready_grounded}
use Rattle.gob_value.specs.Tree.{Tree, Trees, no_tree, tree, tree_count, Pairs, no_pair, pair, pair_count, Fields}
use Rattle.gob_value.specs.Tree.{no_field, field}
use Rattle.gob_value.specs.Tree as Value
use Rattle.gob_value.specs.Spelling.{Spells, of_type, SpellsAs, of_bool, of_int, of_uint, of_float, of_complex, of_nil}
use Rattle.gob_value.specs.Spelling.{of_bytes, of_text, of_opaque, of_slice, of_array, of_map, of_struct, SpellsEach}
use Rattle.gob_value.specs.Spelling.{no_element, element, SpellsPairs, no_entry, entry, SpellsFields, end_of_fields}
use Rattle.gob_value.specs.Spelling.{next_field}
use Rattle.gob_value.specs.Top.{SpellsTop, at_once, tagged}
use Rattle.gob_value.proofs.PublicLaws.{AllReady}
use Rattle.gob_read.specs.Expected.{Expected}
use Rattle.gob_read.specs.Expects.{FieldsRun, no_fields, field_then, Enters, slice_element, array_element, next_key}
use Rattle.gob_read.specs.Expects.{next_value, next_field as enters_field, ExpectsAt, first, second, byte_content}
use Rattle.gob_read.specs.Expects.{text_content, opaque_content, next_delta, Expects, in_itself, in_part, ExpectsTop}
use Rattle.gob_read.specs.Expects.{in_struct, at_tag, behind_tag}
use Rattle.gob_read.specs.Begins.{BeginsValue, IsProperPrefix}
use Rattle.gob_read.specs.Laws.{HasCountedArrays}
use Rattle.gob_read.proofs.Grammar.Prefixes.{append_nil, joined_three}
use Rattle.gob_read.proofs.Grammar.Compare.{whole_meets_top, met_some}
use Rattle.gob_read.proofs.Grammar.Stay.{enters_named}

pub record HasValue (T : Table) (t : TypeId) : Type 0 where
  pub value : Tree
  pub bytes : List ℕ
  pub spelled : Spells T t value bytes

pub zero_spelled : IsUnsigned 0 (0 ∷ [])
zero_spelled = short (omega arith)

-- so many elements
pub record Elements (T : Table) (e : TypeId) (n : ℕ) (b : List ℕ) : Type 0 where
  pub trees : Trees
  pub spelled : SpellsEach T e trees b
  pub count : tree_count trees ≡ n

pub record SomeElements (T : Table) (e : TypeId) (n : ℕ) : Type 0 where
  pub bytes : List ℕ
  pub elements : Elements T e n bytes

one_more : {T : Table} {e : TypeId} {v : Tree} {n : ℕ} {b c : List ℕ} → Spells T e v b → Elements T e n c
    → Elements T e (n + 1) (b ++ c)
one_more {v = v} p h = record {
  trees = tree v h.trees;
  spelled = element p h.spelled;
  count = let n = h.count in
      omega arith;
}

behind : {T : Table} {e : TypeId} {vs : Trees} {n : ℕ} {b c : List ℕ} → SpellsEach T e vs b → Elements T e n c
    → Elements T e (tree_count vs + n) (b ++ c)
behind {T = T} {e = e} {n = n} {c = c} no_element h = subst (λ m. Elements T e m c) (omega arith) h
behind {T = T} {e = e} {n = n} {c = d} (element {v = v} {vs = vs} {b = b} {c = c} p ps) h =
    subst (λ l. Elements T e (tree_count vs + 1 + n) l) (sym (append_assoc b c d))
    (subst (λ m. Elements T e m (b ++ (c ++ d))) (omega arith) (one_more p (behind ps h)))

pub copies : {T : Table} {e : TypeId} → HasValue T e → (n : ℕ) → SomeElements T e n
copies h zero = record { bytes = []; elements = record { trees = no_tree; spelled = no_element; count = refl } }
copies {T = T} {e = e} h (suc n) =
    let r = copies h n in
    record {
      bytes = h.bytes ++ r.bytes;
      elements = subst (λ m. Elements T e m (h.bytes ++ r.bytes)) (omega arith)
          (one_more h.spelled r.elements);
    }

-- so many pairs
pub record Entries (T : Table) (k e : TypeId) (n : ℕ) (b : List ℕ) : Type 0 where
  pub pairs : Pairs
  pub spelled : SpellsPairs T k e pairs b
  pub count : pair_count pairs ≡ n

pub record SomeEntries (T : Table) (k e : TypeId) (n : ℕ) : Type 0 where
  pub bytes : List ℕ
  pub entries : Entries T k e n bytes

one_more_entry : {T : Table} {k e : TypeId} {x v : Tree} {n : ℕ} {a b c : List ℕ} → Spells T k x a → Spells T e v b
    → Entries T k e n c → Entries T k e (n + 1) (a ++ (b ++ c))
one_more_entry {x = x} {v = v} p q h = record {
  pairs = pair x v h.pairs;
  spelled = entry p q h.spelled;
  count = let n =
      h.count in omega arith;
}

entries_behind : {T : Table} {k e : TypeId} {ps : Pairs} {n : ℕ} {b c : List ℕ} → SpellsPairs T k e ps b
    → Entries T k e n c → Entries T k e (pair_count ps + n) (b ++ c)
entries_behind {T = T} {k = k} {e = e} {n = n} {c = c} no_entry h = subst (λ m. Entries T k e m c) (omega arith) h
entries_behind {T = T} {k = k} {e = e} {n = n} {c = d} (entry {ps = ps} {a = a} {b = b} {c = c} p q r) h =
    subst (λ l. Entries T k e (pair_count ps + 1 + n) l) (joined_three a b c d)
    (subst (λ m. Entries T k e m (a ++ (b ++ (c ++ d)))) (omega arith) (one_more_entry p q (entries_behind r h)))

pub entry_copies : {T : Table} {k e : TypeId} → HasValue T k → HasValue T e → (n : ℕ) → SomeEntries T k e n
entry_copies g h zero = record { bytes = []; entries = record { pairs = no_pair; spelled = no_entry; count = refl } }
entry_copies {T = T} {k = k} {e = e} g h (suc n) =
    let r = entry_copies g h n in
    record {
      bytes = g.bytes ++ (h.bytes ++ r.bytes);
      entries =
          subst (λ m. Entries T k e m (g.bytes ++ (h.bytes ++ r.bytes))) (omega arith)
          (one_more_entry g.spelled h.spelled r.entries);
    }

-- the bytes and then the rest spell a value of the kind
pub record Filled (T : Table) (k : Kind) (p : List ℕ) : Type 0 where
  pub value : Tree
  pub rest : List ℕ
  pub spelled : SpellsAs T k value (p ++ rest)

-- a kind that is no filled array has a value without parts
empty : (T : Table) (k : Kind) → ¬ IsFilledArray k → Filled T k []
empty T (kind.Basic basic.Bool) n = record { value = Value.bool false; rest = 0 ∷ []; spelled = of_bool zero_spelled }
empty T (kind.Basic basic.Int) n = record {
  value = Value.int (pos 0);
  rest = 0 ∷ [];
  spelled =
      of_int (not_negative zero_spelled);
}
empty T (kind.Basic basic.Uint) n = record { value = Value.uint 0; rest = 0 ∷ []; spelled = of_uint zero_spelled }
empty T (kind.Basic basic.Float) n = let s = pattern_spelled 0 (omega arith) in record {
  value = Value.float 0;
  rest =
      s.bytes;
  spelled = of_float s.spelled;
}
empty T (kind.Basic basic.Bytes) n = record {
  value = Value.bytes [];
  rest = 0 ∷ [];
  spelled =
      of_bytes {c = 0 ∷ []} zero_spelled;
}
empty T (kind.Basic basic.Str) n = record {
  value = Value.text [];
  rest = 0 ∷ [];
  spelled =
      of_text {c = 0 ∷ []} zero_spelled;
}
empty T (kind.Basic basic.Complex) n = let s = pattern_spelled 0 (omega arith) in
    record { value = Value.complex 0 0; rest = s.bytes ++ s.bytes; spelled = of_complex s.spelled s.spelled }
empty T (kind.Basic basic.Interface) n = record { value = Value.nil; rest = 0 ∷ []; spelled = of_nil zero_spelled }
empty T (kind.Array e zero) n = record {
  value = Value.many no_tree;
  rest = 0 ∷ [];
  spelled =
      of_array {c = 0 ∷ []} refl zero_spelled no_element;
}
empty T (kind.Array e (suc m)) n = absurd (n (omega arith))
empty T (kind.Slice e) n = record {
  value = Value.many no_tree;
  rest = 0 ∷ [];
  spelled =
      of_slice {c = 0 ∷ []} zero_spelled no_element;
}
empty T (kind.Struct types) n = record {
  value = Value.fields no_field;
  rest = 0 ∷ [];
  spelled =
      of_struct (end_of_fields zero_spelled);
}
empty T (kind.Map k e) n = record {
  value = Value.pairs no_pair;
  rest = 0 ∷ [];
  spelled =
      of_map {c = 0 ∷ []} zero_spelled no_entry;
}
empty T (kind.Opaque m) n = record {
  value = Value.opaque [];
  rest = 0 ∷ [];
  spelled =
      of_opaque {c = 0 ∷ []} zero_spelled;
}

-- a type with a rank has a value
pub rank_has_value : {T : Table} {r : ℕ} {t : TypeId} → HasCountedArrays T → HasRank T r t → HasValue T t
rank_has_value {T = T} l (plain {s = s} e n) = let v = empty T s.kind n in record {
  value = v.value;
  bytes = v.rest;
  spelled = of_type e v.spelled;
}
rank_has_value {T = T} {t = t} l (filled {n = n} {e = el} {s = s} e is p h) =
    let c = copies (rank_has_value l h) n in
    let u = unsigned_spelled n (l.counted t s el n e is) in
    record {
      value = Value.many c.elements.trees;
      bytes = u.bytes ++ c.bytes;
      spelled =
          of_type e (subst (λ k. SpellsAs T k (Value.many c.elements.trees) (u.bytes ++ c.bytes)) (sym is)
          (of_array c.elements.count u.spelled c.elements.spelled));
    }

-- a ready type has a value
pub ready_has_value : {T : Table} {t : TypeId} → HasCountedArrays T → IsReady T t → HasValue T t
ready_has_value l r = rank_has_value l (ready_grounded r).has

-- fields from one number on
pub record FieldsFrom (T : Table) (types : List Field) (next : ℕ) (b : List ℕ) : Type 0 where
  pub fields : Fields
  pub spelled : SpellsFields T types next fields b

pub run_then : {T : Table} {types : List Field} {start next : ℕ} {a c : List ℕ} → FieldsRun T types start next a
    → FieldsFrom T types next c → FieldsFrom T types start (a ++ c)
run_then no_fields h = h
run_then {T = T} {types = types} {c = d} (field_then {start = start} {f = f} {v = v} {a = a} {b = b} {c = c} l g n s q)
    h =
    let r = run_then q h in
    record {
      fields = field f v r.fields;
      spelled = subst (SpellsFields T types start (field f v r.fields))
          (joined_three a b c d) (next_field l g n s r.spelled);
    }

regrouped_part : (c b p r : List ℕ) → c ++ (b ++ (p ++ r)) ≡ ((c ++ b) ++ p) ++ r
regrouped_part c b p r = simp append_assoc

-- where a part in a part is whole, the rest can be filled in
pub enters_filled : {T : Table} {k : Kind} {q b : List ℕ} {u : TypeId} {v : Tree} → HasCountedArrays T → AllReady T k
    → Enters T k q u → Spells T u v b → Filled T k (q ++ b)
enters_filled {T = T} {b = p} {u = u} l r (slice_element {e = e} {n = n} {vs = vs} {c = c} {b = b} m ps i) s =
    let more = copies (ready_has_value l (r.each e refl)) (n - tree_count vs - 1) in
    let all = behind ps (one_more s more.elements) in
    let count : n ≡ tree_count all.trees = let k = all.count in omega arith in
    record {
      value = Value.many all.trees;
      rest = more.bytes;
      spelled =
          subst (SpellsAs T (kind.Slice e) (Value.many all.trees)) (regrouped_part c b p more.bytes)
          (of_slice (subst (λ n. IsUnsigned n c) count m) all.spelled);
    }
enters_filled {T = T} {b = p} {u = u} l r (array_element {e = e} {n = n} {vs = vs} {c = c} {b = b} m ps i) s =
    let more = copies (ready_has_value l (r.each e refl)) (n - tree_count vs - 1) in
    let all = behind ps (one_more s more.elements) in
    let count : tree_count all.trees ≡ n = let k = all.count in omega arith in
    record {
      value = Value.many all.trees;
      rest = more.bytes;
      spelled =
          subst (SpellsAs T (kind.Array e n) (Value.many all.trees)) (regrouped_part c b p more.bytes)
          (of_array count m all.spelled);
    }
enters_filled {T = T} {b = p} l r (next_key {k = k} {e = e} {n = n} {ps = es} {c = c} {b = b} m ps i) s =
    let h = ready_has_value l (r.each e (inr refl)) in
    let more = entry_copies (ready_has_value l (r.each k (inl refl))) h (n - pair_count es - 1) in
    let all = entries_behind ps (one_more_entry s h.spelled more.entries) in
    let count : n ≡ pair_count all.pairs = let k = all.count in omega arith in
    record {
      value = Value.pairs all.pairs;
      rest = h.bytes ++ more.bytes;
      spelled =
          subst (SpellsAs T (kind.Map k e) (Value.pairs all.pairs)) (regrouped_part c b p (h.bytes ++ more.bytes))
          (of_map (subst (λ n. IsUnsigned n c) count m) all.spelled);
    }
enters_filled {T = T} {b = p} l r (next_value {k = k} {e = e} {n = n} {ps = es} {c = c} {b = b} {a = a} m ps i s') s =
    let more = entry_copies (ready_has_value l (r.each k (inl refl))) (ready_has_value l (r.each e (inr refl)))
    (n - pair_count es - 1) in
    let all = entries_behind ps (one_more_entry s' s more.entries) in
    let count : n ≡ pair_count all.pairs = let k = all.count in omega arith in
    record {
      value = Value.pairs all.pairs;
      rest = more.bytes;
      spelled =
          subst (SpellsAs T (kind.Map k e) (Value.pairs all.pairs)) (regrouped_value c b a p more.bytes)
          (of_map (subst (λ n. IsUnsigned n c) count m) all.spelled);
    }
  where
    regrouped_value : (c b a p r : List ℕ) → c ++ (b ++ (a ++ (p ++ r))) ≡ ((c ++ (b ++ a)) ++ p) ++ r
    regrouped_value c b a p r = simp append_assoc
enters_filled {T = T} {b = p} {v = v} l r (enters_field {types = types} {next = next} {f = f} {a = a} {b = b} q i g n)
    s =
    let end : FieldsFrom T types next (b ++ (p ++ 0 ∷ [])) = record {
      fields = field f v no_field;
      spelled =
          next_field i g n s (end_of_fields zero_spelled);
    } in
    let all = run_then q end in
    record {
      value = Value.fields all.fields;
      rest = 0 ∷ [];
      spelled =
          subst (SpellsAs T (kind.Struct types) (Value.fields all.fields)) (regrouped_part a b p (0 ∷ []))
          (of_struct all.spelled);
    }

-- so many bytes
pub bytes_of : (n : ℕ) → (s : List ℕ) × (length s ≡ n)
bytes_of zero = ([], refl)
bytes_of (suc n) = let r = bytes_of n in (0 ∷ r.0, omega (arith, r.1))

at_filled : {T : Table} {k : Kind} {p : List ℕ} {w : Expected} → Filled T k [] → ExpectsAt T k p w → Filled T k p
at_filled h first = h
at_filled h (second {p = p} {b = b} u) = let s = pattern_spelled 0 (omega arith) in
    record { value = Value.complex p 0; rest = s.bytes; spelled = of_complex u s.spelled }
at_filled h (byte_content {n = n} {b = b} l u) = let s = bytes_of n in record {
  value = Value.bytes s.0;
  rest = s.0;
  spelled = of_bytes (subst (λ n. IsUnsigned n b) (sym s.1) u);
}
at_filled h (text_content {n = n} {b = b} l u) = let s = bytes_of n in record {
  value = Value.text s.0;
  rest = s.0;
  spelled = of_text (subst (λ n. IsUnsigned n b) (sym s.1) u);
}
at_filled h (opaque_content {n = n} {b = b} l u) = let s = bytes_of n in record {
  value = Value.opaque s.0;
  rest = s.0;
  spelled = of_opaque (subst (λ n. IsUnsigned n b) (sym s.1) u);
}
at_filled {T = T} h (next_delta {types = types} {next = next} l q) =
    let end : FieldsFrom T types next (0 ∷ []) = record { fields = no_field; spelled = end_of_fields zero_spelled } in
    let all = run_then q end in
    record { value = Value.fields all.fields; rest = 0 ∷ []; spelled = of_struct all.spelled }

-- a value of a type is one of its kind
of_kind : {T : Table} {t : TypeId} {s : Shape} → shape_of T t ≡ Some s → HasValue T t → Filled T s.kind []
of_kind {T = T} {t = t} {s = s} e h = from h.spelled
  where
    from : {v : Tree} {b : List ℕ} → Spells T t v b → Filled T s.kind []
    from {v = v} {b = b} (of_type f p) = record {
      value = v;
      rest = b;
      spelled =
          subst (λ (s : Shape). SpellsAs T s.kind v b) (some_injective (sym f ∙ e)) p;
    }

-- the bytes and then the rest spell a value of the type
pub record FilledType (T : Table) (t : TypeId) (p : List ℕ) : Type 0 where
  pub value : Tree
  pub rest : List ℕ
  pub spelled : Spells T t value (p ++ rest)

pub of_filled : {T : Table} {t : TypeId} {s : Shape} {p : List ℕ} → shape_of T t ≡ Some s → Filled T s.kind p
    → FilledType T t p
of_filled e h = record { value = h.value; rest = h.rest; spelled = of_type e h.spelled }

pub expects_filled : {T : Table} {t : TypeId} {p : List ℕ} {w : Expected} {d : ℕ} → HasCountedArrays T → IsReady T t
    → Expects T t p w d → FilledType T t p
expects_filled l r (in_itself e a) = of_filled e (at_filled (of_kind e (ready_has_value l r)) a)
expects_filled {T = T} {t = t} l r (in_part {p = p} {q = q} e n a) =
    let part = expects_filled l (names_ready r e (enters_named n)) a in
    let all = enters_filled l (record { each = λ w n. names_ready r e n }) n part.spelled in
    record {
      value = all.value;
      rest = part.rest ++ all.rest;
      spelled =
          subst (Spells T t all.value) (regrouped q p part.rest all.rest) (of_type e all.spelled);
    }
  where
    regrouped : (q p r s : List ℕ) → (q ++ (p ++ r)) ++ s ≡ (q ++ p) ++ (r ++ s)
    regrouped q p r s = simp append_assoc

pub expects_begins : {T : Table} {t : TypeId} {p : List ℕ} {w : Expected} {d : ℕ} → HasCountedArrays T → IsReady T t
    → ExpectsTop T t p w d → BeginsValue T t p
expects_begins l r (in_struct e i a) = let h = expects_filled l r a in record {
  value = h.value;
  rest = h.rest;
  spelled = at_once e i h.spelled;
}
expects_begins l r (at_tag e n) = let h = ready_has_value l r in record {
  value = h.value;
  rest = 0 ∷ h.bytes;
  spelled =
      tagged e n h.spelled;
}
expects_begins l r (behind_tag e n a) = let h = expects_filled l r a in record {
  value = h.value;
  rest = h.rest;
  spelled = tagged e n h.spelled;
}

-- something is left, since what is expected doesn't stand in no bytes
pub expects_proper : {T : Table} {t : TypeId} {p : List ℕ} {w : Expected} {d : ℕ} → HasCountedArrays T → IsReady T t
    → ExpectsTop T t p w d → IsProperPrefix T t p
expects_proper {T = T} {t = t} {p = p} l r a =
    let b = expects_begins l r a in
    record {
      begins = b;
      more =
          λ e. met_some a (whole_meets_top [] [] (subst (λ r. SpellsTop T t b.value (p ++ r)) e b.spelled) a
          (sym (append_nil (p ++ []))));
    }
