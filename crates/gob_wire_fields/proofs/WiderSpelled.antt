-- What is spelled where wireType has its earlier fields alone is spelled where it has the later ones too; and what is
-- spelled there is spelled here, or leads to a later field.
use Rattle.std.proofs.Common.{◌≡◌, ℕ, ◌+◌, ◌-◌, ◌<◌, ◌≤◌, ◌⊎◌, inl, inr, List, [], ◌∷◌, ◌++◌, Some, arith, refl, sym}
use Rattle.std.proofs.Common.{ap, ◌∙◌, subst, append_assoc}
use Rattle.std.specs.Prelude.{slice_get}
use Rattle.gob_num.specs.Unsigned.{IsUnsigned}
use Rattle.gob_types.specs.declared.id.TypeId.{TypeId}
use Rattle.gob_types.specs.declared.kind.Field.{Field}
use Rattle.gob_types.specs.declared.kind.Kind.{Kind}
use Rattle.gob_types.specs.declared.kind.Kind.TheVariants as kind
use Rattle.gob_types.specs.declared.kind.Shape.{Shape}
use Rattle.gob_types.specs.Base.{wire_type, wire_type_fields}
use Rattle.gob_wire_fields.specs.BaseTable.{earlier_wire_type_fields}
use Rattle.gob_types.specs.Table.{Table, shape_of}
use Rattle.gob_value.specs.Tree.{Tree, Trees, no_tree, tree, Pairs, pair, Fields, tree_count, pair_count}
use Rattle.gob_value.specs.Spelling.{Spells, of_type, SpellsAs, of_bool, of_int, of_uint, of_float, of_complex, of_nil}
use Rattle.gob_value.specs.Spelling.{of_bytes, of_text, of_opaque, of_slice, of_array, of_map, of_struct, SpellsEach}
use Rattle.gob_value.specs.Spelling.{no_element, element, SpellsPairs, no_entry, entry, SpellsFields, end_of_fields}
use Rattle.gob_value.specs.Spelling.{next_field}
use Rattle.gob_read.specs.Expects.{FieldsRun, no_fields, field_then, Enters, slice_element, array_element, next_key}
use Rattle.gob_read.specs.Expects.{next_value}
use Rattle.gob_read.specs.Expects as expects
use Rattle.gob_wire_fields.specs.Earlier.{BeginsPart, itself, one_in, LeadsOn}
use Rattle.gob_wire_fields.proofs.WiderLaws.{IsWider, Later, same_shape, wire_shape, later, Earlier, same_before}
use Rattle.gob_wire_fields.proofs.WiderLaws.{wire_before, earlier, earlier_wire, later_wire, field_later, field_earlier}

-- ---- on to the later fields

fields_more : {T : Table} {next : ℕ} {fs : Fields} {b : List ℕ} → SpellsFields T earlier_wire_type_fields next fs b
    → SpellsFields T wire_type_fields next fs b
fields_more (end_of_fields p) = end_of_fields p
fields_more (next_field {f = f} {e = e} l m p q ps) = next_field l (field_later f e m) p q (fields_more ps)

struct_more : {T : Table} {v : Tree} {b : List ℕ} → SpellsAs T earlier_wire.kind v b → SpellsAs T later_wire.kind v b
struct_more (of_struct ps) = of_struct (fields_more ps)

type_later : {U : Table} {t : TypeId} {s : Shape} {v : Tree} {b : List ℕ} → Later U t s → SpellsAs U s.kind v b
    → Spells U t v b
type_later (same_shape f) p = of_type f p
type_later {U = U} {v = v} {b = b} (wire_shape e f h) p =
    of_type f (struct_more (subst (λ (s : Shape). SpellsAs U s.kind v b) h p))

mutual
  pub spells_later : {T U : Table} {t : TypeId} {v : Tree} {b : List ℕ} → IsWider T U → Spells T t v b → Spells U t v b
  spells_later w (of_type e p) = type_later (later w e) (as_later w p)

  as_later : {T U : Table} {k : Kind} {v : Tree} {b : List ℕ} → IsWider T U → SpellsAs T k v b → SpellsAs U k v b
  as_later w (of_bool p) = of_bool p
  as_later w (of_int p) = of_int p
  as_later w (of_uint p) = of_uint p
  as_later w (of_float p) = of_float p
  as_later w (of_complex p q) = of_complex p q
  as_later w (of_nil p) = of_nil p
  as_later w (of_bytes p) = of_bytes p
  as_later w (of_text p) = of_text p
  as_later w (of_opaque p) = of_opaque p
  as_later w (of_slice p ps) = of_slice p (each_later w ps)
  as_later w (of_array n p ps) = of_array n p (each_later w ps)
  as_later w (of_map p ps) = of_map p (pairs_later w ps)
  as_later w (of_struct ps) = of_struct (fields_later w ps)

  pub each_later : {T U : Table} {e : TypeId} {vs : Trees} {b : List ℕ} → IsWider T U → SpellsEach T e vs b
      → SpellsEach U e vs b
  each_later w no_element = no_element
  each_later w (element p ps) = element (spells_later w p) (each_later w ps)

  pub pairs_later : {T U : Table} {k e : TypeId} {ps : Pairs} {b : List ℕ} → IsWider T U → SpellsPairs T k e ps b
      → SpellsPairs U k e ps b
  pairs_later w no_entry = no_entry
  pairs_later w (entry p q ps) = entry (spells_later w p) (spells_later w q) (pairs_later w ps)

  fields_later : {T U : Table} {types : List Field} {next : ℕ} {fs : Fields} {b : List ℕ} → IsWider T U
      → SpellsFields T types next fs b → SpellsFields U types next fs b
  fields_later w (end_of_fields p) = end_of_fields p
  fields_later w (next_field l m p q ps) = next_field l m p (spells_later w q) (fields_later w ps)

-- ---- back, unless they lead to a later field

-- a value of the type whose bytes begin so leads to one
abbrev pub LeadsIn : Table → TypeId → List ℕ → Type 0
LeadsIn T t b = LeadsOn T (BeginsPart T t) b

behind : (a b c d : List ℕ) → a ++ (b ++ (c ++ d)) ≡ (a ++ (b ++ c)) ++ d
behind a b c d = ap (λ l. a ++ l) (sym (append_assoc b c d)) ∙ sym (append_assoc a (b ++ c) d)

pub longer : (a f d r x : List ℕ) → (a ++ (f ++ (d ++ r))) ++ x ≡ a ++ (f ++ (d ++ (r ++ x)))
longer a f d r x = append_assoc a (f ++ (d ++ r)) x ∙ ap (λ l. a ++ l) (append_assoc f (d ++ r) x
    ∙ ap (λ l. f ++ l) (append_assoc d r x))

-- with more bytes behind it
pub leads_longer : {T : Table} {Begins : List ℕ → TypeId → Type 0} {b : List ℕ} (x : List ℕ) → LeadsOn T Begins b
    → LeadsOn T Begins (b ++ x)
leads_longer x l = record {
  around = l.around;
  fields = l.fields;
  next = l.next;
  delta = l.delta;
  number = l.number;
  rest = l.rest ++ x;
  begins = l.begins;
  run = l.run;
  spelled = l.spelled;
  later = l.later;
  whole = ap (λ b. b ++ x) l.whole ∙ longer l.around l.fields l.delta l.rest x;
}

-- and from the part that is entered
pub leads_around : {T : Table} {t u : TypeId} {s : Shape} {q b : List ℕ} → shape_of T t ≡ Some s → Enters T s.kind q u
    → LeadsIn T u b → LeadsIn T t (q ++ b)
leads_around {q = q} e n l = record {
  around = q ++ l.around;
  fields = l.fields;
  next = l.next;
  delta = l.delta;
  number = l.number;
  rest = l.rest;
  begins = one_in e n l.begins;
  run = l.run;
  spelled = l.spelled;
  later = l.later;
  whole = ap (λ b. q ++ b) l.whole ∙ sym (append_assoc q l.around (l.fields ++ (l.delta ++ l.rest)));
}

-- in a part of this kind, some part of it leads to one
pub record PartLeads (T : Table) (k : Kind) (b : List ℕ) : Type 0 where
  pub before : List ℕ
  pub type : TypeId
  pub part : List ℕ
  pub rest : List ℕ
  pub enters : Enters T k before type
  pub leads : LeadsIn T type part
  pub whole : b ≡ before ++ (part ++ rest)

pub part_leads : {T : Table} {t : TypeId} {s : Shape} {b : List ℕ} → shape_of T t ≡ Some s → PartLeads T s.kind b
    → LeadsIn T t b
part_leads {T = T} {t = t} e l = subst (LeadsIn T t) (sym l.whole)
    (leads_around e l.enters (leads_longer l.rest l.leads))

-- elements lead into a later field: some, and behind them the front of one that leads there
pub record EachLeads (T : Table) (e : TypeId) (vs : Trees) (b : List ℕ) : Type 0 where
  pub trees : Trees
  pub before : List ℕ
  pub part : List ℕ
  pub rest : List ℕ
  pub spelled : SpellsEach T e trees before
  pub fewer : tree_count trees < tree_count vs
  pub leads : LeadsIn T e part
  pub whole : b ≡ before ++ (part ++ rest)

pub data PairsLead (T : Table) (k e : TypeId) (ps : Pairs) (b : List ℕ) : Type 0 where
  in_key : {qs : Pairs} {a p : List ℕ} (r : List ℕ) → SpellsPairs T k e qs a → pair_count qs < pair_count ps
      → LeadsIn T k p → b ≡ a ++ (p ++ r) → PairsLead T k e ps b
  in_value : {qs : Pairs} {x : Tree} {a c p : List ℕ} (r : List ℕ) → SpellsPairs T k e qs a
      → pair_count qs < pair_count ps → Spells T k x c → LeadsIn T e p
      → b ≡ a ++ (c ++ (p ++ r)) → PairsLead T k e ps b

pub record FieldLeads (T : Table) (types : List Field) (start : ℕ) (b : List ℕ) : Type 0 where
  pub next : ℕ
  pub number : ℕ
  pub field : Field
  pub before : List ℕ
  pub delta : List ℕ
  pub part : List ℕ
  pub rest : List ℕ
  pub run : FieldsRun T types start next before
  pub above : next ≤ number
  pub there : slice_get types number ≡ Some field
  pub spelled : IsUnsigned (number + 1 - next) delta
  pub leads : LeadsIn T field.id part
  pub whole : b ≡ before ++ (delta ++ (part ++ rest))

-- one field behind another
pub field_first : {T : Table} {types : List Field} {start f : ℕ} {e : Field} {a b : List ℕ} (c : List ℕ) → start ≤ f
    → slice_get types f ≡ Some e → IsUnsigned (f + 1 - start) a → LeadsIn T e.id b
    → FieldLeads T types start (a ++ (b ++ c))
field_first {start = start} {f = f} {e = e} {a = a} {b = b} c l m p x =
    record {
      next = start;
      number = f;
      field = e;
      before = [];
      delta = a;
      part = b;
      rest = c;
      run = no_fields;
      above =
          l;
      there = m;
      spelled = p;
      leads = x;
      whole = refl;
    }

pub field_behind : {T : Table} {types : List Field} {start f : ℕ} {e : Field} {v : Tree} {a b c : List ℕ} → start ≤ f
    → slice_get types f ≡ Some e → IsUnsigned (f + 1 - start) a → Spells T e.id v b → FieldLeads T types (f + 1) c
    → FieldLeads T types start (a ++ (b ++ c))
field_behind {a = a} {b = b} l m p q x = record {
  next = x.next;
  number = x.number;
  field = x.field;
  before = a ++ (b ++ x.before);
  delta = x.delta;
  part = x.part;
  rest = x.rest;
  run = field_then l m p q x.run;
  above = x.above;
  there = x.there;
  spelled = x.spelled;
  leads = x.leads;
  whole = ap (λ c. a ++ (b ++ c)) x.whole ∙ behind a b x.before (x.delta ++ (x.part ++ x.rest));
}

-- of one element or the ones behind it
each_by : {T : Table} {e : TypeId} {v : Tree} {vs : Trees} {b c : List ℕ} → Spells T e v b ⊎ LeadsIn T e b
    → SpellsEach T e vs c ⊎ EachLeads T e vs c → SpellsEach T e (tree v vs) (b ++ c)
    ⊎ EachLeads T e (tree v vs) (b ++ c)
each_by {b = b} {c = c} (inr x) r =
    inr (record {
      trees = no_tree;
      before = [];
      part = b;
      rest = c;
      spelled = no_element;
      fewer = omega arith;
      leads =
          x;
      whole = refl;
    })
each_by {v = v} {b = b} (inl q) (inr x) = inr (record {
  trees = tree v x.trees;
  before = b ++ x.before;
  part = x.part;
  rest = x.rest;
  spelled = element q x.spelled;
  fewer = let f = x.fewer in omega arith;
  leads = x.leads;
  whole = ap (λ c. b ++ c) x.whole ∙ sym (append_assoc b x.before (x.part ++ x.rest));
})
each_by (inl q) (inl qs) = inl (element q qs)

pairs_by : {T : Table} {k e : TypeId} {x v : Tree} {ps : Pairs} {a b c : List ℕ} → Spells T k x a ⊎ LeadsIn T k a
    → Spells T e v b ⊎ LeadsIn T e b → SpellsPairs T k e ps c ⊎ PairsLead T k e ps c
    → SpellsPairs T k e (pair x v ps) (a ++ (b ++ c)) ⊎ PairsLead T k e (pair x v ps) (a ++ (b ++ c))
pairs_by {b = b} {c = c} (inr l) q r = inr (in_key (b ++ c) no_entry (omega arith) l refl)
pairs_by {c = c} (inl p) (inr l) r = inr (in_value c no_entry (omega arith) p l refl)
pairs_by {a = a} {b = b} (inl p) (inl q) (inr (in_key {a = d} {p = part} r s f l e)) =
    inr (in_key r (entry p q s) (omega (arith, f)) l (ap (λ c. a ++ (b ++ c)) e ∙ behind a b d (part ++ r)))
pairs_by {a = a} {b = b} (inl p) (inl q) (inr (in_value {a = d} {c = key} {p = part} r s f k l e)) =
    inr (in_value r (entry p q s) (omega (arith, f)) k l (ap (λ c. a ++ (b ++ c)) e
    ∙ behind a b d (key ++ (part ++ r))))
pairs_by (inl p) (inl q) (inl r) = inl (entry p q r)

fields_by : {T : Table} {types : List Field} {start f : ℕ} {e : Field} {v : Tree} {fs : Fields} {a b c : List ℕ}
    → start ≤ f → slice_get types f ≡ Some e → IsUnsigned (f + 1 - start) a
    → Spells T e.id v b ⊎ LeadsIn T e.id b → SpellsFields T types (f + 1) fs c ⊎ FieldLeads T types (f + 1) c
    → SpellsFields T types start (Fields.field f v fs) (a ++ (b ++ c)) ⊎ FieldLeads T types start (a ++ (b ++ c))
fields_by {c = c} l m p (inr x) r = inr (field_first c l m p x)
fields_by l m p (inl q) (inr x) = inr (field_behind l m p q x)
fields_by l m p (inl q) (inl r) = inl (next_field l m p q r)

-- of the parts of a value
each_part : {T : Table} {k : Kind} {e : TypeId} {vs : Trees} {v : Tree} {b : List ℕ} (c : List ℕ)
    → ((ws : Trees) (a : List ℕ) → SpellsEach T e ws a → tree_count ws < tree_count vs → Enters T k (c ++ a) e)
    → (SpellsEach T e vs b → SpellsAs T k v (c ++ b))
    → SpellsEach T e vs b ⊎ EachLeads T e vs b → SpellsAs T k v (c ++ b) ⊎ PartLeads T k (c ++ b)
each_part c into whole (inl q) = inl (whole q)
each_part {e = e} c into whole (inr x) = inr (record {
  before = c ++ x.before;
  type = e;
  part = x.part;
  rest = x.rest;
  enters = into x.trees x.before x.spelled x.fewer;
  leads = x.leads;
  whole = ap (λ b. c ++ b) x.whole ∙ sym (append_assoc c x.before (x.part ++ x.rest));
})

pairs_part : {T : Table} {k e : TypeId} {ps : Pairs} {c b : List ℕ} → IsUnsigned (pair_count ps) c
    → SpellsPairs T k e ps b ⊎ PairsLead T k e ps b → SpellsAs T (kind.Map k e) (Tree.pairs ps) (c ++ b)
    ⊎ PartLeads T (kind.Map k e) (c ++ b)
pairs_part n (inl q) = inl (of_map n q)
pairs_part {k = k} {c = c} n (inr (in_key {a = a} {p = p} r s f l e)) =
    inr (record {
      before = c ++ a;
      type = k;
      part = p;
      rest = r;
      enters = next_key n s f;
      leads = l;
      whole =
          ap (λ b. c ++ b) e ∙ sym (append_assoc c a (p ++ r));
    })
pairs_part {e = type} {c = c} n (inr (in_value {a = a} {c = key} {p = p} r s f k l e)) = inr (record {
  before = c ++ (a ++ key);
  type = type;
  part = p;
  rest = r;
  enters = next_value n s f k;
  leads = l;
  whole = ap (λ b. c ++ b) (e ∙ sym (append_assoc a key (p ++ r))) ∙ sym (append_assoc c (a ++ key) (p ++ r));
})

pub field_part : {T : Table} {types : List Field} {b : List ℕ} → FieldLeads T types 0 b
    → PartLeads T (kind.Struct types) b
field_part x = record {
  before = x.before ++ x.delta;
  type = x.field.id;
  part = x.part;
  rest = x.rest;
  enters = expects.next_field x.run x.above x.there x.spelled;
  leads = x.leads;
  whole = x.whole ∙ sym (append_assoc x.before x.delta (x.part ++ x.rest));
}

fields_part : {T : Table} {types : List Field} {fs : Fields} {b : List ℕ} → SpellsFields T types 0 fs b
    ⊎ FieldLeads T types 0 b → SpellsAs T (kind.Struct types) (Tree.fields fs) b ⊎ PartLeads T (kind.Struct types) b
fields_part (inl q) = inl (of_struct q)
fields_part (inr x) = inr (field_part x)

-- ---- in wireType itself

-- behind whole fields, a delta that leads to a later one
pub record RunLeads (T : Table) (start : ℕ) (b : List ℕ) : Type 0 where
  pub next : ℕ
  pub number : ℕ
  pub before : List ℕ
  pub delta : List ℕ
  pub rest : List ℕ
  pub run : FieldsRun T earlier_wire_type_fields start next before
  pub spelled : IsUnsigned number delta
  pub later : (next + number ≡ 6) ⊎ (next + number ≡ 7)
  pub whole : b ≡ before ++ (delta ++ rest)

pub run_leads : {T : Table} {b : List ℕ} → RunLeads T 0 b → LeadsIn T wire_type b
run_leads x = record {
  around = [];
  fields = x.before;
  next = x.next;
  delta = x.delta;
  number = x.number;
  rest = x.rest;
  begins = itself;
  run = x.run;
  spelled = x.spelled;
  later = x.later;
  whole = x.whole;
}

-- the delta of a field is one
pub delta_leads : {T : Table} {start f : ℕ} {a : List ℕ} (r : List ℕ) → start ≤ f → (f ≡ 5) ⊎ (f ≡ 6)
    → IsUnsigned (f + 1 - start) a → RunLeads T start (a ++ r)
delta_leads {start = start} {f = f} {a = a} r l h p =
    record {
      next = start;
      number = f + 1 - start;
      before = [];
      delta = a;
      rest = r;
      run = no_fields;
      spelled = p;
      later = elim h [ inl e ↦ inl (omega arith) | inr e ↦ inr (omega arith) ];
      whole = refl;
    }

pub run_behind : {T : Table} {start f : ℕ} {e : Field} {v : Tree} {a b c : List ℕ} → start ≤ f
    → slice_get earlier_wire_type_fields f ≡ Some e → IsUnsigned (f + 1 - start) a → Spells T e.id v b
    → RunLeads T (f + 1) c → RunLeads T start (a ++ (b ++ c))
run_behind {a = a} {b = b} l m p q x = record {
  next = x.next;
  number = x.number;
  before = a ++ (b ++ x.before);
  delta = x.delta;
  rest = x.rest;
  run = field_then l m p q x.run;
  spelled = x.spelled;
  later = x.later;
  whole = ap (λ c. a ++ (b ++ c)) x.whole ∙ behind a b x.before (x.delta ++ x.rest);
}

fields_fewer : {T : Table} {next : ℕ} {fs : Fields} {b : List ℕ} → SpellsFields T wire_type_fields next fs b
    → SpellsFields T earlier_wire_type_fields next fs b ⊎ RunLeads T next b
fields_fewer (end_of_fields p) = inl (end_of_fields p)
fields_fewer {T = T} (next_field {next = next} {f = f} {e = e} {v = v} {fs = fs} {a = a} {b = b} {c = c} l m p q ps) =
    by (field_earlier f e m) (fields_fewer ps)
  where
    by : (slice_get earlier_wire_type_fields f ≡ Some e) ⊎ ((f ≡ 5) ⊎ (f ≡ 6))
        → SpellsFields T earlier_wire_type_fields (f + 1) fs c ⊎ RunLeads T (f + 1) c
        → SpellsFields T earlier_wire_type_fields next (Fields.field f v fs) (a ++ (b ++ c))
        ⊎ RunLeads T next (a ++ (b ++ c))
    by (inr h) r = inr (delta_leads (b ++ c) l h p)
    by (inl g) (inr x) = inr (run_behind l g p q x)
    by (inl g) (inl r) = inl (next_field l g p q r)

pub run_fewer : {T : Table} {start next : ℕ} {b : List ℕ} → FieldsRun T wire_type_fields start next b
    → FieldsRun T earlier_wire_type_fields start next b ⊎ RunLeads T start b
run_fewer no_fields = inl no_fields
run_fewer {T = T} (field_then {start = start} {f = f} {next = next} {e = e} {a = a} {b = b} {c = c} l m p q ps) =
    by (field_earlier f e m) (run_fewer ps)
  where
    by : (slice_get earlier_wire_type_fields f ≡ Some e) ⊎ ((f ≡ 5) ⊎ (f ≡ 6))
        → FieldsRun T earlier_wire_type_fields (f + 1) next c ⊎ RunLeads T (f + 1) c
        → FieldsRun T earlier_wire_type_fields start next (a ++ (b ++ c)) ⊎ RunLeads T start (a ++ (b ++ c))
    by (inr h) r = inr (delta_leads (b ++ c) l h p)
    by (inl g) (inr x) = inr (run_behind l g p q x)
    by (inl g) (inl r) = inl (field_then l g p q r)

run_longer : {T : Table} {start : ℕ} {b : List ℕ} (x : List ℕ) → RunLeads T start b → RunLeads T start (b ++ x)
run_longer x l = record {
  next = l.next;
  number = l.number;
  before = l.before;
  delta = l.delta;
  rest = l.rest ++ x;
  run = l.run;
  spelled = l.spelled;
  later = l.later;
  whole = ap (λ b. b ++ x) l.whole ∙ append_assoc l.before (l.delta ++ l.rest) x
      ∙ ap (λ b. l.before ++ b) (append_assoc l.delta l.rest x);
}

-- the delta of the next field, behind a run of some
run_then : {T : Table} {start next f : ℕ} {a d : List ℕ} → FieldsRun T earlier_wire_type_fields start next a → next ≤ f
    → (f ≡ 5) ⊎ (f ≡ 6) → IsUnsigned (f + 1 - next) d → RunLeads T start (a ++ d)
run_then {next = next} {f = f} {a = a} {d = d} r l h p =
    record {
      next = next;
      number = f + 1 - next;
      before = a;
      delta = d;
      rest = [];
      run = r;
      spelled = p;
      later =
          elim h [ inl e ↦ inl (omega arith) | inr e ↦ inr (omega arith) ];
      whole = ap (λ d. a ++ d) (sym (end d));
    }
  where
    end : (d : List ℕ) → d ++ [] ≡ d
    end [] = refl
    end (x ∷ d) = ap (λ d. x ∷ d) (end d)

-- a part of wireType is entered by one of the earlier fields, or by a later one
pub enters_fewer : {T : Table} {q : List ℕ} {u : TypeId} → Enters T later_wire.kind q u → Enters T earlier_wire.kind q u
    ⊎ RunLeads T 0 q
enters_fewer {T = T} (expects.next_field {next = next} {f = f} {e = e} {a = a} {b = b} r l m p) =
    by (field_earlier f e m) (run_fewer r)
  where
    by : (slice_get earlier_wire_type_fields f ≡ Some e) ⊎ ((f ≡ 5) ⊎ (f ≡ 6))
        → FieldsRun T earlier_wire_type_fields 0 next a ⊎ RunLeads T 0 a → Enters T earlier_wire.kind (a ++ b) e.id
        ⊎ RunLeads T 0 (a ++ b)
    by h (inr x) = inr (run_longer b x)
    by (inl g) (inl s) = inl (expects.next_field s l g p)
    by (inr h) (inl s) = inr (run_then s l h p)

-- so is a value of it
pub part_fewer : {T : Table} {b : List ℕ} → shape_of T wire_type ≡ Some earlier_wire → PartLeads T later_wire.kind b
    → LeadsIn T wire_type b
part_fewer {T = T} {b = b} at x = by (enters_fewer x.enters)
  where
    by : Enters T earlier_wire.kind x.before x.type ⊎ RunLeads T 0 x.before → LeadsIn T wire_type b
    by (inl n) = part_leads at (record {
      before = x.before;
      type = x.type;
      part = x.part;
      rest = x.rest;
      enters = n;
      leads = x.leads;
      whole = x.whole;
    })
    by (inr l) = subst (LeadsIn T wire_type) (sym x.whole) (leads_longer (x.part ++ x.rest) (run_leads l))

struct_fewer : {T : Table} {v : Tree} {b : List ℕ} → SpellsAs T later_wire.kind v b → SpellsAs T earlier_wire.kind v b
    ⊎ RunLeads T 0 b
struct_fewer {T = T} {b = b} (of_struct {fs = fs} ps) = by (fields_fewer ps)
  where
    by : SpellsFields T earlier_wire_type_fields 0 fs b ⊎ RunLeads T 0 b → SpellsAs T earlier_wire.kind (Tree.fields fs)
        b ⊎ RunLeads T 0 b
    by (inl q) = inl (of_struct q)
    by (inr x) = inr x

-- a value at a type of the wider table is one at the type of the earlier table, or leads into a later field
type_earlier : {T : Table} {t : TypeId} {s : Shape} {v : Tree} {b : List ℕ} → Earlier T t s → SpellsAs T s.kind v b
    ⊎ PartLeads T s.kind b → Spells T t v b ⊎ LeadsIn T t b
type_earlier (same_before f) (inl p) = inl (of_type f p)
type_earlier (same_before f) (inr x) = inr (part_leads f x)
type_earlier {T = T} {t = t} {s = s} {v = v} {b = b} (wire_before e f h) p =
    by (subst (λ (s : Shape). SpellsAs T s.kind v b ⊎ PartLeads T s.kind b) h p)
  where
    at : shape_of T wire_type ≡ Some earlier_wire
    at = ap (shape_of T) (sym e) ∙ f

    wire : SpellsAs T earlier_wire.kind v b ⊎ RunLeads T 0 b → Spells T t v b ⊎ LeadsIn T t b
    wire (inl p) = inl (of_type f p)
    wire (inr x) = inr (subst (λ t. LeadsIn T t b) (sym e) (run_leads x))

    by : SpellsAs T later_wire.kind v b ⊎ PartLeads T later_wire.kind b → Spells T t v b ⊎ LeadsIn T t b
    by (inl p) = wire (struct_fewer p)
    by (inr x) = inr (subst (λ t. LeadsIn T t b) (sym e) (part_fewer at x))

mutual
  pub spells_earlier : {T U : Table} {t : TypeId} {v : Tree} {b : List ℕ} → IsWider T U → Spells U t v b
      → Spells T t v b ⊎ LeadsIn T t b
  spells_earlier w (of_type e p) = type_earlier (earlier w e) (as_earlier w p)

  as_earlier : {T U : Table} {k : Kind} {v : Tree} {b : List ℕ} → IsWider T U → SpellsAs U k v b → SpellsAs T k v b
      ⊎ PartLeads T k b
  as_earlier w (of_bool p) = inl (of_bool p)
  as_earlier w (of_int p) = inl (of_int p)
  as_earlier w (of_uint p) = inl (of_uint p)
  as_earlier w (of_float p) = inl (of_float p)
  as_earlier w (of_complex p q) = inl (of_complex p q)
  as_earlier w (of_nil p) = inl (of_nil p)
  as_earlier w (of_bytes p) = inl (of_bytes p)
  as_earlier w (of_text p) = inl (of_text p)
  as_earlier w (of_opaque p) = inl (of_opaque p)
  as_earlier w (of_slice p ps) = each_part _ (λ ws a s f. slice_element p s f) (λ q. of_slice p q) (each_earlier w ps)
  as_earlier w (of_array n p ps) = each_part _ (λ ws a s f. array_element p s (omega (arith, n, f)))
      (λ q. of_array n p q) (each_earlier w ps)
  as_earlier w (of_map p ps) = pairs_part p (pairs_earlier w ps)
  as_earlier w (of_struct ps) = fields_part (fields_earlier w ps)

  pub each_earlier : {T U : Table} {e : TypeId} {vs : Trees} {b : List ℕ} → IsWider T U → SpellsEach U e vs b
      → SpellsEach T e vs b ⊎ EachLeads T e vs b
  each_earlier w no_element = inl no_element
  each_earlier w (element p ps) = each_by (spells_earlier w p) (each_earlier w ps)

  pub pairs_earlier : {T U : Table} {k e : TypeId} {ps : Pairs} {b : List ℕ} → IsWider T U → SpellsPairs U k e ps b
      → SpellsPairs T k e ps b ⊎ PairsLead T k e ps b
  pairs_earlier w no_entry = inl no_entry
  pairs_earlier w (entry p q ps) = pairs_by (spells_earlier w p) (spells_earlier w q) (pairs_earlier w ps)

  fields_earlier : {T U : Table} {types : List Field} {next : ℕ} {fs : Fields} {b : List ℕ} → IsWider T U
      → SpellsFields U types next fs b → SpellsFields T types next fs b ⊎ FieldLeads T types next b
  fields_earlier w (end_of_fields p) = inl (end_of_fields p)
  fields_earlier w (next_field l m p q ps) = fields_by l m p (spells_earlier w q) (fields_earlier w ps)
