-- What bytes expect, and why they are refused, where wireType has its later fields and where it has the earlier ones
-- alone.
use Rattle.std.proofs.Common.{◌≡◌, ℕ, suc, ◌+◌, ◌-◌, ◌<◌, ◌≤◌, ◌⊎◌, inl, inr, List, [], ◌∷◌, ◌++◌, length, Some, arith}
use Rattle.std.proofs.Common.{refl, sym, ap, ◌∙◌, subst, append_assoc}
use Rattle.gob_num.specs.Unsigned.{IsUnsigned}
use Rattle.gob_types.specs.declared.id.TypeId.{TypeId}
use Rattle.gob_types.specs.declared.kind.Field.{Field}
use Rattle.gob_types.specs.declared.kind.Kind.{Kind}
use Rattle.gob_types.specs.declared.kind.Kind.TheVariants as kind
use Rattle.gob_types.specs.declared.kind.Shape.{Shape}
use Rattle.gob_types.specs.Base.{wire_type, wire_type_fields}
use Rattle.gob_wire_fields.specs.BaseTable.{earlier_wire_type_fields}
use Rattle.gob_types.specs.Table.{Table, shape_of}
use Rattle.gob_value.specs.Tree.{Tree, Pairs, pair_count}
use Rattle.gob_value.specs.Spelling.{Spells, SpellsEach, SpellsPairs}
use Rattle.gob_value.specs.Top.{SpellsTop, at_once, tagged, IsStruct}
use Rattle.gob_read.specs.Expected.{Expected, a_number, delta}
use Rattle.gob_read.specs.Expects.{FieldsRun, no_fields, field_then, Enters, slice_element, array_element, next_key}
use Rattle.gob_read.specs.Expects.{next_value, next_field, ExpectsAt, first, second, byte_content, text_content}
use Rattle.gob_read.specs.Expects.{opaque_content, next_delta, Expects, in_itself, in_part, ExpectsTop, at_tag}
use Rattle.gob_read.specs.Expects as expects
use Rattle.gob_read.proofs.PublicLaws.{append_nil, next_below}
use Rattle.gob_wire_fields.specs.Earlier.{BeginsPart, itself, one_in, BeginsPartTop, in_struct, behind_tag, LeadsOn}
use Rattle.gob_wire_fields.proofs.WiderLaws.{IsWider, Later, same_shape, wire_shape, later, Earlier, same_before}
use Rattle.gob_wire_fields.proofs.WiderLaws.{wire_before, earlier, earlier_wire, later_wire, field_later}
use Rattle.gob_wire_fields.proofs.WiderSpelled.{spells_later, each_later, pairs_later, LeadsIn, leads_longer}
use Rattle.gob_wire_fields.proofs.WiderSpelled.{leads_around}
use Rattle.gob_wire_fields.proofs.WiderSpelled.{PartLeads, part_leads, FieldLeads, field_first, field_behind}
use Rattle.gob_wire_fields.proofs.WiderSpelled.{field_part}
use Rattle.gob_wire_fields.proofs.WiderSpelled.{RunLeads, run_leads, run_fewer, enters_fewer, part_fewer}
use Rattle.gob_wire_fields.proofs.WiderSpelled.{spells_earlier}
use Rattle.gob_wire_fields.proofs.WiderSpelled.{each_earlier, pairs_earlier, EachLeads, PairsLead, in_key, in_value}

-- ---- on to the later fields

pub run_later : {T U : Table} {types : List Field} {start next : ℕ} {b : List ℕ} → IsWider T U
    → FieldsRun T types start next b → FieldsRun U types start next b
run_later w no_fields = no_fields
run_later w (field_then l g n p q) = field_then l g n (spells_later w p) (run_later w q)

pub run_more : {T : Table} {start next : ℕ} {b : List ℕ} → FieldsRun T earlier_wire_type_fields start next b
    → FieldsRun T wire_type_fields start next b
run_more no_fields = no_fields
run_more (field_then {f = f} {e = e} l g n p q) = field_then l (field_later f e g) n p (run_more q)

enters_later : {T U : Table} {k : Kind} {q : List ℕ} {u : TypeId} → IsWider T U → Enters T k q u → Enters U k q u
enters_later w (slice_element n ps l) = slice_element n (each_later w ps) l
enters_later w (array_element n ps l) = array_element n (each_later w ps) l
enters_later w (next_key n ps l) = next_key n (pairs_later w ps) l
enters_later w (next_value n ps l p) = next_value n (pairs_later w ps) l (spells_later w p)
enters_later w (next_field q l g n) = next_field (run_later w q) l g n

enters_more : {T : Table} {q : List ℕ} {u : TypeId} → Enters T earlier_wire.kind q u → Enters T later_wire.kind q u
enters_more (next_field {f = f} {e = e} q l g n) = next_field (run_more q) l (field_later f e g) n

at_later : {T U : Table} {k : Kind} {p : List ℕ} {v : Expected} → IsWider T U → ExpectsAt T k p v → ExpectsAt U k p v
at_later w first = first
at_later w (second n) = second n
at_later w (byte_content l n) = byte_content l n
at_later w (text_content l n) = text_content l n
at_later w (opaque_content l n) = opaque_content l n
at_later w (next_delta l q) = next_delta l (run_later w q)

-- the delta that comes next in a struct behind such fields
run_rises : {T : Table} {types : List Field} {start next : ℕ} {b : List ℕ} → FieldsRun T types start next b
    → start ≤ next
run_rises no_fields = omega arith
run_rises (field_then {f = f} l g n p q) = let r = run_rises q in omega arith

pub run_expects : {T : Table} {types : List Field} {next : ℕ} {b : List ℕ} → FieldsRun T types 0 next b
    → ExpectsAt T (kind.Struct types) b (a_number (delta (length types - next)))
run_expects r = by r refl
  where
    by : {T : Table} {types : List Field} {start next : ℕ} {b : List ℕ} → FieldsRun T types start next b → start ≡ 0
        → ExpectsAt T (kind.Struct types) b (a_number (delta (length types - next)))
    by {T = T} {types = types} {next = next} no_fields e =
        let all : length types ≡ length types - next = omega arith in
        subst (λ n. ExpectsAt T (kind.Struct types) [] (a_number (delta n))) all first
    by {T = T} {types = types} (field_then {start = start} {f = f} {next = next} {a = a} {b = b} {c = c} l g n p q) e =
        let up = run_rises q in
        next_delta (omega arith) (subst (λ s. FieldsRun T types s next (a ++ (b ++ c))) e (field_then l g n p q))

-- where a part begins, what it expects is expected
begins_expects : {T : Table} {t u : TypeId} {s : Shape} {p y : List ℕ} {v : Expected} → BeginsPart T t p u
    → shape_of T u ≡ Some s → ExpectsAt T s.kind y v → (d : ℕ) × Expects T t (p ++ y) v d
begins_expects itself at a = (1, in_itself at a)
begins_expects {T = T} {t = t} {y = y} {v = v} (one_in {q = q} {p = p} f n b) at a =
    let r = begins_expects b at a in (
      suc r.0,
      subst (λ l. Expects T t l v (suc r.0)) (sym (append_assoc q p y))
          (in_part f n r.1),
    )

pub top_expects : {T : Table} {t u : TypeId} {s : Shape} {p y : List ℕ} {v : Expected} → BeginsPartTop T t p u
    → shape_of T u ≡ Some s → ExpectsAt T s.kind y v → (d : ℕ) × ExpectsTop T t (p ++ y) v d
top_expects (in_struct f i b) at a = let r = begins_expects b at a in (r.0, expects.in_struct f i r.1)
top_expects (behind_tag f i b) at a = let r = begins_expects b at a in (r.0, expects.behind_tag f i r.1)

-- ---- where a part begins, in both

-- what is entered in a part of the type
entered_later : {U : Table} {t u w : TypeId} {s : Shape} {q p : List ℕ} → Later U t s → Enters U s.kind q u
    → BeginsPart U u p w → BeginsPart U t (q ++ p) w
entered_later (same_shape f) n b = one_in f n b
entered_later {U = U} {u = u} {q = q} (wire_shape e f h) n b =
    one_in f (enters_more (subst (λ (s : Shape). Enters U s.kind q u) h n)) b

begins_later : {T U : Table} {t u : TypeId} {p : List ℕ} → IsWider T U → BeginsPart T t p u → BeginsPart U t p u
begins_later w itself = itself
begins_later w (one_in f n b) = entered_later (later w f) (enters_later w n) (begins_later w b)

is_struct_later : {U : Table} {t : TypeId} {s : Shape} → Later U t s → IsStruct s.kind → (r : Shape)
    × (shape_of U t ≡ Some r) × IsStruct r.kind
is_struct_later {s = s} (same_shape f) i = (s, f, i)
is_struct_later (wire_shape e f h) i = (later_wire, f, tt)

not_struct_later : {U : Table} {t : TypeId} {s : Shape} → Later U t s → ¬ IsStruct s.kind → (r : Shape)
    × (shape_of U t ≡ Some r) × (¬ IsStruct r.kind)
not_struct_later {s = s} (same_shape f) n = (s, f, n)
not_struct_later (wire_shape e f h) n = absurd (n (subst (λ (s : Shape). IsStruct s.kind) (sym h) tt))

is_struct_earlier : {T : Table} {t : TypeId} {s : Shape} → Earlier T t s → IsStruct s.kind → (r : Shape)
    × (shape_of T t ≡ Some r) × IsStruct r.kind
is_struct_earlier {s = s} (same_before f) i = (s, f, i)
is_struct_earlier (wire_before e f h) i = (earlier_wire, f, tt)

not_struct_earlier : {T : Table} {t : TypeId} {s : Shape} → Earlier T t s → ¬ IsStruct s.kind → (r : Shape)
    × (shape_of T t ≡ Some r) × (¬ IsStruct r.kind)
not_struct_earlier {s = s} (same_before f) n = (s, f, n)
not_struct_earlier (wire_before e f h) n = absurd (n (subst (λ (s : Shape). IsStruct s.kind) (sym h) tt))

pub begins_top_later : {T U : Table} {t u : TypeId} {p : List ℕ} → IsWider T U → BeginsPartTop T t p u
    → BeginsPartTop U t p u
begins_top_later w (in_struct f i b) = let r = is_struct_later (later w f) i in in_struct r.1 r.2 (begins_later w b)
begins_top_later w (behind_tag f i b) = let r = not_struct_later (later w f) i in behind_tag r.1 r.2 (begins_later w b)

-- ---- what is expected, in both

-- the delta of a wireType that comes next is expected in the later table as one of two more
pub record NextDelta (T : Table) (Begins : List ℕ → TypeId → Type 0) (p : List ℕ) (v : Expected) (Expected' : Expected
    → Type 0) : Type 0 where
  pub around : List ℕ
  pub fields : List ℕ
  pub next : ℕ
  pub begins : Begins around wire_type
  pub run : FieldsRun T earlier_wire_type_fields 0 next fields
  pub below : next ≤ 5
  pub place : p ≡ around ++ fields
  pub is : v ≡ a_number (delta (5 - next))
  pub now : Expected' (a_number (delta (7 - next)))

wire_at : {T U : Table} {p : List ℕ} {v : Expected} → IsWider T U → ExpectsAt T earlier_wire.kind p v
    → NextDelta T (BeginsPart T wire_type) p v (λ v. ExpectsAt U later_wire.kind p v)
wire_at w first = record {
  around = [];
  fields = [];
  next = 0;
  begins = itself;
  run = no_fields;
  below = omega arith;
  place = refl;
  is = refl;
  now = first;
}
wire_at {p = p} w (next_delta {next = next} l q) =
    record {
      around = [];
      fields = p;
      next = next;
      begins = itself;
      run = q;
      below = next_below q (omega arith);
      place =
          refl;
      is = refl;
      now = next_delta l (run_more (run_later w q));
    }

itself_later : {T U : Table} {t : TypeId} {s : Shape} {p : List ℕ} {v : Expected} → IsWider T U → Later U t s
    → ExpectsAt T s.kind p v → Expects U t p v 1 ⊎ NextDelta T (BeginsPart T t) p v (λ v. Expects U t p v 1)
itself_later w (same_shape f) a = inl (in_itself f (at_later w a))
itself_later {T = T} {U = U} {t = t} {p = p} {v = v} w (wire_shape e f h) a =
    let n = wire_at w (subst (λ (s : Shape). ExpectsAt T s.kind p v) h a) in
    inr (record {
      around = n.around;
      fields = n.fields;
      next = n.next;
      begins = subst (λ t. BeginsPart T t n.around wire_type) (sym e) n.begins;
      run = n.run;
      below = n.below;
      place = n.place;
      is = n.is;
      now = in_itself f n.now;
    })

part_later : {U : Table} {t u : TypeId} {s : Shape} {q p : List ℕ} {v : Expected} {d : ℕ} → Later U t s
    → Enters U s.kind q u → Expects U u p v d → Expects U t (q ++ p) v (suc d)
part_later (same_shape f) n a = in_part f n a
part_later {U = U} {u = u} {q = q} (wire_shape e f h) n a =
    in_part f (enters_more (subst (λ (s : Shape). Enters U s.kind q u) h n)) a

expects_later : {T U : Table} {t : TypeId} {p : List ℕ} {v : Expected} {d : ℕ} → IsWider T U → Expects T t p v d
    → Expects U t p v d ⊎ NextDelta T (BeginsPart T t) p v (λ v. Expects U t p v d)
expects_later w (in_itself e a) = itself_later w (later w e) a
expects_later {T = T} {U = U} {v = v} w (in_part {t = t} {u = u} {d = d} {p = p} {q = q} e n a) = by (expects_later w a)
  where
    by : Expects U u p v d ⊎ NextDelta T (BeginsPart T u) p v (λ v. Expects U u p v d) → Expects U t (q ++ p) v (suc d)
        ⊎ NextDelta T (BeginsPart T t) (q ++ p) v (λ v. Expects U t (q ++ p) v (suc d))
    by (inl b) = inl (part_later (later w e) (enters_later w n) b)
    by (inr x) = inr (record {
      around = q ++ x.around;
      fields = x.fields;
      next = x.next;
      begins = one_in e n x.begins;
      run = x.run;
      below = x.below;
      place = ap (λ p. q ++ p) x.place ∙ sym (append_assoc q x.around x.fields);
      is = x.is;
      now = part_later (later w e) (enters_later w n) x.now;
    })

pub expects_top_later : {T U : Table} {t : TypeId} {p : List ℕ} {v : Expected} {d : ℕ} → IsWider T U
    → ExpectsTop T t p v d → ExpectsTop U t p v d ⊎ NextDelta T (BeginsPartTop T t) p v (λ v. ExpectsTop U t p v d)
expects_top_later {T = T} {U = U} {v = v} {d = d} w (expects.in_struct {t = t} {p = p} e i a) = by (expects_later w a)
  where
    by : Expects U t p v d ⊎ NextDelta T (BeginsPart T t) p v (λ v. Expects U t p v d) → ExpectsTop U t p v d
        ⊎ NextDelta T (BeginsPartTop T t) p v (λ v. ExpectsTop U t p v d)
    by (inl b) = let r = is_struct_later (later w e) i in inl (expects.in_struct r.1 r.2 b)
    by (inr x) = let r = is_struct_later (later w e) i in inr (record {
      around = x.around;
      fields = x.fields;
      next = x.next;
      begins = in_struct e i x.begins;
      run = x.run;
      below = x.below;
      place = x.place;
      is = x.is;
      now = expects.in_struct r.1 r.2 x.now;
    })
expects_top_later w (at_tag e i) = let r = not_struct_later (later w e) i in inl (at_tag r.1 r.2)
expects_top_later {T = T} {U = U} {v = v} {d = d} w (expects.behind_tag {t = t} {p = p} e i a) = by (expects_later w a)
  where
    by : Expects U t p v d ⊎ NextDelta T (BeginsPart T t) p v (λ v. Expects U t p v d) → ExpectsTop U t (0 ∷ p) v d
        ⊎ NextDelta T (BeginsPartTop T t) (0 ∷ p) v (λ v. ExpectsTop U t (0 ∷ p) v d)
    by (inl b) = let r = not_struct_later (later w e) i in inl (expects.behind_tag r.1 r.2 b)
    by (inr x) = let r = not_struct_later (later w e) i in inr (record {
      around = 0 ∷ x.around;
      fields = x.fields;
      next = x.next;
      begins = behind_tag e i x.begins;
      run = x.run;
      below = x.below;
      place = ap (λ p. 0 ∷ p) x.place;
      is = x.is;
      now = expects.behind_tag r.1 r.2 x.now;
    })

pub top_later : {T U : Table} {t : TypeId} {v : Tree} {b : List ℕ} → IsWider T U → SpellsTop T t v b → SpellsTop U t v b
top_later w (at_once e i p) = let r = is_struct_later (later w e) i in at_once r.1 r.2 (spells_later w p)
top_later w (tagged e i p) = let r = not_struct_later (later w e) i in tagged r.1 r.2 (spells_later w p)

-- ---- back, unless they lead to a later field

run_earlier : {T U : Table} {types : List Field} {start next : ℕ} {b : List ℕ} → IsWider T U
    → FieldsRun U types start next b → FieldsRun T types start next b ⊎ FieldLeads T types start b
run_earlier w no_fields = inl no_fields
run_earlier {T = T} w (field_then {types = types} {start = start} {f = f} {next = next} {e = e} {v = v} {a = a} {b = b}
    {c = c} l g n p q) = by (spells_earlier w p) (run_earlier w q)
  where
    by : Spells T e.id v b ⊎ LeadsIn T e.id b → FieldsRun T types (f + 1) next c ⊎ FieldLeads T types (f + 1) c
        → FieldsRun T types start next (a ++ (b ++ c)) ⊎ FieldLeads T types start (a ++ (b ++ c))
    by (inr x) r = inr (field_first c l g n x)
    by (inl p) (inr x) = inr (field_behind l g n p x)
    by (inl p) (inl r) = inl (field_then l g n p r)

part_longer : {T : Table} {k : Kind} {b : List ℕ} (x : List ℕ) → PartLeads T k b → PartLeads T k (b ++ x)
part_longer x l = record {
  before = l.before;
  type = l.type;
  part = l.part;
  rest = l.rest ++ x;
  enters = l.enters;
  leads = l.leads;
  whole = ap (λ b. b ++ x) l.whole ∙ append_assoc l.before (l.part ++ l.rest) x
      ∙ ap (λ b. l.before ++ b) (append_assoc l.part l.rest x);
}

-- in a map, a pair before the ones that are counted
pairs_lead_part : {T : Table} {k e : TypeId} {n : ℕ} {ps : Pairs} {c b : List ℕ} → IsUnsigned n c → pair_count ps < n
    → PairsLead T k e ps b → PartLeads T (kind.Map k e) (c ++ b)
pairs_lead_part {k = k} {c = c} m l (in_key {a = a} {p = p} r s f x e) =
    record {
      before = c ++ a;
      type = k;
      part = p;
      rest = r;
      enters = next_key m s (omega (arith, f, l));
      leads = x;
      whole = ap (λ b. c ++ b) e ∙ sym (append_assoc c a (p ++ r));
    }
pairs_lead_part {e = type} {c = c} m l (in_value {a = a} {c = key} {p = p} r s f k x e) = record {
  before = c ++ (a ++ key);
  type = type;
  part = p;
  rest = r;
  enters = next_value m s (omega (arith, f, l)) k;
  leads = x;
  whole = ap (λ b. c ++ b) (e ∙ sym (append_assoc a key (p ++ r))) ∙ sym (append_assoc c (a ++ key) (p ++ r));
}

-- a part of the kind is entered here too
enters_earlier : {T U : Table} {k : Kind} {q : List ℕ} {u : TypeId} → IsWider T U → Enters U k q u → Enters T k q u
    ⊎ PartLeads T k q
enters_earlier {T = T} w (slice_element {e = e} {n = n} {vs = vs} {c = c} {b = b} m ps l) = by (each_earlier w ps)
  where
    by : SpellsEach T e vs b ⊎ EachLeads T e vs b → Enters T (kind.Slice e) (c ++ b) e
        ⊎ PartLeads T (kind.Slice e) (c ++ b)
    by (inl qs) = inl (slice_element m qs l)
    by (inr x) = inr (record {
      before = c ++ x.before;
      type = e;
      part = x.part;
      rest = x.rest;
      enters = slice_element m x.spelled (let f = x.fewer in omega arith);
      leads = x.leads;
      whole = ap (λ b. c ++ b) x.whole ∙ sym (append_assoc c x.before (x.part ++ x.rest));
    })
enters_earlier {T = T} w (array_element {e = e} {n = n} {vs = vs} {c = c} {b = b} m ps l) = by (each_earlier w ps)
  where
    by : SpellsEach T e vs b ⊎ EachLeads T e vs b → Enters T (kind.Array e n) (c ++ b) e
        ⊎ PartLeads T (kind.Array e n) (c ++ b)
    by (inl qs) = inl (array_element m qs l)
    by (inr x) = inr (record {
      before = c ++ x.before;
      type = e;
      part = x.part;
      rest = x.rest;
      enters = array_element m x.spelled (let f = x.fewer in omega arith);
      leads = x.leads;
      whole = ap (λ b. c ++ b) x.whole ∙ sym (append_assoc c x.before (x.part ++ x.rest));
    })
enters_earlier {T = T} w (next_key {k = k} {e = e} {n = n} {ps = es} {c = c} {b = b} m ps l) = by (pairs_earlier w ps)
  where
    by : SpellsPairs T k e es b ⊎ PairsLead T k e es b → Enters T (kind.Map k e) (c ++ b) k
        ⊎ PartLeads T (kind.Map k e) (c ++ b)
    by (inl qs) = inl (next_key m qs l)
    by (inr x) = inr (pairs_lead_part m l x)
enters_earlier {T = T} w (next_value {k = k} {e = e} {n = n} {x = x} {ps = es} {c = c} {b = b} {a = a} m ps l p) =
    by (pairs_earlier w ps) (spells_earlier w p)
  where
    by : SpellsPairs T k e es b ⊎ PairsLead T k e es b → Spells T k x a ⊎ LeadsIn T k a
        → Enters T (kind.Map k e) (c ++ (b ++ a)) e ⊎ PartLeads T (kind.Map k e) (c ++ (b ++ a))
    by (inr y) r = inr (subst (PartLeads T (kind.Map k e)) (append_assoc c b a) (part_longer a (pairs_lead_part m l y)))
    by (inl qs) (inr y) = inr (record {
      before = c ++ b;
      type = k;
      part = a;
      rest = [];
      enters = next_key m qs l;
      leads = y;
      whole = ap (λ a. c ++ (b ++ a)) (sym (append_nil a)) ∙ sym (append_assoc c b (a ++ []));
    })
    by (inl qs) (inl q) = inl (next_value m qs l q)
enters_earlier {T = T} w (next_field {types = types} {next = next} {f = f} {e = e} {a = a} {b = b} r l g n) =
    by (run_earlier w r)
  where
    by : FieldsRun T types 0 next a ⊎ FieldLeads T types 0 a → Enters T (kind.Struct types) (a ++ b) e.id
        ⊎ PartLeads T (kind.Struct types) (a ++ b)
    by (inl s) = inl (next_field s l g n)
    by (inr x) = inr (part_longer b (field_part x))

-- what comes next in a part itself under the wider table comes next under the earlier one, or the part leads on
at_earlier : {T U : Table} {k : Kind} {p : List ℕ} {v : Expected} → IsWider T U → ExpectsAt U k p v → ExpectsAt T k p v
    ⊎ PartLeads T k p
at_earlier w first = inl first
at_earlier w (second n) = inl (second n)
at_earlier w (byte_content l n) = inl (byte_content l n)
at_earlier w (text_content l n) = inl (text_content l n)
at_earlier w (opaque_content l n) = inl (opaque_content l n)
at_earlier {T = T} {p = p} w (next_delta {types = types} {next = next} l q) = by (run_earlier w q)
  where
    by : FieldsRun T types 0 next p ⊎ FieldLeads T types 0 p
        → ExpectsAt T (kind.Struct types) p (a_number (delta (length types - next))) ⊎ PartLeads T (kind.Struct types) p
    by (inl r) = inl (next_delta l r)
    by (inr x) = inr (field_part x)

-- what is expected in a later wireType is expected in the earlier one, of deltas fewer
pub data Before (ExpectsIt : Expected → Type 0) (v : Expected) : Type 0 where
  just_this : ExpectsIt v → Before ExpectsIt v
  fewer_deltas : (next : ℕ) → next ≤ 5 → v ≡ a_number (delta (7 - next)) → ExpectsIt (a_number (delta (5 - next)))
      → Before ExpectsIt v

wire_before_at : {T : Table} {p : List ℕ} {v : Expected} → ExpectsAt T later_wire.kind p v
    → Before (λ v. ExpectsAt T earlier_wire.kind p v) v ⊎ RunLeads T 0 p
wire_before_at first = inl (fewer_deltas 0 (omega arith) refl first)
wire_before_at {T = T} {p = p} (next_delta {next = next} l q) = by (run_fewer q)
  where
    by : FieldsRun T earlier_wire_type_fields 0 next p ⊎ RunLeads T 0 p
        → Before (λ v. ExpectsAt T earlier_wire.kind p v) (a_number (delta (7 - next))) ⊎ RunLeads T 0 p
    by (inl r) = inl (fewer_deltas next (next_below r (omega arith)) refl (next_delta l r))
    by (inr x) = inr x

before_map : {A B : Expected → Type 0} {v : Expected} → ((v : Expected) → A v → B v) → Before A v → Before B v
before_map f (just_this a) = just_this (f _ a)
before_map f (fewer_deltas n l e a) = fewer_deltas n l e (f _ a)

itself_earlier : {T : Table} {t : TypeId} {s : Shape} {p : List ℕ} {v : Expected} → Earlier T t s
    → ExpectsAt T s.kind p v ⊎ PartLeads T s.kind p → Before (λ v. Expects T t p v 1) v ⊎ LeadsIn T t p
itself_earlier (same_before f) (inl a) = inl (just_this (in_itself f a))
itself_earlier (same_before f) (inr x) = inr (part_leads f x)
itself_earlier {T = T} {t = t} {p = p} {v = v} (wire_before e f h) a =
    by (subst (λ (s : Shape). ExpectsAt T s.kind p v ⊎ PartLeads T s.kind p) h a)
  where
    wire : Before (λ v. ExpectsAt T earlier_wire.kind p v) v ⊎ RunLeads T 0 p → Before (λ v. Expects T t p v 1) v
        ⊎ LeadsIn T t p
    wire (inl b) = inl (before_map (λ v a. in_itself f a) b)
    wire (inr x) = inr (subst (λ t. LeadsIn T t p) (sym e) (run_leads x))

    by : ExpectsAt T later_wire.kind p v ⊎ PartLeads T later_wire.kind p → Before (λ v. Expects T t p v 1) v
        ⊎ LeadsIn T t p
    by (inl a) = wire (wire_before_at a)
    by (inr x) = inr (subst (λ t. LeadsIn T t p) (sym e) (part_fewer (ap (shape_of T) (sym e) ∙ f) x))

-- a part that is entered
part_earlier : {T : Table} {t u : TypeId} {s : Shape} {q : List ℕ} → Earlier T t s → Enters T s.kind q u
    ⊎ PartLeads T s.kind q → ((r : Shape) × (shape_of T t ≡ Some r) × Enters T r.kind q u) ⊎ LeadsIn T t q
part_earlier {s = s} (same_before f) (inl n) = inl (s, f, n)
part_earlier (same_before f) (inr x) = inr (part_leads f x)
part_earlier {T = T} {t = t} {u = u} {q = q} (wire_before e f h) n =
    by (subst (λ (s : Shape). Enters T s.kind q u ⊎ PartLeads T s.kind q) h n)
  where
    wire : Enters T earlier_wire.kind q u ⊎ RunLeads T 0 q → ((r : Shape) × (shape_of T t ≡ Some r)
        × Enters T r.kind q u) ⊎ LeadsIn T t q
    wire (inl n) = inl (earlier_wire, f, n)
    wire (inr x) = inr (subst (λ t. LeadsIn T t q) (sym e) (run_leads x))

    by : Enters T later_wire.kind q u ⊎ PartLeads T later_wire.kind q → ((r : Shape) × (shape_of T t ≡ Some r)
        × Enters T r.kind q u) ⊎ LeadsIn T t q
    by (inl n) = wire (enters_fewer n)
    by (inr x) = inr (subst (λ t. LeadsIn T t q) (sym e) (part_fewer (ap (shape_of T) (sym e) ∙ f) x))

expects_earlier : {T U : Table} {t : TypeId} {p : List ℕ} {v : Expected} {d : ℕ} → IsWider T U → Expects U t p v d
    → Before (λ v. Expects T t p v d) v ⊎ LeadsIn T t p
expects_earlier w (in_itself e a) = itself_earlier (earlier w e) (at_earlier w a)
expects_earlier {T = T} {v = v} w (in_part {t = t} {u = u} {d = d} {p = p} {q = q} e n a) =
    by (part_earlier (earlier w e) (enters_earlier w n)) (expects_earlier w a)
  where
    by : ((r : Shape) × (shape_of T t ≡ Some r) × Enters T r.kind q u) ⊎ LeadsIn T t q
        → Before (λ v. Expects T u p v d) v ⊎ LeadsIn T u p → Before (λ v. Expects T t (q ++ p) v (suc d)) v
        ⊎ LeadsIn T t (q ++ p)
    by (inr x) r = inr (leads_longer p x)
    by (inl n) (inr x) = inr (leads_around n.1 n.2 x)
    by (inl n) (inl b) = inl (before_map (λ v a. in_part n.1 n.2 a) b)

-- behind a type number
abbrev pub LeadsTop : Table → TypeId → List ℕ → Type 0
LeadsTop T t z = LeadsOn T (BeginsPartTop T t) z

pub leads_struct : {T : Table} {t : TypeId} {s : Shape} {b : List ℕ} → shape_of T t ≡ Some s → IsStruct s.kind
    → LeadsIn T t b → LeadsTop T t b
leads_struct f i l = record {
  around = l.around;
  fields = l.fields;
  next = l.next;
  delta = l.delta;
  number = l.number;
  rest = l.rest;
  begins = in_struct f i l.begins;
  run = l.run;
  spelled = l.spelled;
  later = l.later;
  whole = l.whole;
}

leads_tagged : {T : Table} {t : TypeId} {s : Shape} {b : List ℕ} → shape_of T t ≡ Some s → ¬ IsStruct s.kind
    → LeadsIn T t b → LeadsTop T t (0 ∷ b)
leads_tagged f i l = record {
  around = 0 ∷ l.around;
  fields = l.fields;
  next = l.next;
  delta = l.delta;
  number = l.number;
  rest = l.rest;
  begins = behind_tag f i l.begins;
  run = l.run;
  spelled = l.spelled;
  later = l.later;
  whole = ap (λ b. 0 ∷ b) l.whole;
}

pub expects_top_earlier : {T U : Table} {t : TypeId} {p : List ℕ} {v : Expected} {d : ℕ} → IsWider T U
    → ExpectsTop U t p v d → Before (λ v. ExpectsTop T t p v d) v ⊎ LeadsTop T t p
expects_top_earlier {T = T} {v = v} {d = d} w (expects.in_struct {t = t} {p = p} e i a) = by (expects_earlier w a)
  where
    by : Before (λ v. Expects T t p v d) v ⊎ LeadsIn T t p → Before (λ v. ExpectsTop T t p v d) v ⊎ LeadsTop T t p
    by (inl b) = let r = is_struct_earlier (earlier w e) i in inl (before_map (λ v a. expects.in_struct r.1 r.2 a) b)
    by (inr x) = let r = is_struct_earlier (earlier w e) i in inr (leads_struct r.1 r.2 x)
expects_top_earlier w (at_tag e i) = let r = not_struct_earlier (earlier w e) i in inl (just_this (at_tag r.1 r.2))
expects_top_earlier {T = T} {v = v} {d = d} w (expects.behind_tag {t = t} {p = p} e i a) = by (expects_earlier w a)
  where
    by : Before (λ v. Expects T t p v d) v ⊎ LeadsIn T t p → Before (λ v. ExpectsTop T t (0 ∷ p) v d) v
        ⊎ LeadsTop T t (0 ∷ p)
    by (inl b) = let r = not_struct_earlier (earlier w e) i in inl (before_map (λ v a. expects.behind_tag r.1 r.2 a) b)
    by (inr x) = let r = not_struct_earlier (earlier w e) i in inr (leads_tagged r.1 r.2 x)

pub top_earlier : {T U : Table} {t : TypeId} {x : Tree} {b : List ℕ} → IsWider T U → SpellsTop U t x b
    → SpellsTop T t x b ⊎ LeadsTop T t b
top_earlier {T = T} {t = t} {x = x} w (at_once {b = b} e i p) = by (spells_earlier w p)
  where
    by : Spells T t x b ⊎ LeadsIn T t b → SpellsTop T t x b ⊎ LeadsTop T t b
    by (inl q) = let r = is_struct_earlier (earlier w e) i in inl (at_once r.1 r.2 q)
    by (inr l) = let r = is_struct_earlier (earlier w e) i in inr (leads_struct r.1 r.2 l)
top_earlier {T = T} {t = t} {x = x} w (tagged {b = b} e i p) = by (spells_earlier w p)
  where
    by : Spells T t x b ⊎ LeadsIn T t b → SpellsTop T t x (0 ∷ b) ⊎ LeadsTop T t (0 ∷ b)
    by (inl q) = let r = not_struct_earlier (earlier w e) i in inl (tagged r.1 r.2 q)
    by (inr l) = let r = not_struct_earlier (earlier w e) i in inr (leads_tagged r.1 r.2 l)
