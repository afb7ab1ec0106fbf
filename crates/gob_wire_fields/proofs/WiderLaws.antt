-- A table whose wireType has its later fields, beside one whose wireType has the earlier ones alone: all else is the
-- same.
use Rattle.std.proofs.Common.{◌≡◌, ◌≢◌, ℕ, zero, suc, ◌⊎◌, inl, inr, true, false, List, ◌++◌, length, Option, Some}
use Rattle.std.proofs.Common.{None, arith, refl, sym, ap, ◌∙◌, subst, eqb, length-append}
use Rattle.std.specs.Prelude.{codes, slice_get}
use Rattle.std.proofs.lemmas.Bool.Decides.{eqb_tells}
use Rattle.gob_types.specs.declared.id.TypeId.{TypeId}
use Rattle.gob_types.specs.declared.kind.Field.{Field}
use Rattle.gob_types.specs.declared.kind.Kind.TheVariants as kind
use Rattle.gob_types.specs.declared.kind.Shape.{Shape}
use Rattle.gob_types.specs.Base.{base_table, wire_type, wire_type_fields, id}
use Rattle.gob_wire_fields.specs.BaseTable.{earlier_base_table, earlier_wire_type_fields}
use Rattle.gob_types.specs.Table.{Table, shape_of, IsDefined}
use Rattle.gob_types.specs.Ready.{Names, HasFieldOf, Leads, here, onward, Reaches, HasRank, plain, filled, IsGrounded}
use Rattle.gob_types.specs.Ready.{IsReady}
use Rattle.gob_types.proofs.PublicLaws.{some_injective, shape_of-append, shape_of-append_new}
use Rattle.gob_stream.proofs.PublicLaws.{same_id}

abbrev pub earlier_wire : Shape
earlier_wire = record { name = codes "wireType"; kind = kind.Struct earlier_wire_type_fields }

abbrev pub later_wire : Shape
later_wire = record { name = codes "wireType"; kind = kind.Struct wire_type_fields }

pub record IsWider (T U : Table) : Type 0 where
  pub before : shape_of T wire_type ≡ Some earlier_wire
  pub now : shape_of U wire_type ≡ Some later_wire
  pub other : (t : TypeId) → t ≢ wire_type → shape_of U t ≡ shape_of T t
  pub size : length U ≡ length T

-- ---- a type in both

wire_or_not : (t : TypeId) → (t ≡ wire_type) ⊎ (t ≢ wire_type)
wire_or_not t = by (eqb_tells t.0 16)
  where
    by : ((eqb t.0 16 ≡ true) × (t.0 ≡ 16)) ⊎ ((eqb t.0 16 ≡ false) × (t.0 ≢ 16)) → (t ≡ wire_type) ⊎ (t ≢ wire_type)
    by (inl h) = inl (same_id h.1)
    by (inr h) = inr (λ e. h.1 (ap (λ (t : TypeId). t.0) e))

-- the shape that the first table has, in the second
pub data Later (U : Table) (t : TypeId) (s : Shape) : Type 0 where
  same_shape : shape_of U t ≡ Some s → Later U t s
  wire_shape : t ≡ wire_type → shape_of U t ≡ Some later_wire → s ≡ earlier_wire → Later U t s

-- and the one that the second has, in the first
pub data Earlier (T : Table) (t : TypeId) (s : Shape) : Type 0 where
  same_before : shape_of T t ≡ Some s → Earlier T t s
  wire_before : t ≡ wire_type → shape_of T t ≡ Some earlier_wire → s ≡ later_wire → Earlier T t s

pub later : {T U : Table} {t : TypeId} {s : Shape} → IsWider T U → shape_of T t ≡ Some s → Later U t s
later {T = T} {U = U} {t = t} {s = s} w found = by (wire_or_not t)
  where
    by : (t ≡ wire_type) ⊎ (t ≢ wire_type) → Later U t s
    by (inl e) = wire_shape e (ap (shape_of U) e ∙ w.now) (some_injective (sym found ∙ ap (shape_of T) e ∙ w.before))
    by (inr n) = same_shape (w.other t n ∙ found)

pub earlier : {T U : Table} {t : TypeId} {s : Shape} → IsWider T U → shape_of U t ≡ Some s → Earlier T t s
earlier {T = T} {U = U} {t = t} {s = s} w found = by (wire_or_not t)
  where
    by : (t ≡ wire_type) ⊎ (t ≢ wire_type) → Earlier T t s
    by (inl e) = wire_before e (ap (shape_of T) e ∙ w.before) (some_injective (sym found ∙ ap (shape_of U) e ∙ w.now))
    by (inr n) = same_before (sym (w.other t n) ∙ found)

-- what isn't there in one isn't there in the other
none_at_wire : {o : Option Shape} {s : Shape} → o ≡ Some s → o ≡ None → ⊥
none_at_wire e f = let h = sym e ∙ f in cc

pub none_later : {T U : Table} (t : TypeId) → IsWider T U → shape_of T t ≡ None → shape_of U t ≡ None
none_later {T = T} {U = U} t w e = by (wire_or_not t)
  where
    by : (t ≡ wire_type) ⊎ (t ≢ wire_type) → shape_of U t ≡ None
    by (inl h) = absurd (none_at_wire (ap (shape_of T) h ∙ w.before) e)
    by (inr n) = w.other t n ∙ e

pub none_earlier : {T U : Table} (t : TypeId) → IsWider T U → shape_of U t ≡ None → shape_of T t ≡ None
none_earlier {T = T} {U = U} t w e = by (wire_or_not t)
  where
    by : (t ≡ wire_type) ⊎ (t ≢ wire_type) → shape_of T t ≡ None
    by (inl h) = absurd (none_at_wire (ap (shape_of U) h ∙ w.now) e)
    by (inr n) = sym (w.other t n) ∙ e

pub defined_later : {T U : Table} (t : TypeId) → IsWider T U → IsDefined T t → IsDefined U t
defined_later {U = U} t w d = by (later w d.1)
  where
    by : {s : Shape} → Later U t s → IsDefined U t
    by {s = s} (same_shape f) = (s, f)
    by (wire_shape e f h) = (later_wire, f)

pub defined_earlier : {T U : Table} (t : TypeId) → IsWider T U → IsDefined U t → IsDefined T t
defined_earlier {T = T} t w d = by (earlier w d.1)
  where
    by : {s : Shape} → Earlier T t s → IsDefined T t
    by {s = s} (same_before f) = (s, f)
    by (wire_before e f h) = (earlier_wire, f)

-- ---- the fields of wireType

pub field_later : (f : ℕ) (e : Field) → slice_get earlier_wire_type_fields f ≡ Some e
    → slice_get wire_type_fields f ≡ Some e
field_later zero e h = h
field_later (suc zero) e h = h
field_later (suc (suc zero)) e h = h
field_later (suc (suc (suc zero))) e h = h
field_later (suc (suc (suc (suc zero)))) e h = h
field_later (suc (suc (suc (suc (suc f))))) e h = cc

pub field_earlier : (f : ℕ) (e : Field) → slice_get wire_type_fields f ≡ Some e
    → (slice_get earlier_wire_type_fields f ≡ Some e) ⊎ ((f ≡ 5) ⊎ (f ≡ 6))
field_earlier zero e h = inl h
field_earlier (suc zero) e h = inl h
field_earlier (suc (suc zero)) e h = inl h
field_earlier (suc (suc (suc zero))) e h = inl h
field_earlier (suc (suc (suc (suc zero)))) e h = inl h
field_earlier (suc (suc (suc (suc (suc zero))))) e h = inr (inl refl)
field_earlier (suc (suc (suc (suc (suc (suc zero)))))) e h = inr (inr refl)
field_earlier (suc (suc (suc (suc (suc (suc (suc f))))))) e h = cc

-- they name the same types: the last three fields all name type 24
names_later : {u : TypeId} → Names earlier_wire.kind u → Names later_wire.kind u
names_later h = record {
  number = h.number;
  field = h.field;
  there = field_later h.number h.field h.there;
  type =
      h.type;
}

names_earlier : {u : TypeId} → Names later_wire.kind u → Names earlier_wire.kind u
names_earlier {u = u} h = by (field_earlier h.number h.field h.there) h.there
  where
    last : (k : Field) → k.id ≡ id 24 → HasFieldOf earlier_wire_type_fields (id 24) → h.field ≡ k
        → HasFieldOf earlier_wire_type_fields u
    last k i g e = subst (HasFieldOf earlier_wire_type_fields) (sym (sym h.type ∙ ap (λ (f : Field). f.id) e ∙ i)) g

    fourth : HasFieldOf earlier_wire_type_fields (id 24)
    fourth = record { number = 4; field = _; there = refl; type = refl }

    by : (slice_get earlier_wire_type_fields h.number ≡ Some h.field) ⊎ ((h.number ≡ 5) ⊎ (h.number ≡ 6))
        → slice_get wire_type_fields h.number ≡ Some h.field → HasFieldOf earlier_wire_type_fields u
    by (inl g) at = record { number = h.number; field = h.field; there = g; type = h.type }
    by (inr (inl e)) at = last _ refl fourth (some_injective (sym at ∙ ap (slice_get wire_type_fields) e))
    by (inr (inr e)) at = last _ refl fourth (some_injective (sym at ∙ ap (slice_get wire_type_fields) e))

-- ---- readiness

pub leads_later : {T U : Table} {n : ℕ} {t u : TypeId} → IsWider T U → Leads T n t u → Leads U n t u
leads_later w here = here
leads_later {U = U} {u = u} w (onward {n = n} {t = t} {w = x} {s = s} e names rest) =
    by (later w e) (leads_later w rest)
  where
    by : Later U t s → Leads U n x u → Leads U (suc n) t u
    by (same_shape f) l = onward f names l
    by (wire_shape q f h) l = onward f (names_later (subst (λ (s : Shape). Names s.kind x) h names)) l

pub leads_earlier : {T U : Table} {n : ℕ} {t u : TypeId} → IsWider T U → Leads U n t u → Leads T n t u
leads_earlier w here = here
leads_earlier {T = T} {u = u} w (onward {n = n} {t = t} {w = x} {s = s} e names rest) =
    by (earlier w e) (leads_earlier w rest)
  where
    by : Earlier T t s → Leads T n x u → Leads T (suc n) t u
    by (same_before f) l = onward f names l
    by (wire_before q f h) l = onward f (names_earlier (subst (λ (s : Shape). Names s.kind x) h names)) l

pub reaches_later : {T U : Table} {t u : TypeId} → IsWider T U → Reaches T t u → Reaches U t u
reaches_later w h = record { steps = h.steps; leads = leads_later w h.leads }

pub reaches_earlier : {T U : Table} {t u : TypeId} → IsWider T U → Reaches U t u → Reaches T t u
reaches_earlier w h = record { steps = h.steps; leads = leads_earlier w h.leads }

no_array : {s r : Shape} {fs : List Field} {e : TypeId} {n : ℕ} → s ≡ r → r.kind ≡ kind.Struct fs
    → s.kind ≡ kind.Array e n → ⊥
no_array h k a = let z = sym k ∙ ap (λ (s : Shape). s.kind) (sym h) ∙ a in cc

pub rank_later : {T U : Table} {r : ℕ} {t : TypeId} → IsWider T U → HasRank T r t → HasRank U r t
rank_later {U = U} {t = t} w (plain {s = s} e p) = by (later w e)
  where
    by : Later U t s → HasRank U zero t
    by (same_shape f) = plain f p
    by (wire_shape q f h) = plain f (λ x. x)
rank_later {U = U} {t = t} w (filled {rank = r} {n = n} {e = e} {s = s} found k p h) =
    by (later w found) (rank_later w h)
  where
    by : Later U t s → HasRank U r e → HasRank U (suc r) t
    by (same_shape f) l = filled f k p l
    by (wire_shape q f g) l = absurd (no_array g refl k)

pub rank_earlier : {T U : Table} {r : ℕ} {t : TypeId} → IsWider T U → HasRank U r t → HasRank T r t
rank_earlier {T = T} {t = t} w (plain {s = s} e p) = by (earlier w e)
  where
    by : Earlier T t s → HasRank T zero t
    by (same_before f) = plain f p
    by (wire_before q f h) = plain f (λ x. x)
rank_earlier {T = T} {t = t} w (filled {rank = r} {n = n} {e = e} {s = s} found k p h) =
    by (earlier w found) (rank_earlier w h)
  where
    by : Earlier T t s → HasRank T r e → HasRank T (suc r) t
    by (same_before f) l = filled f k p l
    by (wire_before q f g) l = absurd (no_array g refl k)

pub grounded_later : {T U : Table} {t : TypeId} → IsWider T U → IsGrounded T t → IsGrounded U t
grounded_later w g = record { rank = g.rank; has = rank_later w g.has }

pub grounded_earlier : {T U : Table} {t : TypeId} → IsWider T U → IsGrounded U t → IsGrounded T t
grounded_earlier w g = record { rank = g.rank; has = rank_earlier w g.has }

pub ready_later : {T U : Table} {t : TypeId} → IsWider T U → IsReady T t → IsReady U t
ready_later w r u h = let b = r u (reaches_earlier w h) in (defined_later u w b.0, grounded_later w b.1)

pub ready_earlier : {T U : Table} {t : TypeId} → IsWider T U → IsReady U t → IsReady T t
ready_earlier w r u h = let b = r u (reaches_later w h) in (defined_earlier u w b.0, grounded_earlier w b.1)

-- ---- the tables of a stream

pub base_wider : IsWider earlier_base_table base_table
base_wider = record { before = refl; now = refl; other = others; size = refl }
  where
    others : (t : TypeId) → t ≢ wire_type → shape_of base_table t ≡ shape_of earlier_base_table t
    others t n = by (eqb_tells 16 t.0)
      where
        by : ((eqb 16 t.0 ≡ true) × (16 ≡ t.0)) ⊎ ((eqb 16 t.0 ≡ false) × (16 ≢ t.0))
            → shape_of base_table t ≡ shape_of earlier_base_table t
        by (inl h) = absurd (n (same_id (sym h.1)))
        by (inr h) = rw h.0 refl

shape_or_none : (T : Table) (t : TypeId) → ((s : Shape) × (shape_of T t ≡ Some s)) ⊎ (shape_of T t ≡ None)
shape_or_none T t = by (shape_of T t) refl
  where
    by : (o : Option Shape) → shape_of T t ≡ o → ((s : Shape) × (shape_of T t ≡ Some s)) ⊎ (shape_of T t ≡ None)
    by None e = inr e
    by (Some s) e = inl (s, e)

-- with the same definitions behind both
pub more_wider : {T U : Table} (more : Table) → IsWider T U → IsWider (T ++ more) (U ++ more)
more_wider {T = T} {U = U} more w = record {
  before = shape_of-append T more wire_type earlier_wire w.before;
  now = shape_of-append U more wire_type later_wire w.now;
  other = others;
  size = let s = w.size in omega (arith, length-append T more, length-append U more);
}
  where
    others : (t : TypeId) → t ≢ wire_type → shape_of (U ++ more) t ≡ shape_of (T ++ more) t
    others t n = by (shape_or_none T t)
      where
        by : ((s : Shape) × (shape_of T t ≡ Some s)) ⊎ (shape_of T t ≡ None) → shape_of (U ++ more) t ≡ shape_of (T
            ++ more) t
        by (inl h) = shape_of-append U more t h.0 (w.other t n ∙ h.1) ∙ sym (shape_of-append T more t h.0 h.1)
        by (inr h) = shape_of-append_new U more t (w.other t n ∙ h) ∙ sym (shape_of-append_new T more t h)
