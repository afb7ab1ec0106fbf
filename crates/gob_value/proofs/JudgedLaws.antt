-- A value describes one shape, or it fails one of the four demands first, and never both.
use Rattle.std.proofs.Common.{◌≡◌, ◌≢◌, ◌⊎◌, inl, inr, ℕ, ℤ, pos, negsuc, ◌<◌, ◌≤◌, List, [], ◌∷◌, Option, Some, None}
use Rattle.std.proofs.Common.{Result, Ok, Err, arith, refl, sym, ap, ◌∙◌, subst, eqb, true, false}
use Rattle.std.specs.Prelude.{IfErr, IsErrAnd}
use Rattle.std.proofs.lemmas.Bool.{cases_lt}
use Rattle.std.proofs.lemmas.Bool.Decides.{eqb_tells}
use Rattle.gob_types.specs.declared.id.TypeId.{TypeId}
use Rattle.gob_types.specs.declared.kind.Field.{Field}
use Rattle.gob_types.specs.declared.kind.Kind.{Kind}
use Rattle.gob_types.specs.declared.kind.Kind.TheVariants as kind
use Rattle.gob_types.specs.declared.kind.Shape.{Shape}
use Rattle.gob_types.specs.declared.reason.Reason.{Reason}
use Rattle.gob_types.specs.declared.reason.Reason.TheVariants as reason
use Rattle.gob_types.specs.Base.{gob_encoder_type}
use Rattle.gob_types.proofs.PublicLaws.{some_injective}
use Rattle.gob_value.specs.Tree.{Tree}
use Rattle.gob_value.specs.Description.{SaidField, SaidKind, said_array, said_slice, said_struct, said_map, said_opaque}
use Rattle.gob_value.specs.Description.{Said, said, RefersTo, GivesFields, no_more, and_field, GivesKind, gives_array}
use Rattle.gob_value.specs.Description.{gives_slice, gives_struct, gives_map, gives_opaque, Describes, IsBadReference}
use Rattle.gob_value.specs.Description.{HasBadField, this_field, later_field, HasBadReference, HasBadLength}
use Rattle.gob_value.specs.Description.{Misdescribes, kind_count, wrong_id, bad_reference, bad_length}
use Rattle.gob_value.specs.DescriptionLaws.{IsRefusedDescription}
use Rattle.gob_value.specs.Machine.Saying.{IsTypeNumber, HaveTypes, no_type, and_type}
use Rattle.gob_value.specs.ShapeFaults.{IsDescription, IsShapeFault, IsKind, IsKindFault}
use Rattle.gob_value.specs.declared.fault.ShapeFault.{ShapeFault}
use Rattle.gob_value.specs.declared.fault.ShapeFault.TheVariants as fault

-- the fault that a call passed on
pub fault_at : {X E : Type 0} (P : E → Type 0) (r : Result X E) (w : E) → IsErrAnd r (λ y. y ≡ w) → P w → IfErr r P
fault_at P (Ok x) w e p = absurd e
fault_at P (Err y) w e p = subst P (sym e) p

-- ---- references

pub pos_injective : {m n : ℕ} → pos m ≡ pos n → m ≡ n
pos_injective e = cc

pub one_type : {i : ℤ} {t u : TypeId} → RefersTo i t → RefersTo i u → t ≡ u
one_type {t = t} {u = u} p q = let make : ℕ
    → TypeId = λ n. record { 0 = n } in ap make (pos_injective (sym p.number ∙ q.number))

-- a number refers to a type, or to none
pub refers_or_not : (i : ℤ) → IsTypeNumber i ⊎ IsBadReference i
refers_or_not (negsuc n) = inr (λ t r. let e : negsuc n ≡ pos t.0 = r.number in cc)
refers_or_not (pos n) = by (cases_lt 0 n) (cases_lt 2147483647 n) (eqb_tells n 24)
  where
    number : {t : TypeId} → RefersTo (pos n) t → t.0 ≡ n
    number r = sym (pos_injective r.number)

    same : (t : TypeId) → t.0 ≡ 24 → t ≡ gob_encoder_type
    same t e = let make : ℕ → TypeId = λ n. record { 0 = n } in ap make e

    by : (0 < n) ⊎ (n ≤ 0) → (2147483647 < n) ⊎ (n ≤ 2147483647)
        → ((eqb n 24 ≡ true) × (n ≡ 24)) ⊎ ((eqb n 24 ≡ false) × (n ≢ 24))
        → IsTypeNumber (pos n) ⊎ IsBadReference (pos n)
    by (inr low) b c = inr (λ t r. let e = number r in let l = r.reference.0 in absurd (omega arith))
    by (inl l) (inl high) c = inr (λ t r. let e = number r in let l = r.reference.1 in absurd (omega arith))
    by (inl l) (inr h) (inl e) = inr (λ t r. r.reference.2 (same t (number r ∙ e.1)))
    by (inl l) (inr h) (inr e) = inl (record {
      type = record { 0 = n };
      refers = record
          { number = refl; reference = (omega arith, h, λ f. e.1 (ap (λ (t : TypeId). t.0) f)) };
    })

pub have_or_bad : (fs : List SaidField) → HaveTypes fs ⊎ HasBadField fs
have_or_bad [] = inl no_type
have_or_bad (f ∷ fs) = by (refers_or_not f.id) (have_or_bad fs)
  where
    by : IsTypeNumber f.id ⊎ IsBadReference f.id → HaveTypes fs ⊎ HasBadField fs
        → HaveTypes (f ∷ fs) ⊎ HasBadField (f ∷ fs)
    by (inl p) (inl ps) = inl (and_type p ps)
    by (inr b) _ = inr (this_field b)
    by (inl p) (inr b) = inr (later_field b)

pub bad_field : (fs : List SaidField) → ¬ HaveTypes fs → HasBadField fs
bad_field fs n = by (have_or_bad fs)
  where
    by : HaveTypes fs ⊎ HasBadField fs → HasBadField fs
    by (inl p) = absurd (n p)
    by (inr b) = b

-- fields that have types give fields
pub record AreFields (fs : List SaidField) : Type 0 where
  pub fields : List Field
  pub gives : GivesFields fs fields

pub fields_given : {fs : List SaidField} → HaveTypes fs → AreFields fs
fields_given no_type = record { fields = []; gives = no_more }
fields_given (and_type {f = f} p ps) =
    let rest = fields_given ps in
    let first : Field = record { name = f.name; id = p.type } in
    record { fields = first ∷ rest.fields; gives = and_field refl p.refers rest.gives }

pub struct_given : {fs : List SaidField} → HaveTypes fs → IsKind (said_struct fs)
struct_given h = let all = fields_given h in record { kind = kind.Struct all.fields; gives = gives_struct all.gives }

-- ---- what gives a kind has no fault

fields_good : {fs : List SaidField} {gs : List Field} → GivesFields fs gs → ¬ HasBadField fs
fields_good no_more h = elim h [ ]
fields_good (and_field e r g) (this_field bad) = bad _ r
fields_good (and_field e r g) (later_field bad) = fields_good g bad

pub good_references : {k : SaidKind} {g : Kind} → GivesKind k g → ¬ HasBadReference k
good_references (gives_array r l) bad = bad _ r
good_references (gives_slice r) bad = bad _ r
good_references (gives_struct g) bad = fields_good g bad
good_references (gives_map p q) (inl bad) = bad _ p
good_references (gives_map p q) (inr bad) = bad _ q
good_references gives_opaque bad = bad

pub good_length : {k : SaidKind} {g : Kind} → GivesKind k g → ¬ HasBadLength k
good_length (gives_array {e = e} r l) bad = subst (λ l. ¬ HasBadLength (said_array e l)) (sym l) (λ h. h) bad
good_length _ bad = bad

-- ---- one shape, or one reason

pub one_said : {o : Option Said} {a b : Said} → o ≡ Some a → o ≡ Some b → a ≡ b
one_said e f = some_injective (sym e ∙ f)

fields_once : {fs : List SaidField} {gs hs : List Field} → GivesFields fs gs → GivesFields fs hs → gs ≡ hs
fields_once no_more no_more = refl
fields_once (and_field {g = g} d p ps) (and_field {g = h} e q qs) =
    let name : g.name ≡ h.name = sym d ∙ e in let id : g.id ≡ h.id = one_type p q in let same : g ≡ h = both name id in
    let rest = fields_once ps qs in cc
  where
    both : {g h : Field} → g.name ≡ h.name → g.id ≡ h.id → g ≡ h
    both {g = g} {h = h} d e = let make : List ℕ → TypeId
        → Field = λ name id. record { name = name; id = id } in ap (λ n. make n g.id) d ∙ ap (make h.name) e

kind_once : {k : SaidKind} {g h : Kind} → GivesKind k g → GivesKind k h → g ≡ h
kind_once (gives_array p l) (gives_array q m) = let e = one_type p q in let n = pos_injective (sym l ∙ m) in cc
kind_once (gives_slice p) (gives_slice q) = ap kind.Slice (one_type p q)
kind_once (gives_struct p) (gives_struct q) = ap kind.Struct (fields_once p q)
kind_once (gives_map p r) (gives_map q s) = let k = one_type p q in let e = one_type r s in cc
kind_once gives_opaque gives_opaque = refl

pub one_shape : {id : TypeId} {v : Tree} {s r : Shape} → Describes id v s → Describes id v r → s ≡ r
one_shape {s = s} {r = r} d e =
    let same = one_said d.says e.says in
    both (d.name ∙ ap (λ (w : Said). w.name) same ∙ sym e.name)
    (kind_once (subst (λ (w : Said). GivesKind w.kind s.kind) same d.kind) e.kind)
  where
    both : {s r : Shape} → s.name ≡ r.name → s.kind ≡ r.kind → s ≡ r
    both {s = s} {r = r} d e = let make : List ℕ → Kind
        → Shape = λ name kind. record { name = name; kind = kind } in ap (λ n. make n s.kind) d ∙ ap (make r.name) e

pub not_both : {id : TypeId} {v : Tree} {s : Shape} {r : Reason} → Describes id v s → ¬ Misdescribes id v r
not_both d (kind_count e) = let f = d.says in cc
not_both d (wrong_id e n) = n (ap (λ (w : Said). w.id) (one_said e d.says) ∙ d.same_id)
not_both d (bad_reference e i bad) = good_references d.kind
    (subst (λ (w : Said). HasBadReference w.kind) (one_said e d.says) bad)
not_both d (bad_length e i n bad) = good_length d.kind
    (subst (λ (w : Said). HasBadLength w.kind) (one_said e d.says) bad)

-- a demand that fails, and a later one that fails first, are not of one value
none_or_some : {o : Option Said} {w : Said} {A : Type 0} → o ≡ None → o ≡ Some w → A
none_or_some e f = cc

id_or_not : {o : Option Said} {w x : Said} {i : ℤ} {A : Type 0} → o ≡ Some w → o ≡ Some x → w.id ≢ i → x.id ≡ i → A
id_or_not e f n i = absurd (n (ap (λ (w : Said). w.id) (one_said e f) ∙ i))

good_or_bad : {o : Option Said} {w x : Said} {A : Type 0} → o ≡ Some w → o ≡ Some x → HasBadReference w.kind
    → ¬ HasBadReference x.kind → A
good_or_bad e f bad good = absurd (good (subst (λ (w : Said). HasBadReference w.kind) (one_said e f) bad))

pub one_reason : {id : TypeId} {v : Tree} {r q : Reason} → Misdescribes id v r → Misdescribes id v q → r ≡ q
one_reason (kind_count e) (kind_count f) = refl
one_reason (kind_count e) (wrong_id f n) = none_or_some e f
one_reason (kind_count e) (bad_reference f i b) = none_or_some e f
one_reason (kind_count e) (bad_length f i g b) = none_or_some e f
one_reason (wrong_id e n) (kind_count f) = none_or_some f e
one_reason (wrong_id e n) (wrong_id f m) = refl
one_reason (wrong_id e n) (bad_reference f i b) = id_or_not e f n i
one_reason (wrong_id e n) (bad_length f i g b) = id_or_not e f n i
one_reason (bad_reference e i b) (kind_count f) = none_or_some f e
one_reason (bad_reference e i b) (wrong_id f n) = id_or_not f e n i
one_reason (bad_reference e i b) (bad_reference f j c) = refl
one_reason (bad_reference e i b) (bad_length f j g c) = good_or_bad e f b g
one_reason (bad_length e i g b) (kind_count f) = none_or_some f e
one_reason (bad_length e i g b) (wrong_id f n) = id_or_not f e n i
one_reason (bad_length e i g b) (bad_reference f j c) = good_or_bad f e c g
one_reason (bad_length e i g b) (bad_length f j h c) = refl

-- ---- what the kind's fault is of the whole

pub some_shape : (id : TypeId) (v : Tree) (what : Said) (g : Kind) → said v ≡ Some what → what.id ≡ pos id.0
    → GivesKind what.kind g → IsDescription id v
some_shape id v what g e i p = record {
  shape = record { name = what.name; kind = g };
  describes = record
      { what = what; says = e; same_id = i; name = refl; kind = p };
}

pub kind_fault : (id : TypeId) (v : Tree) (what : Said) (f : ShapeFault) → said v ≡ Some what → what.id ≡ pos id.0
    → IsKindFault what.kind f → IsShapeFault id v f
kind_fault id v what fault.KindCount e i p = absurd p
kind_fault id v what fault.WrongId e i p = absurd p
kind_fault id v what fault.BadReference e i p = bad_reference e i p
kind_fault id v what fault.BadLength e i p = bad_length e i p.0 p.1
kind_fault id v what fault.Memory e i p = some_shape id v what p.kind e i p.gives

-- ---- each value is judged

-- what is said is some kind, or why not
abbrev KindJudged : SaidKind → Type 0
KindJudged k = IsKind k ⊎ (HasBadReference k ⊎ (¬ HasBadReference k × HasBadLength k))

kind_judged : (k : SaidKind) → KindJudged k
kind_judged (said_array e l) = by l (refers_or_not e)
  where
    by : (l : ℤ) → IsTypeNumber e ⊎ IsBadReference e → KindJudged (said_array e l)
    by (pos n) (inl p) = inl (record { kind = kind.Array p.type n; gives = gives_array p.refers refl })
    by (negsuc n) (inl p) = inr (inr (λ bad. bad _ p.refers, tt))
    by l (inr bad) = inr (inl bad)
kind_judged (said_slice e) = by (refers_or_not e)
  where
    by : IsTypeNumber e ⊎ IsBadReference e → KindJudged (said_slice e)
    by (inl p) = inl (record { kind = kind.Slice p.type; gives = gives_slice p.refers })
    by (inr bad) = inr (inl bad)
kind_judged (said_struct fs) = by (have_or_bad fs)
  where
    by : HaveTypes fs ⊎ HasBadField fs → KindJudged (said_struct fs)
    by (inl p) = inl (struct_given p)
    by (inr bad) = inr (inl bad)
kind_judged (said_map k e) = by (refers_or_not k) (refers_or_not e)
  where
    by : IsTypeNumber k ⊎ IsBadReference k → IsTypeNumber e ⊎ IsBadReference e → KindJudged (said_map k e)
    by (inl p) (inl q) = inl (record { kind = kind.Map p.type q.type; gives = gives_map p.refers q.refers })
    by (inr bad) _ = inr (inl (inl bad))
    by (inl p) (inr bad) = inr (inl (inr bad))
kind_judged (said_opaque m) = inl (record { kind = kind.Opaque m; gives = gives_opaque })

same_number : (i : ℤ) (n : ℕ) → (i ≡ pos n) ⊎ (i ≢ pos n)
same_number (negsuc m) n = inr (λ e. cc)
same_number (pos m) n = by (eqb_tells m n)
  where
    by : ((eqb m n ≡ true) × (m ≡ n)) ⊎ ((eqb m n ≡ false) × (m ≢ n)) → (pos m ≡ pos n) ⊎ (pos m ≢ pos n)
    by (inl e) = inl (ap pos e.1)
    by (inr e) = inr (λ f. e.1 (pos_injective f))

pub judged : (id : TypeId) (v : Tree) → IsDescription id v ⊎ IsRefusedDescription id v
judged id v = by (said v) refl
  where
    kind_by : (what : Said) → said v ≡ Some what → what.id ≡ pos id.0 → KindJudged what.kind
        → IsDescription id v ⊎ IsRefusedDescription id v
    kind_by what e i (inl p) = inl (some_shape id v what p.kind e i p.gives)
    kind_by what e i (inr (inl bad)) = inr (record { reason = reason.BadReference; refused = bad_reference e i bad })
    kind_by what e i (inr (inr bad)) = inr (record { reason = reason.BadLength; refused = bad_length e i bad.0 bad.1 })

    id_by : (what : Said) → said v ≡ Some what → (what.id ≡ pos id.0) ⊎ (what.id ≢ pos id.0)
        → IsDescription id v ⊎ IsRefusedDescription id v
    id_by what e (inl i) = kind_by what e i (kind_judged what.kind)
    id_by what e (inr n) = inr (record { reason = reason.WrongId; refused = wrong_id e n })

    by : (o : Option Said) → said v ≡ o → IsDescription id v ⊎ IsRefusedDescription id v
    by None e = inr (record { reason = reason.KindCount; refused = kind_count e })
    by (Some what) e = id_by what e (same_number what.id id.0)
