-- A shape that a value of wireType describes may be defined.
use Rattle.std.proofs.Common.{◌≡◌, ◌⊎◌, inl, inr, ◌≢◌, ℕ, zero, suc, ℤ, Bool, true, false, cond, eqb, List, Option}
use Rattle.std.proofs.Common.{Some, None, arith, refl, sym, ap, ◌∙◌, subst, FitsSigned, w64}
use Rattle.std.specs.Prelude.{slice_get}
use Rattle.std.proofs.lemmas.Bool.{eqb-true, eq-eqb}
use Rattle.std.proofs.lemmas.Bool.Decides.{eqb_tells}
use Rattle.std.proofs.lemmas.Int.{ints}
use Rattle.gob_num.proofs.PublicLaws.{signed_fits}
use Rattle.gob_types.specs.declared.id.TypeId.{TypeId}
use Rattle.gob_types.specs.declared.basic.Basic.TheVariants as basic
use Rattle.gob_types.specs.declared.kind.Field.{Field}
use Rattle.gob_types.specs.declared.kind.Kind.{Kind}
use Rattle.gob_types.specs.declared.kind.Kind.TheVariants as kind
use Rattle.gob_types.specs.declared.kind.Marshal.TheVariants as marshal
use Rattle.gob_types.specs.declared.kind.Shape.{Shape}
use Rattle.gob_types.specs.Base.{base_table, wire_type, wire_type_fields, id}
use Rattle.gob_types.specs.Definable.{IsReference, IsDefinable, HasLength}
use Rattle.gob_types.specs.Ready.{Names}
use Rattle.gob_types.specs.Table.{Table, shape_of}
use Rattle.gob_types.proofs.PublicLaws.{some_injective}
use Rattle.gob_value.specs.Tree.{Tree, Fields, no_field, field}
use Rattle.gob_value.specs.Spelling.{Spells, of_type, SpellsAs, of_int, of_struct, SpellsFields, end_of_fields}
use Rattle.gob_value.specs.Spelling.{next_field}
use Rattle.gob_value.specs.Fits.{Fits}
use Rattle.gob_value.specs.Description.{present_field, number_in, fields_in, said, said_kind, said_with, Said}
use Rattle.gob_value.specs.Description.{SaidField}
use Rattle.gob_value.specs.Description.{SaidKind, said_array, said_opaque, GivesFields, no_more, and_field, GivesKind}
use Rattle.gob_value.specs.Description.{gives_array, gives_slice, gives_struct, gives_map, gives_opaque, Describes}

-- ---- references

fields_refer : {fs : List SaidField} {gs : List Field} → GivesFields fs gs → (n : ℕ) (g : Field)
    → slice_get gs n ≡ Some g → IsReference g.id
fields_refer no_more n g there = cc
fields_refer (and_field e r gs) zero g there = subst (λ (g : Field). IsReference g.id) (some_injective there)
    r.reference
fields_refer (and_field e r gs) (suc n) g there = fields_refer gs n g there

kind_refers : {k : SaidKind} {g : Kind} → GivesKind k g → (u : TypeId) → Names g u → IsReference u
kind_refers (gives_array r l) u e = subst IsReference e r.reference
kind_refers (gives_slice r) u e = subst IsReference e r.reference
kind_refers (gives_struct gs) u h = subst IsReference h.type (fields_refer gs h.number h.field h.there)
kind_refers (gives_map p q) u (inl e) = subst IsReference e p.reference
kind_refers (gives_map p q) u (inr e) = subst IsReference e q.reference
kind_refers gives_opaque u h = absurd h

-- ---- lengths

-- a value of a struct type has fields, each of its type
pub record HasFields (T : Table) (types : List Field) (v : Tree) : Type 0 where
  pub fields : Fields
  pub are : v ≡ Tree.fields fields
  pub bytes : List ℕ
  pub spelled : SpellsFields T types 0 fields bytes

struct_back : {T : Table} {types : List Field} {v : Tree} {b : List ℕ} → SpellsAs T (kind.Struct types) v b
    → HasFields T types v
struct_back {b = b} (of_struct {fs = fs} p) = record { fields = fs; are = refl; bytes = b; spelled = p }

type_back : {T : Table} {t : TypeId} {v : Tree} {b : List ℕ} (s : Shape) → Spells T t v b → shape_of T t ≡ Some s
    → SpellsAs T s.kind v b
type_back {T = T} {v = v} {b = b} s (of_type f p) e = subst (λ (s : Shape). SpellsAs T s.kind v b)
    (some_injective (sym f ∙ e)) p

-- a present field is of its type
present_back : {T : Table} {types : List Field} {next : ℕ} {fs : Fields} {b : List ℕ} → SpellsFields T types next fs b
    → (n : ℕ) (e : Field) (v : Tree) → slice_get types n ≡ Some e → present_field n fs ≡ Some v → Fits T e.id v
present_back (end_of_fields p) n e v there is = cc
present_back {T = T} {types = types} (next_field {f = f} {e = d} {v = w} {fs = fs} {b = b} l m p q ps) n e v there is =
    by (eqb_tells f n) (present_back ps n e v there)
  where
    by : ((eqb f n ≡ true) × (f ≡ n)) ⊎ ((eqb f n ≡ false) × (f ≢ n)) → (present_field n fs ≡ Some v → Fits T e.id v)
        → Fits T e.id v
    by (inl h) rest =
        let same : w ≡ v = some_injective (rw h.0 at is) in
        let type : d ≡ e = some_injective (sym m ∙ ap (slice_get types) h.1 ∙ there) in
        record {
          bytes = b;
          spelled = subst (λ (v : Tree). Spells T e.id v b) same
              (subst (λ (e : Field). Spells T e.id w b) type q);
        }
    by (inr h) rest = rest (rw h.0 at is)

-- a signed number is small
int_back : {T : Table} {v : Tree} {b : List ℕ} → SpellsAs T (kind.Basic basic.Int) v b
    → FitsSigned w64 (number_in (Some v))
int_back (of_int p) = signed_fits p

-- the number in a field of type 2
number_back : {types : List Field} {next : ℕ} {fs : Fields} {b : List ℕ} → SpellsFields base_table types next fs b
    → (n : ℕ) (e : Field) → slice_get types n ≡ Some e → e.id ≡ id 2 → FitsSigned w64 (number_in (present_field n fs))
number_back {fs = fs} p n e there type = by (present_field n fs) refl
  where
    by : (o : Option Tree) → present_field n fs ≡ o → FitsSigned w64 (number_in o)
    by None is = omega (arith, ints)
    by (Some v) is =
        let fit = present_back p n e v there is in
        int_back (type_back _ (subst (λ (t : TypeId). Spells base_table t v fit.bytes) type fit.spelled) refl)

-- the last fields of wireType say no array
opaque_said : {elem len : ℤ} (a b c : Bool)
    → cond a (Some (said_opaque marshal.Gob)) (cond b (Some (said_opaque marshal.Binary))
    (cond c (Some (said_opaque marshal.Text)) None)) ≡ Some (said_array elem len) → ⊥
opaque_said false false true h = cc
opaque_said _ _ _ h = cc

-- an array is what field 0 says
array_said : (a b c d : Bool) (f : ℕ) (fs : Fields) (elem len : ℤ) → eqb f 0 ≡ a → eqb f 1 ≡ b → eqb f 2 ≡ c
    → eqb f 3 ≡ d → said_kind f fs ≡ Some (said_array elem len) → (f ≡ 0) × (number_in (present_field 2 fs) ≡ len)
array_said true b c d f fs elem len p q r s h = let g = rw p at h in (eqb-true f 0 p, cc)
array_said false true c d f fs elem len p q r s h = let g = rw (p, q) at h in cc
array_said false false true d f fs elem len p q r s h = let g = rw (p, q, r) at h in cc
array_said false false false true f fs elem len p q r s h = let g = rw (p, q, r, s) at h in cc
array_said false false false false f fs elem len p q r s h = let g = rw (p, q, r, s) at h in absurd
    (opaque_said (eqb f 4) (eqb f 5) (eqb f 6) g)

kind_of : (common : Fields) (o : Option SaidKind) (w : Said) → said_with common o ≡ Some w → o ≡ Some w.kind
kind_of common None w e = cc
kind_of common (Some k) w e = ap (λ (w : Said). Some w.kind) (some_injective e)

-- the number at an array's Len
length_fits : (v : Tree) (w : Said) (elem len : ℤ) → Fits base_table wire_type v → said v ≡ Some w
    → w.kind ≡ said_array elem len → FitsSigned w64 len
length_fits v w elem len fit says is =
    let whole = struct_back (type_back _ fit.spelled refl) in
    by whole.fields whole.spelled (ap said (sym whole.are) ∙ says)
  where
    -- the fields of the arrayType
    within : (f : ℕ) (g : Tree) (b : List ℕ) → SpellsFields base_table wire_type_fields 0 (field f g no_field) b
        → (f ≡ 0) × (number_in (present_field 2 (fields_in (Some g))) ≡ len) → FitsSigned w64 len
    within f g b p array =
        let here : present_field 0 (field f g no_field) ≡ Some g = rw (eq-eqb f 0 array.0) refl in
        let fit = present_back p 0 _ g refl here in
        let inner = struct_back (type_back _ fit.spelled refl) in
        let number = number_back inner.spelled 2 _ refl refl in
        let same : number_in (present_field 2 inner.fields) ≡ len = ap
        (λ (g : Tree). number_in (present_field 2 (fields_in (Some g)))) (sym inner.are) ∙ array.1 in
        subst (FitsSigned w64) same number

    by : (fs : Fields) {b : List ℕ} → SpellsFields base_table wire_type_fields 0 fs b → said (Tree.fields fs) ≡ Some w
        → FitsSigned w64 len
    by no_field p e = cc
    by (field f g (field h k fs)) p e = cc
    by (field f g no_field) p e =
        let fs = fields_in (Some g) in
        let array = array_said (eqb f 0) (eqb f 1) (eqb f 2) (eqb f 3) f fs elem len refl refl refl refl
        (kind_of (fields_in (present_field 0 fs)) (said_kind f fs) w e ∙ ap (λ (k : SaidKind). Some k) is) in
        within f g _ p array

has_length : {k : SaidKind} {g : Kind} → GivesKind k g → ((elem len : ℤ) → k ≡ said_array elem len → FitsSigned w64 len)
    → HasLength g
has_length (gives_array {e = e} {l = l} r n) each = let h = each e l refl in omega (arith, ints)
has_length _ each = tt

pub definable : (t : TypeId) (v : Tree) (s : Shape) → Fits base_table wire_type v → Describes t v s → IsDefinable s
definable t v s fit d = record {
  length = has_length d.kind (λ elem len is. length_fits v d.what elem len fit d.says is);
  references = kind_refers d.kind;
}
