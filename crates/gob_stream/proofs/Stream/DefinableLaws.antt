-- What a value of a table describes, a definition can give: its array length is a signed number.
use Rattle.std.proofs.Common.{◌≡◌, ℕ, ℤ, pos, ◌≤◌, inl, inr, Bool, true, false, cond, List, [], Option, Some, None}
use Rattle.std.proofs.Common.{refl, sym, ap, subst, ◌∙◌, arith}
use Rattle.std.specs.Prelude.{zero, suc, ◌==◌, slice_get}
use Rattle.gob_num.specs.Signed.{IsSigned}
use Rattle.gob_types.specs.declared.id.TypeId.{TypeId}
use Rattle.gob_types.specs.declared.kind.Field.{Field}
use Rattle.gob_types.specs.declared.kind.Kind.{Kind}
use Rattle.gob_types.specs.declared.kind.Marshal.TheVariants as marshal
use Rattle.gob_types.specs.declared.kind.Shape.{Shape}
use Rattle.gob_types.specs.Table.{Table}
use Rattle.gob_types.specs.Ready.{Names}
use Rattle.gob_types.specs.Definable.{IsReference, IsDefinable, HasLength}
use Rattle.gob_types.proofs.PublicLaws.{some_injective}
use Rattle.gob_value.specs.Tree.{Tree, Fields, no_field, field}
use Rattle.gob_value.specs.Tree as Value
use Rattle.gob_value.specs.Spelling.{Spells, of_type, of_int, of_struct, SpellsFields, next_field}
use Rattle.gob_value.specs.Fits.{Fits}
use Rattle.gob_value.specs.Description.{Said, SaidField, SaidKind, said_array, said_slice, said_struct, said_map}
use Rattle.gob_value.specs.Description.{said_opaque, said_kind, said_with, present_field, number_in, fields_in}
use Rattle.gob_value.specs.Description.{elements_in, said_fields, GivesFields, and_field, GivesKind, gives_array}
use Rattle.gob_value.specs.Description.{gives_slice, gives_struct, gives_map, gives_opaque, Describes}
use Rattle.gob_num.specs.Signed.{not_negative}
use Rattle.gob_num.proofs.PublicLaws.{unsigned_fits}

-- ---- what stands in a spelled value is spelled

-- a value of some type
record IsOfSomeType (T : Table) (v : Tree) : Type 0 where
  type : TypeId
  bytes : List ℕ
  spelled : Spells T type v bytes

-- each field that is present is a value of some type
record ArePresent (T : Table) (fs : Fields) : Type 0 where
  each : (n : ℕ) (v : Tree) → present_field n fs ≡ Some v → IsOfSomeType T v

none_present : {T : Table} → ArePresent T no_field
none_present = record { each = λ n v at. absurd (cc at) }

spelled_fields : {T : Table} {types : List Field} (fs : Fields) {next : ℕ} {b : List ℕ} → SpellsFields T types next fs b
    → (n : ℕ) (v : Tree) → present_field n fs ≡ Some v → IsOfSomeType T v
spelled_fields no_field spelled n v at = absurd (cc at)
spelled_fields {T = T} (field f w fs) (next_field l m p q ps) n v at = by (f == n) at (spelled_fields fs ps n v)
  where
    by : (b : Bool) → cond b (Some w) (present_field n fs) ≡ Some v → (present_field n fs ≡ Some v → IsOfSomeType T v)
        → IsOfSomeType T v
    by true at rest = subst (IsOfSomeType T) (some_injective at) (record { type = _; bytes = _; spelled = q })
    by false at rest = rest at

fields_present : {T : Table} (v : Tree) → IsOfSomeType T v → ArePresent T (fields_in (Some v))
fields_present (Value.fields fs) of = by of.spelled
  where
    by : {T : Table} {t : TypeId} {b : List ℕ} → Spells T t (Value.fields fs) b → ArePresent T fs
    by (of_type found (of_struct spelled)) = record { each = spelled_fields fs spelled }
fields_present _ of = none_present

small_number : {n : ℕ} {b : List ℕ} → IsSigned (pos n) b → n ≤ 9223372036854775807
small_number (not_negative spelled) = let fits = unsigned_fits spelled in omega arith

zero_small : {n : ℕ} → pos 0 ≡ pos n → n ≤ 9223372036854775807
zero_small {n = n} is = let none : 0 ≡ n = cc in omega arith

int_small : {T : Table} (v : Tree) {n : ℕ} → IsOfSomeType T v → number_in (Some v) ≡ pos n → n ≤ 9223372036854775807
int_small (Value.int i) {n = n} of is = by of.spelled
  where
    by : {T : Table} {t : TypeId} {b : List ℕ} → Spells T t (Value.int i) b → n ≤ 9223372036854775807
    by {b = b} (of_type found (of_int spelled)) = small_number (subst (λ j. IsSigned j b) is spelled)
int_small _ of is = zero_small is

number_small : {T : Table} {fs : Fields} {n : ℕ} (f : ℕ) → ArePresent T fs → number_in (present_field f fs) ≡ pos n
    → n ≤ 9223372036854775807
number_small {T = T} {fs = fs} {n = n} f all is = by (present_field f fs) is (all.each f)
  where
    by : (o : _) → number_in o ≡ pos n → ((v : Tree) → o ≡ Some v → IsOfSomeType T v) → n ≤ 9223372036854775807
    by None is each = zero_small is
    by (Some v) is each = int_small v (each v refl) is

-- ---- the length of an array

-- what the last fields of wireType say, by which of them is there
abbrev opaque_chosen : Bool → Bool → Bool → Option SaidKind
opaque_chosen a b c = cond a (Some (said_opaque marshal.Gob)) (cond b (Some (said_opaque marshal.Binary))
    (cond c (Some (said_opaque marshal.Text)) None))

no_array_chosen : (a b c : Bool) {e l : ℤ} → opaque_chosen a b c ≡ Some (said_array e l) → ⊥
no_array_chosen true b c says = cc
no_array_chosen false true c says = cc
no_array_chosen false false true says = cc
no_array_chosen false false false says = cc

array_chosen : (x y m n p e l : ℤ) (gs : List SaidField) (a b c d : Bool) (o : Option SaidKind)
    → (o ≡ Some (said_array e l) → ⊥)
    → cond a (Some (said_array x y))
    (cond b (Some (said_slice m)) (cond c (Some (said_struct gs)) (cond d (Some (said_map n p)) o))) ≡ Some
    (said_array e l) → l ≡ y
array_chosen x y m n p e l gs true b c d o none says = cc
array_chosen x y m n p e l gs false true c d o none says = absurd (cc)
array_chosen x y m n p e l gs false false true d o none says = absurd (cc)
array_chosen x y m n p e l gs false false false true o none says = absurd (cc)
array_chosen x y m n p e l gs false false false false o none says = absurd (none says)

array_said : (f : ℕ) (fs : Fields) {e l : ℤ} → said_kind f fs ≡ Some (said_array e l)
    → l ≡ number_in (present_field 2 fs)
array_said f fs {e = e} {l = l} says =
    array_chosen (number_in (present_field 1 fs)) (number_in (present_field 2 fs)) (number_in (present_field 1 fs))
    (number_in (present_field 1 fs)) (number_in (present_field 2 fs)) e l
    (said_fields (elements_in (present_field 1 fs)))
    (f == 0) (f == 1) (f == 2) (f == 3) (opaque_chosen (f == 4) (f == 5) (f == 6))
    (no_array_chosen (f == 4) (f == 5) (f == 6)) says

has_length : {T : Table} (f : ℕ) (fs : Fields) {k : SaidKind} {kk : Kind} → ArePresent T fs → said_kind f fs ≡ Some k
    → GivesKind k kk → HasLength kk
has_length f fs all says (gives_array refers len) = number_small 2 all (sym (array_said f fs says) ∙ len)
has_length f fs all says (gives_slice refers) = tt
has_length f fs all says (gives_struct given) = tt
has_length f fs all says (gives_map key elem) = tt
has_length f fs all says gives_opaque = tt

-- ---- the types that it names

field_refers : {fs : List SaidField} {gs : List Field} → GivesFields fs gs → (n : ℕ) (g : Field)
    → slice_get gs n ≡ Some g → IsReference g.id
field_refers {gs = []} given n g at = absurd (cc at)
field_refers (and_field name refers rest) zero g at = subst (λ h. IsReference h.id) (some_injective at) refers.reference
field_refers (and_field name refers rest) (suc n) g at = field_refers rest n g at

refers_to : {k : SaidKind} {kk : Kind} → GivesKind k kk → (u : TypeId) → Names kk u → IsReference u
refers_to (gives_array refers len) u names = subst IsReference names refers.reference
refers_to (gives_slice refers) u names = subst IsReference names refers.reference
refers_to (gives_struct given) u names = subst IsReference names.type (field_refers given names.number names.field
    names.there)
refers_to (gives_map key elem) u (inl names) = subst IsReference names key.reference
refers_to (gives_map key elem) u (inr names) = subst IsReference names elem.reference
refers_to gives_opaque u names = absurd names

-- ---- a description

kind_with : (common : Fields) (o : _) {what : Said} → said_with common o ≡ Some what → o ≡ Some what.kind
kind_with common None says = absurd (cc says)
kind_with common (Some k) says = ap (λ w. Some w.kind) (some_injective says)

described_length : {T : Table} {t id : TypeId} {v : Tree} {b : List ℕ} {s : Shape} → Spells T t v b → Describes id v s
    → HasLength s.kind
described_length {T = T} {v = Value.fields (field f w no_field)} (of_type found (of_struct (next_field l m p q ps))) d =
    has_length f (fields_in (Some w)) (fields_present w (record { type = _; bytes = _; spelled = q }))
    (kind_with (fields_in (present_field 0 (fields_in (Some w)))) (said_kind f (fields_in (Some w))) d.says) d.kind
described_length {v = _} spelled d = absurd (cc d.says)

pub definable : {T : Table} {t id : TypeId} {v : Tree} {s : Shape} → Fits T t v → Describes id v s → IsDefinable s
definable fits d = record { length = described_length fits.spelled d; references = refers_to d.kind }
