-- What JSON says of a value, by the kind of its type; and that it is one byte at least.
use Rattle.std.proofs.Common.{◌≡◌, Bool, ℕ, ◌+◌, ◌-◌, ◌<◌, ◌≤◌, List, [], ◌∷◌, ◌++◌, length, Some, ℤ, pos, Result, Ok}
use Rattle.std.proofs.Common.{Err}
use Rattle.std.proofs.Common.{arith, refl, sym, ap, subst, ◌∙◌, append_assoc, append-nil, length-append}
use Rattle.std.specs.Prelude.{IfErr, IsErrAnd, IsTrue, OnOk}
use Rattle.json.specs.Token.{Token}
use Rattle.serde_json.specs.Data.{Data, array, null}
use Rattle.gob_num.specs.Unsigned.{AreBytes, IsUnsigned}
use Rattle.gob_num.specs.Signed.{IsSigned, not_negative, negative}
use Rattle.gob_num.proofs.PublicLaws.{unsigned_length, unsigned_unique}
use Rattle.gob_types.specs.declared.id.TypeId.{TypeId}
use Rattle.gob_types.specs.declared.basic.Basic.{Basic}
use Rattle.gob_types.specs.declared.basic.Basic.TheVariants as basic
use Rattle.gob_types.specs.declared.kind.Field.{Field}
use Rattle.gob_types.specs.declared.kind.Kind.{Kind}
use Rattle.gob_types.specs.declared.kind.Kind.TheVariants as kind
use Rattle.gob_types.specs.declared.kind.Marshal.{Marshal}
use Rattle.gob_types.specs.declared.kind.Shape.{Shape}
use Rattle.gob_types.specs.Table.{Table, shape_of}
use Rattle.gob_types.proofs.PublicLaws.{some_injective}
use Rattle.gob_value.specs.Bytes.{HoldsBytes}
use Rattle.gob_value.specs.Spelling.{SpellsAs, of_nil}
use Rattle.gob_value.specs.Spelling as spells
use Rattle.gob_value.specs.Top.{IsStruct, HasStructs}
use Rattle.gob_value.specs.Tree.{Tree}
use Rattle.gob_json.specs.Json.{no_type, opaque_json}
use Rattle.gob_stream.specs.Body.{MayPut}
use Rattle.gob_lines.specs.Numbers.{IsBasicJson, as_shown, IsNatural}
use Rattle.gob_lines.specs.Reads.{IsWrong}
use Rattle.gob_lines.specs.declared.fault.LineFault.{LineFault}
use Rattle.gob_go_lines.specs.Says.{Says, of_type, SaysAs, of_basic, of_opaque, of_slice, of_array, of_map, of_struct}
use Rattle.gob_go_lines.specs.Says.{held_json, of_held, SaysTop, at_once, tagged, SaysEach, SaysPairs, SaysFields}
use Rattle.gob_go_lines.specs.Says.{items_of}
use Rattle.gob_go_lines.specs.Says.{end_of_fields, next_field}
use Rattle.gob_go_lines.specs.Lines.{PutsIt, PutsSaid, ReadsParts, SaysStruct}

-- ---- by the kind

pub said_as : {T : Table} {H : Bool} {t : TypeId} {s : Shape} {k : Kind} {limit : ℕ} {j : Data} {b : List ℕ}
    → shape_of T t ≡ Some s → s.kind ≡ k → Says T H t limit j b → SaysAs T H k limit j b
said_as {T = T} {H = H} {limit = limit} {j = j} {b = b} e is (of_type f some h) =
    subst (λ (k : Kind). SaysAs T H k limit j b) (ap (λ (r : Shape). r.kind) (some_injective (sym f ∙ e)) ∙ is) h

pub some_depth : {T : Table} {H : Bool} {t : TypeId} {limit : ℕ} {j : Data} {b : List ℕ} → Says T H t limit j b
    → 0 < limit
some_depth (of_type f some h) = some

pub is_known : {T : Table} {H : Bool} {t : TypeId} {limit : ℕ} {j : Data} {b : List ℕ} → Says T H t limit j b
    → (s : Shape) × (shape_of T t ≡ Some s)
is_known (of_type {s = s} f some h) = (s, f)

-- a list or a map: its parts, behind their count
pub record PartsStand (Are : List Data → List ℕ → Type 0) (j : Data) (b : List ℕ) : Type 0 where
  pub parts : List Data
  pub count : List ℕ
  pub bytes : List ℕ
  pub counted : IsUnsigned (length parts) count
  pub says : Are parts bytes
  pub is : j ≡ array (items_of parts)
  pub whole : b ≡ count ++ bytes

pub slice_stands : {T : Table} {H : Bool} {e : TypeId} {limit : ℕ} {j : Data} {b : List ℕ}
    → SaysAs T H (kind.Slice e) limit j b
    → PartsStand (SaysEach T H e (limit - 1)) j b
slice_stands (of_slice {js = js} {c = c} {b = b} p h) =
    record { parts = js; count = c; bytes = b; counted = p; says = h; is = refl; whole = refl }

pub map_stands : {T : Table} {H : Bool} {k e : TypeId} {limit : ℕ} {j : Data} {b : List ℕ}
    → SaysAs T H (kind.Map k e) limit j b
    → PartsStand (SaysPairs T H k e (limit - 1)) j b
map_stands (of_map {js = js} {c = c} {b = b} p h) =
    record { parts = js; count = c; bytes = b; counted = p; says = h; is = refl; whole = refl }

pub record ArrayStands (T : Table) (H : Bool) (e : TypeId) (n limit : ℕ) (j : Data) (b : List ℕ) : Type 0 where
  pub elements : PartsStand (SaysEach T H e limit) j b
  pub same : length elements.parts ≡ n

pub array_stands : {T : Table} {H : Bool} {e : TypeId} {n limit : ℕ} {j : Data} {b : List ℕ}
    → SaysAs T H (kind.Array e n) limit j b
    → ArrayStands T H e n (limit - 1) j b
array_stands (of_array {js = js} {c = c} {b = b} same p h) = record {
  elements = record { parts = js; count = c; bytes = b; counted = p; says = h; is = refl; whole = refl };
  same = same;
}

pub struct_stands : {T : Table} {H : Bool} {types : List Field} {limit : ℕ} {j : Data} {b : List ℕ}
    → SaysAs T H (kind.Struct types) limit j b → SaysStruct T H types (limit - 1) j b
struct_stands (of_struct {js = js} h) = record { parts = js; says = h; is = refl }

pub record OpaqueStands (j : Data) (b : List ℕ) : Type 0 where
  pub text : List ℕ
  pub count : List ℕ
  pub holds : AreBytes text
  pub counted : IsUnsigned (length text) count
  pub is : j ≡ opaque_json text
  pub whole : b ≡ count ++ text

pub opaque_stands : {T : Table} {H : Bool} {m : Marshal} {limit : ℕ} {j : Data} {b : List ℕ}
    → SaysAs T H (kind.Opaque m) limit j b → OpaqueStands j b
opaque_stands (of_opaque {c = c} s o p) =
    record { text = s; count = c; holds = o; counted = p; is = refl; whole = refl }

pub record PlainStands (T : Table) (k : Basic) (j : Data) (b : List ℕ) : Type 0 where
  pub value : Tree
  pub spelled : SpellsAs T (kind.Basic k) value b
  pub holds : HoldsBytes value
  pub is : IsBasicJson T no_type value j

pub plain_stands : {T : Table} {H : Bool} {k : Basic} {limit : ℕ} {j : Data} {b : List ℕ} → (k ≡ basic.Interface → ⊥)
    → SaysAs T H (kind.Basic k) limit j b → PlainStands T k j b
plain_stands other (of_basic {v = v} p o is) = record { value = v; spelled = p; holds = o; is = is }
plain_stands other (of_held name in_go o m p may q i h r) = absurd (other refl)

-- ---- an interface

pub record HeldStands (T : Table) (H : Bool) (limit : ℕ) (j : Data) (b : List ℕ) : Type 0 where
  pub in_go : IsTrue H
  pub held : TypeId
  pub name : List ℕ
  pub name_count : List ℕ
  pub number : List ℕ
  pub count : List ℕ
  pub value : List ℕ
  pub id_json : Data
  pub json : Data
  pub holds : AreBytes name
  pub some : 0 < length name
  pub named : IsUnsigned (length name) name_count
  pub may : MayPut T held
  pub typed : IsSigned (pos held.0) number
  pub numbered : IsNatural held.0 id_json
  pub says : SaysTop T H held limit json value
  pub counted : IsUnsigned (length value) count
  pub is : j ≡ held_json name id_json json
  pub whole : b ≡ name_count ++ (name ++ (number ++ (count ++ value)))

-- nil, or what it holds
pub data InterfaceStands (T : Table) (H : Bool) (limit : ℕ) (j : Data) (b : List ℕ) : Type 0 where
  nil_stands : j ≡ null → IsUnsigned 0 b → InterfaceStands T H limit j b
  held_stands : HeldStands T H limit j b → InterfaceStands T H limit j b

nil_is : {T : Table} {v : Tree} {j : Data} {b : List ℕ} → SpellsAs T (kind.Basic basic.Interface) v b
    → IsBasicJson T no_type v j → (j ≡ null) × IsUnsigned 0 b
nil_is (of_nil p) as_shown = (refl, p)

pub interface_stands : {T : Table} {H : Bool} {limit : ℕ} {j : Data} {b : List ℕ}
    → SaysAs T H (kind.Basic basic.Interface) limit j b → InterfaceStands T H (limit - 1) j b
interface_stands (of_basic p o is) = let n = nil_is p is in nil_stands n.0 n.1
interface_stands
    (of_held {held = held} {a = a} {n = n} {c = c} {b = b} {number = of} {j = j} name in_go o m p may q i h r) =
    held_stands (record {
      in_go = in_go;
      held = held;
      name = name;
      name_count = a;
      number = n;
      count = c;
      value = b;
      id_json = of;
      json = j;
      holds = o;
      some = m;
      named = p;
      may = may;
      typed = q;
      numbered = i;
      says = h;
      counted = r;
      is = refl;
      whole = refl;
    })

-- ---- behind a tag or without one

pub top_as : {T : Table} {H : Bool} {t : TypeId} {limit : ℕ} {j : Data} {b : List ℕ} → HasStructs T t
    → SaysTop T H t limit j b
    → Says T H t limit j b
top_as h (at_once found is said) = said
top_as {T = T} h (tagged {s = s} found isnt said) =
    absurd (isnt (subst (λ (r : Shape). IsStruct r.kind) (some_injective (sym h.found ∙ found)) h.struct))

pub record BehindTag (T : Table) (H : Bool) (t : TypeId) (limit : ℕ) (j : Data) (b : List ℕ) : Type 0 where
  pub bytes : List ℕ
  pub says : Says T H t limit j bytes
  pub whole : b ≡ 0 ∷ bytes

pub top_behind : {T : Table} {H : Bool} {t : TypeId} {limit : ℕ} {j : Data} {b : List ℕ} → ¬ HasStructs T t
    → SaysTop T H t limit j b → BehindTag T H t limit j b
top_behind isnt (at_once {s = s} found is said) = absurd (isnt (record { shape = s; found = found; struct = is }))
top_behind isnt (tagged {b = b} found other said) = record { bytes = b; says = said; whole = refl }

pub top_of_struct : {T : Table} {H : Bool} {t : TypeId} {limit : ℕ} {j : Data} {b : List ℕ} → HasStructs T t
    → Says T H t limit j b → SaysTop T H t limit j b
top_of_struct h said = at_once h.found h.struct said

pub top_tagged : {T : Table} {H : Bool} {t : TypeId} {limit : ℕ} {j : Data} {b : List ℕ} → ¬ HasStructs T t
    → Says T H t limit j b → SaysTop T H t limit j (0 ∷ b)
top_tagged isnt said =
    let k = is_known said in
    tagged k.1 (λ is. isnt (record { shape = k.0; found = k.1; struct = is })) said

-- ---- there is a byte

signed_some : {i : ℤ} {b : List ℕ} → IsSigned i b → 0 < length b
signed_some (not_negative p) = (unsigned_length p).0
signed_some (negative p) = (unsigned_length p).0

behind_first : (a b : List ℕ) → 0 < length a → 0 < length (a ++ b)
behind_first a b some = omega (arith, length-append a b, some)

plain_some : {T : Table} {k : Basic} {v : Tree} {b : List ℕ} → SpellsAs T (kind.Basic k) v b → 0 < length b
plain_some (spells.of_bool p) = (unsigned_length p).0
plain_some (spells.of_int p) = signed_some p
plain_some (spells.of_uint p) = (unsigned_length p).0
plain_some (spells.of_float p) = (unsigned_length p.spelled).0
plain_some (spells.of_complex {b = b} {c = c} p q) = behind_first b c (unsigned_length p.spelled).0
plain_some (spells.of_nil p) = (unsigned_length p).0
plain_some (spells.of_bytes {s = s} {c = c} p) = behind_first c s (unsigned_length p).0
plain_some (spells.of_text {s = s} {c = c} p) = behind_first c s (unsigned_length p).0

fields_some : {T : Table} {H : Bool} {types : List Field} {next limit : ℕ} {js : List Data} {b : List ℕ}
    → SaysFields T H types next limit js b → 0 < length b
fields_some (end_of_fields p) = (unsigned_length p).0
fields_some (next_field {a = a} {b = b} {c = c} o i p q h k) = behind_first a (b ++ c) (unsigned_length p).0

as_some : {T : Table} {H : Bool} {k : Kind} {limit : ℕ} {j : Data} {b : List ℕ} → SaysAs T H k limit j b → 0 < length b
as_some (of_basic p o is) = plain_some p
as_some (of_opaque {c = c} s o p) = behind_first c s (unsigned_length p).0
as_some (of_slice {c = c} {b = b} p h) = behind_first c b (unsigned_length p).0
as_some (of_array {c = c} {b = b} same p h) = behind_first c b (unsigned_length p).0
as_some (of_map {c = c} {b = b} p h) = behind_first c b (unsigned_length p).0
as_some (of_struct h) = fields_some h
as_some (of_held {a = a} {n = n} {c = c} {b = b} name in_go o m p may q i h r) =
    behind_first a (name ++ (n ++ (c ++ b))) (unsigned_length p).0

pub some_bytes : {T : Table} {H : Bool} {t : TypeId} {limit : ℕ} {j : Data} {b : List ℕ} → Says T H t limit j b
    → 0 < length b
some_bytes (of_type f some h) = as_some h

-- ---- what calls answer

pub fault_puts : (r : Result (Unit {0}) LineFault) (e : LineFault) (new rest : List Token) (before after b : List ℕ)
    → IsErrAnd r (λ x. x ≡ e) → ¬ IsWrong e → PutsIt r new rest before after b
fault_puts (Ok u) e new rest before after b is h = absurd is
fault_puts (Err x) e new rest before after b is h = λ w. h (subst (λ (y : LineFault). IsWrong y) is w)

-- bytes are put, and nothing else is read
pub memory_puts : (r : Result (Unit {0}) LineFault) (new rest : List Token) (before after b : List ℕ)
    → OnOk r (after ≡ before ++ b) → IfErr r (λ f. ¬ IsWrong f) → new ≡ rest → PutsIt r new rest before after b
memory_puts (Ok u) new rest before after b put none same = (same, put)
memory_puts (Err e) new rest before after b put none same = none

-- and said
pub says_put : {Is Are : Data → List ℕ → Type 0} (r : Result (Unit {0}) LineFault) (old new : List Token)
    (before after : List ℕ) → ((j : Data) (b : List ℕ) → Is j b → Are j b) → OnOk r (PutsSaid Is old new before after)
    → OnOk r (PutsSaid Are old new before after)
says_put (Ok u) old new before after f p = record {
  json = p.json;
  bytes = p.bytes;
  says = f p.json p.bytes p.says;
  reads = p.reads;
  appended = p.appended;
}
says_put (Err e) old new before after f p = tt

-- parts are put behind their count

pub parts_said : {Are : List Data → List ℕ → Type 0} (Is : Data → List ℕ → Type 0) (r : Result (Unit {0}) LineFault)
    (old new : List Token) (count : ℕ) (bytes before after : List ℕ)
    → ((js : List Data) (c b : List ℕ) → length js ≡ count → IsUnsigned (length js) c → Are js b
    → Is (array (items_of js)) (c ++ b))
    → ReadsParts Are old new count bytes
    → OnOk r ((c : List ℕ) × IsUnsigned count c × (after ≡ before ++ (c ++ bytes)))
    → OnOk r (PutsSaid Is old new before after)
parts_said Is (Ok u) old new count bytes before after f p put = record {
  json = array (items_of p.parts);
  bytes = put.0 ++ bytes;
  says = f p.parts put.0 bytes p.counted (subst (λ n. IsUnsigned n put.0) (sym p.counted) put.1) p.says;
  reads = p.reads;
  appended = put.2;
}
parts_said Is (Err e) old new count bytes before after f p put = tt

pub parts_put : {Are : List Data → List ℕ → Type 0} {j : Data} {b : List ℕ} (r : Result (Unit {0}) LineFault)
    (s : PartsStand Are j b) (new rest : List Token) (count : ℕ) (bytes before after : List ℕ)
    → OnOk r ((c : List ℕ) × IsUnsigned count c × (after ≡ before ++ (c ++ bytes))) → IfErr r (λ f. ¬ IsWrong f)
    → ◌≡◌ {A = ℕ × List ℕ} (count, bytes) (length s.parts, s.bytes) → new ≡ rest
    → PutsIt r new rest before after b
parts_put (Ok u) s new rest count bytes before after put none same left =
    let number : count ≡ length s.parts = ap (λ (p : ℕ × List ℕ). p.0) same in
    let c = unsigned_unique (subst (λ n. IsUnsigned n put.0) number put.1) s.counted in (
      left,
      put.2 ∙ ap (λ (l : List ℕ). before ++ (l ++ bytes)) c
          ∙ ap (λ (p : ℕ × List ℕ). before ++ (s.count ++ p.1)) same ∙ ap (λ (l : List ℕ). before ++ l) (sym s.whole),
    )
parts_put (Err e) s new rest count bytes before after put none same left = none

-- behind a tag
pub tag_said : {T : Table} {t : TypeId} (H : Bool) (limit : ℕ) (r : Result (Unit {0}) LineFault) (old new : List Token)
    (before mid after : List ℕ) → ¬ HasStructs T t → mid ≡ before ++ 0 ∷ []
    → OnOk r (PutsSaid (Says T H t limit) old new mid after)
    → OnOk r (PutsSaid (SaysTop T H t limit) old new before after)
tag_said H limit (Ok u) old new before mid after isnt tag p = record {
  json = p.json;
  bytes = 0 ∷ p.bytes;
  says = top_tagged isnt p.says;
  reads = p.reads;
  appended = p.appended ∙ ap (λ l. l ++ p.bytes) tag ∙ append_assoc before (0 ∷ []) p.bytes;
}
tag_said H limit (Err e) old new before mid after isnt tag p = tt

pub tag_put : (r : Result (Unit {0}) LineFault) (new rest : List Token) (before mid after b bytes : List ℕ)
    → mid ≡ before ++ 0 ∷ [] → b ≡ 0 ∷ bytes → PutsIt r new rest mid after bytes → PutsIt r new rest before after b
tag_put (Ok u) new rest before mid after b bytes tag whole p = (
  p.0,
  p.1 ∙ ap (λ l. l ++ bytes) tag ∙ append_assoc before (0 ∷ []) bytes ∙ ap (λ l. before ++ l) (sym whole),
)
tag_put (Err e) new rest before mid after b bytes tag whole p = p

-- of a type of the kind
pub kind_said : {s : Shape} {k : Kind} {limit : ℕ} (T : Table) (H : Bool) (t : TypeId)
    (r : Result (Unit {0}) LineFault)
    (old new : List Token) (before after : List ℕ) → shape_of T t ≡ Some s → s.kind ≡ k → 0 < limit
    → OnOk r (PutsSaid (SaysAs T H k limit) old new before after)
    → OnOk r (PutsSaid (Says T H t limit) old new before after)
kind_said {limit = limit} T H t r old new before after found is some put =
    says_put r old new before after
    (λ j b h. of_type found some (subst (λ (k : Kind). SaysAs T H k limit j b) (sym is) h)) put

-- elements that are as many as the array has
pub array_said : {T : Table} {H : Bool} {e : TypeId} (n limit : ℕ) (r : Result (Unit {0}) LineFault)
    (old new : List Token)
    (count : ℕ) (bytes before after : List ℕ) → OnOk r (count ≡ n)
    → ReadsParts (SaysEach T H e (limit - 1)) old new count bytes
    → OnOk r ((c : List ℕ) × IsUnsigned count c × (after ≡ before ++ (c ++ bytes)))
    → OnOk r (PutsSaid (SaysAs T H (kind.Array e n) limit) old new before after)
array_said n limit (Ok u) old new count bytes before after same p put = parts_said _ (Ok u) old new count bytes before
    after
    (λ js c b long q h. of_array (long ∙ same) q h) p put
array_said n limit (Err e) old new count bytes before after same p put = tt

pub if_due : {P : Type 0} (r : Result (Unit {0}) LineFault) → IfErr r (λ f. P → ¬ IsWrong f) → P
    → IfErr r (λ f. ¬ IsWrong f)
if_due (Ok u) h p = tt
if_due (Err e) h p = h p
