-- What is read where the fields of a struct's definition stand: these fields.
use Rattle.std.proofs.Common.{◌≡◌, ℕ, ◌^◌, ◌<◌, List, [], ◌∷◌, ◌++◌, None, Some}
use Rattle.std.proofs.Common.{refl, sym, ap, subst, ◌∙◌, append_assoc, append-nil}
use Rattle.json.specs.Token.{Token}
use Rattle.json.specs.Json.{after_end_array}
use Rattle.serde_json.specs.Data.{Data, Items, array}
use Rattle.gob_num.specs.Unsigned.{AreBytes}
use Rattle.gob_types.specs.declared.kind.Field.{Field}
use Rattle.gob_json.specs.Json.{pair_json, text_json}
use Rattle.gob_lines.specs.Complete.{AreFieldTypesReadable}
use Rattle.gob_lines.specs.Definition.{AreFieldsJson, IsFieldsJson, fields_array, no_field, one_field}
use Rattle.gob_lines.specs.Numbers.{IsNatural, ReadsSome}
use Rattle.gob_lines.proofs.PartLaws.{natural_once}
use Rattle.gob_lines.proofs.PutLaws.{numbered}
use Rattle.gob_lines.proofs.ReadLaws.{end_is_next}
use Rattle.gob_lines.proofs.UniqueLaws.{J, JS, are_bytes, behind, flat, not_end, text_said}
use Rattle.gob_lines.proofs.WholeLaws.{no_end_there}

abbrev pub named : List ℕ → ℕ → Field
named name n = record { name = name; id = numbered n }

pub field_is : (f : Field) {name : List ℕ} {n : ℕ} → name ≡ f.name → n ≡ f.id.0 → named name n ≡ f
field_is f {n = n} one same = ap (λ (l : List ℕ). named l n) one ∙ ap (λ (i : ℕ). named f.name i) same

-- ---- what was read is what stands there

-- the first of the tokens are those of these fields, and of the bracket behind them
pub record ReadsFields (fs : List Field) (now rest : List Token) : Type 0 where
  pub items : Items
  pub are : AreFieldsJson fs items
  pub reads : now ≡ JS items ++ rest

-- behind fields that were read any others may stand
abbrev pub HasReadFields : List Field → (old now : List Token) → Type 0
HasReadFields read old now = (more : List Field) (rest : List Token) → ReadsFields more now rest
    → ReadsSome (IsFieldsJson (read ++ more)) old rest

pub no_type_read : {old now : List Token} → old ≡ Token.begin_array ∷ now → HasReadFields [] old now
no_type_read h more rest r = record {
  json = array r.items;
  is = fields_array r.are;
  reads = h ∙ ap (λ (l : List Token). Token.begin_array ∷ l) r.reads;
}

pub one_type_read : {old now t1 t2 t3 new : List Token} (read : List Field) (f : Field) → HasReadFields read old now
    → now ≡ Token.begin_array ∷ t1 → t1 ≡ J (text_json f.name) ++ t2 → ReadsSome (IsNatural f.id.0) t2 t3
    → t3 ≡ Token.end_array ∷ new → HasReadFields (read ++ f ∷ []) old new
one_type_read {old = old} read f has e0 e1 n e3 more rest r =
    let a = J (text_json f.name) in
    let b = J n.json in
    let all = has (f ∷ more) rest (record {
      items = _;
      are = one_field n.is r.are;
      reads = e0 ∙ ap (λ (l : List Token). Token.begin_array ∷ l) (e1
          ∙ ap (λ (l : List Token). a ++ l) (n.reads
          ∙ ap (λ (l : List Token). b ++ l) (e3 ∙ ap (λ (l : List Token). Token.end_array ∷ l) r.reads))
          ∙ sym (flat a b (Token.end_array ∷ []) (JS r.items) rest));
    }) in
    subst (λ (l : List Field). ReadsSome (IsFieldsJson l) old rest) (sym (append_assoc read (f ∷ []) more)) all

pub all_types_read : {old now new : List Token} (read : List Field) → HasReadFields read old now
    → after_end_array now ≡ Some new → ReadsSome (IsFieldsJson read) old new
all_types_read {old = old} {now = now} {new = new} read has h =
    subst (λ (l : List Field). ReadsSome (IsFieldsJson l) old new) (append-nil read)
    (has [] new (record { items = _; are = no_field; reads = end_is_next now new h }))

-- ---- what stands there is read

-- of these fields some were read, and the others stand in front of the rest
pub record FieldTypesLeft (read fs : List Field) (now rest : List Token) : Type 0 where
  pub left : List Field
  pub readable : AreFieldTypesReadable left
  pub all : read ++ left ≡ fs
  pub stand : ReadsFields left now rest

abbrev pub LeavesFieldTypes : List Field → (old now : List Token) → Type 0
LeavesFieldTypes read old now = (fs : List Field) (rest : List Token) → AreFieldTypesReadable fs
    → ReadsSome (IsFieldsJson fs) old rest → FieldTypesLeft read fs now rest

fields_stand : {fs : List Field} {old now rest : List Token} (j : Data) → IsFieldsJson fs j
    → old ≡ Token.begin_array ∷ now → old ≡ J j ++ rest → ReadsFields fs now rest
fields_stand j (fields_array {js = js} are) h s = record { items = js; are = are; reads = ap behind (sym h ∙ s) }

pub all_types_left : {old now : List Token} → old ≡ Token.begin_array ∷ now → LeavesFieldTypes [] old now
all_types_left h fs rest readable s =
    record { left = fs; readable = readable; all = refl; stand = fields_stand s.json s.is h s.reads }

types_end_at : {now new rest : List Token} {fs left : List Field} {js : Items} (read : List Field)
    → AreFieldsJson left js → read ++ left ≡ fs → now ≡ JS js ++ rest → now ≡ Token.end_array ∷ new
    → (read ≡ fs) × (new ≡ rest)
types_end_at read no_field all stand h = (sym (append-nil read) ∙ all, ap behind (sym h ∙ stand))
types_end_at {new = new} {rest = rest} read (one_field {f = f} {j = j} {js = js} is are) all stand h =
    absurd (not_end (pair_json (text_json f.name) j) (JS js) rest new (sym h ∙ stand))

pub types_end : {read fs : List Field} {now new rest : List Token} → FieldTypesLeft read fs now rest
    → after_end_array now ≡ Some new → (read ≡ fs) × (new ≡ rest)
types_end {read = read} {now = now} {new = new} l h =
    types_end_at read l.stand.are l.all l.stand.reads (end_is_next now new h)

pub record NextType (read fs : List Field) (now rest : List Token) : Type 0 where
  pub next : Field
  pub left : List Field
  pub bytes : AreBytes next.name
  pub small : next.id.0 < 2 ^ 64
  pub readable : AreFieldTypesReadable left
  pub all : read ++ next ∷ left ≡ fs
  pub number : Data
  pub is : IsNatural next.id.0 number
  pub items : Items
  pub are : AreFieldsJson left items
  pub stand : now ≡ Token.begin_array ∷ (J (text_json next.name) ++ (J number
      ++ (Token.end_array ∷ (JS items ++ rest))))

type_at : {now rest : List Token} {fs left : List Field} {js : Items} (read : List Field) → AreFieldsJson left js
    → AreFieldTypesReadable left → read ++ left ≡ fs → now ≡ JS js ++ rest → after_end_array now ≡ None
    → NextType read fs now rest
type_at read no_field readable all stand n = absurd (no_end_there stand n)
type_at {rest = rest} read (one_field {f = f} {fs = fs} {j = j} {js = js} is are) readable all stand n = record {
  next = f;
  left = fs;
  bytes = readable.0;
  small = readable.1;
  readable = readable.2;
  all = all;
  number = j;
  is = is;
  items = js;
  are = are;
  stand = stand ∙ ap (λ (l : List Token). Token.begin_array ∷ l)
      (flat (J (text_json f.name)) (J j) (Token.end_array ∷ []) (JS js) rest);
}

pub type_next : {read fs : List Field} {now rest : List Token} → FieldTypesLeft read fs now rest
    → after_end_array now ≡ None → NextType read fs now rest
type_next {read = read} l n = type_at read l.stand.are l.readable l.all l.stand.reads n

pub type_read : {read fs : List Field} {now new rest : List Token} (f : Field) (n : NextType read fs now rest)
    → f ≡ n.next → new ≡ JS n.items ++ rest → FieldTypesLeft (read ++ f ∷ []) fs new rest
type_read {read = read} f n one stand = record {
  left = n.left;
  readable = n.readable;
  all = append_assoc read (f ∷ []) n.left ∙ ap (λ (g : Field). read ++ g ∷ n.left) one ∙ n.all;
  stand = record { items = n.items; are = n.are; reads = stand };
}

-- the number of the next one stands here
pub number_stands : {read fs : List Field} {now rest m : List Token} (n : NextType read fs now rest)
    → m ≡ J n.number ++ (Token.end_array ∷ (JS n.items ++ rest))
    → ReadsSome (IsNatural n.next.id.0) m (Token.end_array ∷ (JS n.items ++ rest))
number_stands n stand = record { json = n.number; is = n.is; reads = stand }

-- ---- the tokens tell the fields

pub fields_once : {fs gs : List Field} {js ks : Items} (x y : List Token) → AreFieldTypesReadable fs
    → AreFieldTypesReadable gs → AreFieldsJson fs js → AreFieldsJson gs ks → JS js ++ x ≡ JS ks ++ y
    → (fs ≡ gs) × (x ≡ y)
fields_once x y p q no_field no_field h = (refl, ap behind h)
fields_once x y p q no_field (one_field {f = g} {j = k} {js = ks} m qs) h =
    absurd (not_end (pair_json (text_json g.name) k) (JS ks) y x h)
fields_once x y p q (one_field {f = f} {j = j} {js = js} n ps) no_field h =
    absurd (not_end (pair_json (text_json f.name) j) (JS js) x y (sym h))
fields_once x y p q (one_field {f = f} {fs = fs} {j = j} {js = js} n ps)
    (one_field {f = g} {fs = gs} {j = k} {js = ks} m qs) h =
    let end = Token.end_array ∷ [] in
    let apart = sym (flat (J (text_json f.name)) (J j) end (JS js) x) ∙ ap behind h
    ∙ flat (J (text_json g.name)) (J k) end (JS ks) y in
    let name = text_said f.name g.name (J j ++ (end ++ (JS js ++ x))) (J k ++ (end ++ (JS ks ++ y)))
    (are_bytes f.name p.0) (are_bytes g.name q.0) apart in
    let number = natural_once (J j ++ (end ++ (JS js ++ x))) (end ++ (JS js ++ x)) (end ++ (JS ks ++ y))
    p.1 q.1 n refl m name.rest in
    let others = fields_once x y p.2 q.2 ps qs (ap behind number.1) in (
      ap (λ (e : Field). e ∷ fs) (field_is g name.value number.0) ∙ ap (λ (l : List Field). g ∷ l) others.0,
      others.1,
    )
