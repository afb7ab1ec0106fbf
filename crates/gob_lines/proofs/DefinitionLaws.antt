-- What is read where the members of a definition stand: the parts that they say.
use Rattle.std.proofs.Common.{◌≡◌, ℕ, ◌^◌, ◌<◌, List, [], ◌∷◌, ◌++◌, Option, Some, None, Result, Ok, Err}
use Rattle.std.proofs.Common.{refl, sym, ap, subst, ◌∙◌, arith, append_assoc}
use Rattle.std.specs.Prelude.{◌==◌, IfSome, IsErrAnd, if◌then◌else◌, sum, unwrap_or}
use Rattle.json.specs.Token.{Token}
use Rattle.json.specs.Tree.{members_tokens}
use Rattle.serde_json.specs.Data.{Data, Members, member}
use Rattle.serde_json.specs.Written.{members_outline}
use Rattle.hex.specs.Hex.{IsBytes}
use Rattle.gob_num.specs.Unsigned.{AreBytes}
use Rattle.gob_types.specs.declared.id.TypeId.{TypeId}
use Rattle.gob_types.specs.declared.kind.Field.{Field}
use Rattle.gob_types.specs.declared.kind.Kind.{Kind}
use Rattle.gob_types.specs.declared.kind.Kind.TheVariants as kind
use Rattle.gob_types.specs.declared.kind.Marshal.TheVariants as marshal
use Rattle.gob_types.specs.declared.kind.Shape.{Shape}
use Rattle.gob_types.proofs.PublicLaws.{some_injective}
use Rattle.gob_json.specs.Json.{no_type, text_json}
use Rattle.gob_lines.specs.Complete.{AreFieldTypesReadable, ArePartsReadable, FillsIt, IsKindReadable, IsPartReadable}
use Rattle.gob_lines.specs.Definition.{IsFieldsJson, IsNewPart, IsPartJson, Part, ReadsPart, ReadsParts, SaysParts}
use Rattle.gob_lines.specs.Definition.{fields_array, kind_word, no_more, one_more, part_key, shape_parts}
use Rattle.gob_lines.specs.Definition.{IsMemberOrEnd, ReadsShape, with_part}
use Rattle.gob_lines.specs.Numbers.{IsNatural, ReadsSome}
use Rattle.gob_lines.specs.Reads.{IsWrong, Reads}
use Rattle.gob_lines.specs.declared.fault.LineFault.{LineFault}
use Rattle.gob_lines.specs.declared.definition_parts.KindName.{KindName}
use Rattle.gob_lines.specs.declared.definition_parts.KindName.TheVariants as named
use Rattle.gob_lines.specs.declared.definition_parts.Parts.{Parts}
use Rattle.gob_lines.proofs.FieldTypeLaws.{fields_once}
use Rattle.gob_lines.proofs.PartLaws.{natural_once}
use Rattle.gob_lines.proofs.PutLaws.{numbered}
use Rattle.gob_lines.proofs.UniqueLaws.{J, are_bytes, behind, first, text_of, text_said}

abbrev pub JM : Members → List Token
JM ms = members_tokens (members_outline ms)

-- ---- the key tells which part a member says

pub data SameKey : Part → Part → Type 0 where
  both_elem : {a b : TypeId} → SameKey (Part.elem a) (Part.elem b)
  both_fields : {a b : List Field} → SameKey (Part.fields a) (Part.fields b)
  both_key : {a b : TypeId} → SameKey (Part.key a) (Part.key b)
  both_kind_name : {a b : KindName} → SameKey (Part.kind_name a) (Part.kind_name b)
  both_len : {a b : ℕ} → SameKey (Part.len a) (Part.len b)
  both_name : {a b : List ℕ} → SameKey (Part.name a) (Part.name b)

pub same_key : (a b : Part) → part_key a ≡ part_key b → SameKey a b
same_key (Part.elem a) (Part.elem b) h = both_elem
same_key (Part.elem a) (Part.fields b) h = absurd (omega (arith, ap sum h))
same_key (Part.elem a) (Part.key b) h = absurd (omega (arith, ap sum h))
same_key (Part.elem a) (Part.kind_name b) h = absurd (omega (arith, ap sum h))
same_key (Part.elem a) (Part.len b) h = absurd (omega (arith, ap sum h))
same_key (Part.elem a) (Part.name b) h = absurd (omega (arith, ap sum h))
same_key (Part.fields a) (Part.elem b) h = absurd (omega (arith, ap sum h))
same_key (Part.fields a) (Part.fields b) h = both_fields
same_key (Part.fields a) (Part.key b) h = absurd (omega (arith, ap sum h))
same_key (Part.fields a) (Part.kind_name b) h = absurd (omega (arith, ap sum h))
same_key (Part.fields a) (Part.len b) h = absurd (omega (arith, ap sum h))
same_key (Part.fields a) (Part.name b) h = absurd (omega (arith, ap sum h))
same_key (Part.key a) (Part.elem b) h = absurd (omega (arith, ap sum h))
same_key (Part.key a) (Part.fields b) h = absurd (omega (arith, ap sum h))
same_key (Part.key a) (Part.key b) h = both_key
same_key (Part.key a) (Part.kind_name b) h = absurd (omega (arith, ap sum h))
same_key (Part.key a) (Part.len b) h = absurd (omega (arith, ap sum h))
same_key (Part.key a) (Part.name b) h = absurd (omega (arith, ap sum h))
same_key (Part.kind_name a) (Part.elem b) h = absurd (omega (arith, ap sum h))
same_key (Part.kind_name a) (Part.fields b) h = absurd (omega (arith, ap sum h))
same_key (Part.kind_name a) (Part.key b) h = absurd (omega (arith, ap sum h))
same_key (Part.kind_name a) (Part.kind_name b) h = both_kind_name
same_key (Part.kind_name a) (Part.len b) h = absurd (omega (arith, ap sum h))
same_key (Part.kind_name a) (Part.name b) h = absurd (omega (arith, ap sum h))
same_key (Part.len a) (Part.elem b) h = absurd (omega (arith, ap sum h))
same_key (Part.len a) (Part.fields b) h = absurd (omega (arith, ap sum h))
same_key (Part.len a) (Part.key b) h = absurd (omega (arith, ap sum h))
same_key (Part.len a) (Part.kind_name b) h = absurd (omega (arith, ap sum h))
same_key (Part.len a) (Part.len b) h = both_len
same_key (Part.len a) (Part.name b) h = absurd (omega (arith, ap sum h))
same_key (Part.name a) (Part.elem b) h = absurd (omega (arith, ap sum h))
same_key (Part.name a) (Part.fields b) h = absurd (omega (arith, ap sum h))
same_key (Part.name a) (Part.key b) h = absurd (omega (arith, ap sum h))
same_key (Part.name a) (Part.kind_name b) h = absurd (omega (arith, ap sum h))
same_key (Part.name a) (Part.len b) h = absurd (omega (arith, ap sum h))
same_key (Part.name a) (Part.name b) h = both_name

-- ---- the word tells the kind

abbrev by_sum : ℕ → KindName
by_sum n = if n == 543 then named.Array else if n == 528 then named.Slice else if n == 677 then named.Struct
    else if n == 318 then named.Map else if n == 312 then named.Opaque marshal.Gob
    else if n == 645 then named.Opaque marshal.Binary else named.Opaque marshal.Text

by_word : (w : KindName) → by_sum (sum (kind_word w)) ≡ w
by_word named.Array = refl
by_word named.Slice = refl
by_word named.Struct = refl
by_word named.Map = refl
by_word (named.Opaque marshal.Gob) = refl
by_word (named.Opaque marshal.Binary) = refl
by_word (named.Opaque marshal.Text) = refl

pub kind_once : (v w : KindName) → kind_word v ≡ kind_word w → v ≡ w
kind_once v w h = sym (by_word v) ∙ ap (λ l. by_sum (sum l)) h ∙ by_word w

-- ---- the part that was read is the one that stands there

pub elem_it : {a : TypeId} {n : ℕ} {part : Part} {old new rest : List Token} → SameKey (Part.elem a) part → n < 2 ^ 64
    → IsPartReadable part → ReadsSome (IsNatural n) old new → ReadsSome (IsPartJson part) old rest
    → (Part.elem (numbered n) ≡ part) × (new ≡ rest)
elem_it {old = old} {new = new} {rest = rest} both_elem small fits got said =
    let r = natural_once old new rest small fits got.is got.reads said.is said.reads in
    (ap (λ (i : ℕ). Part.elem (numbered i)) r.0, r.1)

pub key_it : {a : TypeId} {n : ℕ} {part : Part} {old new rest : List Token} → SameKey (Part.key a) part → n < 2 ^ 64
    → IsPartReadable part → ReadsSome (IsNatural n) old new → ReadsSome (IsPartJson part) old rest
    → (Part.key (numbered n) ≡ part) × (new ≡ rest)
key_it {old = old} {new = new} {rest = rest} both_key small fits got said =
    let r = natural_once old new rest small fits got.is got.reads said.is said.reads in
    (ap (λ (i : ℕ). Part.key (numbered i)) r.0, r.1)

pub len_it : {a n : ℕ} {part : Part} {old new rest : List Token} → SameKey (Part.len a) part → n < 2 ^ 64
    → IsPartReadable part → ReadsSome (IsNatural n) old new → ReadsSome (IsPartJson part) old rest
    → (Part.len n ≡ part) × (new ≡ rest)
len_it {old = old} {new = new} {rest = rest} both_len small fits got said =
    let r = natural_once old new rest small fits got.is got.reads said.is said.reads in
    (ap Part.len r.0, r.1)

-- what a call answers that reads the fields
abbrev pub ReadsFieldTypes : (read : List Field → List Token → Type 0) → (old : List Token) → Type 0
ReadsFieldTypes read old = (fs : List Field) (rest : List Token) → AreFieldTypesReadable fs
    → ReadsSome (IsFieldsJson fs) old rest → read fs rest

pub fields_it : {a fs : List Field} {part : Part} {old new rest : List Token} → SameKey (Part.fields a) part
    → IsPartReadable part → ReadsFieldTypes (λ gs rest. (fs ≡ gs) × (new ≡ rest)) old
    → ReadsSome (IsPartJson part) old rest → (Part.fields fs ≡ part) × (new ≡ rest)
fields_it {rest = rest} (both_fields {b = gs}) readable whole said =
    let r = whole gs rest readable (record { json = said.json; is = said.is; reads = said.reads }) in
    (ap Part.fields r.0, r.1)

pub no_fields : {a : List Field} {part : Part} {old rest : List Token} {f : Type 0} → SameKey (Part.fields a) part
    → IsPartReadable part → ReadsFieldTypes (λ gs rest. f) old → ReadsSome (IsPartJson part) old rest → f
no_fields {rest = rest} (both_fields {b = gs}) readable whole said =
    whole gs rest readable (record { json = said.json; is = said.is; reads = said.reads })

-- what a call answers that reads a name
abbrev pub ReadsName : (read : List ℕ → List Token → Type 0) → (old : List Token) → Type 0
ReadsName read old = (b : List ℕ) (rest : List Token) → IsBytes b → Reads (text_json b) old rest → read b rest

pub no_name : {a : List ℕ} {part : Part} {old rest : List Token} {f : Type 0} → SameKey (Part.name a) part
    → IsPartReadable part → ReadsName (λ c rest. f) old → ReadsSome (IsPartJson part) old rest → f
no_name {rest = rest} (both_name {b = c}) bytes whole said =
    whole c rest (are_bytes c bytes) (said.reads ∙ ap (λ d. J d ++ rest) said.is)

-- it is among the parts
pub put_it : {a b : Part} {new rest : List Token} (p : Parts) → (a ≡ b) × (new ≡ rest)
    → (with_part a p ≡ with_part b p) × (new ≡ rest)
put_it p h = (ap (λ (q : Part). with_part q p) h.0, h.1)

pub adds_part : {key : List ℕ} {old new : List Token} (part : Part) (p : Parts) (j : Data) → key ≡ part_key part
    → IsNewPart part p → IsPartJson part j → Reads j old new → ReadsPart p key (with_part part p) old new
adds_part part p j keyed fresh is reads = record {
  part = part;
  named = sym keyed;
  fresh = fresh;
  adds = refl;
  reads = record { json = j; is = is; reads = reads };
}

pub fault_fills : {A : Type 0} (r : Result A LineFault) (e : LineFault) (now all : Parts) (new rest : List Token)
    → IsErrAnd r (λ x. x ≡ e) → ¬ IsWrong e → FillsIt r now all new rest
fault_fills (Ok a) e now all new rest is h = absurd is
fault_fills (Err x) e now all new rest is h = λ w. h (subst (λ (y : LineFault). IsWrong y) is w)

-- ---- one member behind another

-- behind the key of a member that none before is, its value and the other members stand
pub record PartStands (p all : Parts) (key : List ℕ) (now rest : List Token) : Type 0 where
  pub part : Part
  pub same : part_key part ≡ key
  pub fresh : IsNewPart part p
  pub members : Members
  pub says : SaysParts (with_part part p) members all
  pub value : ReadsSome (IsPartJson part) now (JM members ++ rest)

stands_at : {p all : Parts} {ms : Members} {old now rest : List Token} (key : List ℕ) → SaysParts p ms all
    → old ≡ Token.key key ∷ now → old ≡ JM ms ++ rest → PartStands p all key now rest
stands_at key no_more h s = let f = ap first (sym h ∙ s) in absurd (cc)
stands_at {rest = rest} key (one_more {j = j} {ms = ms} part fresh is says) h s =
    let e = sym h ∙ s in
    record {
      part = part;
      same = ap (λ l. text_of (first l)) (sym e);
      fresh = fresh;
      members = ms;
      says = says;
      value = record { json = j; is = is; reads = ap behind e ∙ append_assoc (J j) (JM ms) rest };
    }

pub part_stands : {p all : Parts} {old now rest : List Token} (key : List ℕ) → ReadsParts p all old rest
    → old ≡ Token.key key ∷ now → PartStands p all key now rest
part_stands key r h = stands_at key r.says h r.reads

-- no other member stands before the end
ends_at : {p all : Parts} {ms : Members} {old now rest : List Token} → SaysParts p ms all
    → old ≡ Token.end_object ∷ now → old ≡ JM ms ++ rest → (p ≡ all) × (now ≡ rest)
ends_at no_more h s = (refl, ap behind (sym h ∙ s))
ends_at (one_more part fresh is says) h s = let f = ap first (sym h ∙ s) in absurd (cc)

pub parts_end : {p all : Parts} {old now rest : List Token} → ReadsParts p all old rest
    → old ≡ Token.end_object ∷ now → (p ≡ all) × (now ≡ rest)
parts_end r h = ends_at r.says h r.reads

begins_at : {p all : Parts} {ms : Members} {old : List Token} (rest : List Token) → SaysParts p ms all
    → old ≡ JM ms ++ rest → IsMemberOrEnd old
begins_at rest no_more s = subst (λ (l : List Token). IsMemberOrEnd l) (sym s) tt
begins_at rest (one_more part fresh is says) s = subst (λ (l : List Token). IsMemberOrEnd l) (sym s) tt

pub parts_begin : {p all : Parts} {old rest : List Token} → ReadsParts p all old rest → IsMemberOrEnd old
parts_begin {rest = rest} r = begins_at rest r.says r.reads

-- behind parts that were read others may stand
pub part_before : {p q all : Parts} {key : List ℕ} {old now new rest : List Token} → old ≡ Token.key key ∷ now
    → ReadsPart p key q now new → ReadsParts q all new rest → ReadsParts p all old rest
part_before {p = p} {all = all} {now = now} {rest = rest} h got r =
    let j = got.reads.json in
    record {
      members = member (part_key got.part) j r.members;
      says = one_more got.part got.fresh got.reads.is
          (subst (λ (q : Parts). SaysParts q r.members all) got.adds r.says);
      reads = h ∙ ap (λ k. Token.key k ∷ now) (sym got.named)
          ∙ ap (λ (l : List Token). Token.key (part_key got.part) ∷ l)
          (got.reads.reads ∙ ap (λ (l : List Token). J j ++ l) r.reads ∙ sym (append_assoc (J j) (JM r.members) rest));
    }

-- it was read
pub part_behind : {p q all : Parts} {key : List ℕ} {now new rest : List Token} (n : PartStands p all key now rest)
    → (q ≡ with_part n.part p) × (new ≡ JM n.members ++ rest) → ReadsParts q all new rest
part_behind {all = all} n e = record {
  members = n.members;
  says = subst (λ (q : Parts). SaysParts q n.members all) (sym e.0) n.says;
  reads = e.1;
}

-- ---- parts that the line can be read of

missing : {A : Type 0} (P : A → Type 0) (o : Option A) → o ≡ None → IfSome o P
missing P None e = tt
missing P (Some a) e = absurd (cc)

pub readable_step : {p : Parts} (part : Part) → IsNewPart part p → ArePartsReadable (with_part part p)
    → ArePartsReadable p × IsPartReadable part
readable_step {p = p} (Part.elem e) h r =
    let none = missing (λ (e : TypeId). e.0 < 2 ^ 64) p.elem h in
    (record { elem = none; fields = r.fields; key = r.key; len = r.len; name = r.name }, r.elem)
readable_step {p = p} (Part.fields fs) h r =
    let none = missing AreFieldTypesReadable p.fields h in
    (record { elem = r.elem; fields = none; key = r.key; len = r.len; name = r.name }, r.fields)
readable_step {p = p} (Part.key k) h r =
    let none = missing (λ (k : TypeId). k.0 < 2 ^ 64) p.key h in
    (record { elem = r.elem; fields = r.fields; key = none; len = r.len; name = r.name }, r.key)
readable_step {p = p} (Part.kind_name w) h r =
    (record { elem = r.elem; fields = r.fields; key = r.key; len = r.len; name = r.name }, tt)
readable_step {p = p} (Part.len n) h r =
    let none = missing (λ (n : ℕ). n < 2 ^ 64) p.len h in
    (record { elem = r.elem; fields = r.fields; key = r.key; len = none; name = r.name }, r.len)
readable_step {p = p} (Part.name n) h r =
    (record { elem = r.elem; fields = r.fields; key = r.key; len = r.len; name = missing AreBytes p.name h }, r.name)

pub readable_before : {p q : Parts} {ms : Members} → SaysParts p ms q → ArePartsReadable q → ArePartsReadable p
readable_before no_more r = r
readable_before (one_more part fresh is says) r = (readable_step part fresh (readable_before says r)).0

pub part_readable : {p all : Parts} {key : List ℕ} {now rest : List Token} (n : PartStands p all key now rest)
    → ArePartsReadable all → IsPartReadable n.part
part_readable n r = (readable_step n.part n.fresh (readable_before n.says r)).1

pub shape_parts_readable : (k : Kind) (name : List ℕ) → IsKindReadable k → AreBytes name
    → ArePartsReadable (shape_parts k name)
shape_parts_readable (kind.Basic b) name r h = absurd r
shape_parts_readable (kind.Array e n) name r h =
    record { elem = r.0; fields = tt; key = tt; len = r.1; name = h }
shape_parts_readable (kind.Slice e) name r h = record { elem = r; fields = tt; key = tt; len = tt; name = h }
shape_parts_readable (kind.Struct fs) name r h = record { elem = tt; fields = r; key = tt; len = tt; name = h }
shape_parts_readable (kind.Map k e) name r h = record { elem = r.1; fields = tt; key = r.0; len = tt; name = h }
shape_parts_readable (kind.Opaque m) name r h = record { elem = tt; fields = tt; key = tt; len = tt; name = h }

-- ---- the parts tell the shape

pub shape_named : (k : Kind) (name : List ℕ) → IsKindReadable k → (shape_parts k name).name ≡ Some name
shape_named (kind.Basic b) name r = absurd r
shape_named (kind.Array e n) name r = refl
shape_named (kind.Slice e) name r = refl
shape_named (kind.Struct fs) name r = refl
shape_named (kind.Map k e) name r = refl
shape_named (kind.Opaque m) name r = refl

-- the kind that has these parts
abbrev kind_of : Option KindName → Parts → Option Kind
kind_of None p = None
kind_of (Some named.Array) p = Some (kind.Array (unwrap_or p.elem no_type) (unwrap_or p.len 0))
kind_of (Some named.Slice) p = Some (kind.Slice (unwrap_or p.elem no_type))
kind_of (Some named.Struct) p = Some (kind.Struct (unwrap_or p.fields []))
kind_of (Some named.Map) p = Some (kind.Map (unwrap_or p.key no_type) (unwrap_or p.elem no_type))
kind_of (Some (named.Opaque m)) p = Some (kind.Opaque m)

abbrev unless_basic : Kind → Option Kind
unless_basic (kind.Basic b) = None
unless_basic k = Some k

kind_told : (k : Kind) (name : List ℕ) → kind_of (shape_parts k name).kind (shape_parts k name) ≡ unless_basic k
kind_told (kind.Basic b) name = refl
kind_told (kind.Array e n) name = refl
kind_told (kind.Slice e) name = refl
kind_told (kind.Struct fs) name = refl
kind_told (kind.Map k e) name = refl
kind_told (kind.Opaque m) name = refl

unless_is : (k : Kind) {l : Kind} → unless_basic k ≡ Some l → k ≡ l
unless_is (kind.Basic b) h = absurd (cc)
unless_is (kind.Array e n) h = some_injective h
unless_is (kind.Slice e) h = some_injective h
unless_is (kind.Struct fs) h = some_injective h
unless_is (kind.Map k e) h = some_injective h
unless_is (kind.Opaque m) h = some_injective h

kind_is : (k l : Kind) → unless_basic k ≡ unless_basic l → IsKindReadable l → k ≡ l
kind_is k (kind.Basic b) h r = absurd r
kind_is k (kind.Array e n) h r = unless_is k h
kind_is k (kind.Slice e) h r = unless_is k h
kind_is k (kind.Struct fs) h r = unless_is k h
kind_is k (kind.Map j e) h r = unless_is k h
kind_is k (kind.Opaque m) h r = unless_is k h

pub shape_once : (k l : Kind) (m n : List ℕ) → IsKindReadable l → shape_parts k m ≡ shape_parts l n
    → (k ≡ l) × (m ≡ n)
shape_once k l m n readable h =
    let same = kind_is k l (sym (kind_told k m) ∙ ap (λ (p : Parts). kind_of p.kind p) h ∙ kind_told l n) readable in (
      same,
      some_injective (sym (shape_named l m readable) ∙ ap (λ (j : Kind). (shape_parts j m).name) (sym same)
          ∙ ap (λ (p : Parts). p.name) h ∙ shape_named l n readable),
    )

-- ---- the tokens tell the parts

part_once : {a b : Part} (j k : Data) (x y : List Token) → SameKey a b → IsPartReadable a → IsPartReadable b
    → IsPartJson a j → IsPartJson b k → J j ++ x ≡ J k ++ y → (a ≡ b) × (x ≡ y)
part_once j k x y both_elem p q n m h =
    let r = natural_once (J j ++ x) x y p q n refl m h in
    (ap (λ (i : ℕ). Part.elem (numbered i)) r.0, r.1)
part_once j k x y both_fields p q (fields_array are) (fields_array be) h =
    let r = fields_once x y p q are be (ap behind h) in
    (ap Part.fields r.0, r.1)
part_once j k x y both_key p q n m h =
    let r = natural_once (J j ++ x) x y p q n refl m h in
    (ap (λ (i : ℕ). Part.key (numbered i)) r.0, r.1)
part_once j k x y (both_kind_name {a = v} {b = w}) p q n m h =
    let e = sym (ap (λ d. J d ++ x) n) ∙ h ∙ ap (λ d. J d ++ y) m in
    (ap Part.kind_name (kind_once v w (ap (λ l. text_of (first l)) e)), ap behind e)
part_once j k x y both_len p q n m h =
    let r = natural_once (J j ++ x) x y p q n refl m h in
    (ap Part.len r.0, r.1)
part_once j k x y (both_name {a = b} {b = c}) p q n m h =
    let r = text_said b c x y (are_bytes b p) (are_bytes c q)
    (sym (ap (λ d. J d ++ x) n) ∙ h ∙ ap (λ d. J d ++ y) m) in
    (ap Part.name r.value, r.rest)

parts_once : {p q r : Parts} {ms ns : Members} (x y : List Token) → SaysParts p ms q → SaysParts p ns r
    → ArePartsReadable q → ArePartsReadable r → JM ms ++ x ≡ JM ns ++ y → (q ≡ r) × (x ≡ y)
parts_once x y no_more no_more f g h = (refl, ap behind h)
parts_once x y no_more (one_more b fresh is says) f g h = let e = ap first h in absurd (cc)
parts_once x y (one_more a fresh is says) no_more f g h = let e = ap first h in absurd (cc)
parts_once {p = p} {r = r} x y (one_more {j = j} {ms = ms} a fa ia sa) (one_more {j = k} {ms = ns} b fb ib sb) f g h =
    let one = part_once j k (JM ms ++ x) (JM ns ++ y) (same_key a b (ap (λ l. text_of (first l)) h))
    (readable_step a fa (readable_before sa f)).1 (readable_step b fb (readable_before sb g)).1 ia ib
    (sym (append_assoc (J j) (JM ms) x) ∙ ap behind h ∙ append_assoc (J k) (JM ns) y) in
    parts_once x y sa (subst (λ (c : Part). SaysParts (with_part c p) ns r) (sym one.0) sb) f g one.1

abbrev pub shaped : List ℕ → Kind → Shape
shaped name k = record { name = name; kind = k }

pub shape_is : (s : Shape) {k : Kind} {name : List ℕ} → k ≡ s.kind → name ≡ s.name → shaped name k ≡ s
shape_is s {name = name} kind named =
    ap (shaped name) kind ∙ ap (λ (n : List ℕ). shaped n s.kind) named

-- what stands behind the id tells the shape, and where it ends
pub shape_said : {s t : Shape} {old x y : List Token} → IsKindReadable s.kind → AreBytes s.name → IsKindReadable t.kind
    → AreBytes t.name → ReadsShape s old x → ReadsShape t old y → (s ≡ t) × (x ≡ y)
shape_said {s = s} {t = t} {x = x} {y = y} readable bytes fits named one other =
    let parts = parts_once x y one.says other.says (shape_parts_readable s.kind s.name readable bytes)
    (shape_parts_readable t.kind t.name fits named) (sym one.reads ∙ other.reads) in
    let same = shape_once s.kind t.kind s.name t.name fits parts.0 in
    (shape_is t same.0 same.1, parts.1)
