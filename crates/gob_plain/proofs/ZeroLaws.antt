-- What is written of absent fields says their zeros.
use Rattle.std.proofs.Common.{◌≡◌, ◌≢◌, ℕ, zero, suc, ◌+◌, List, [], ◌++◌, Bool, true, false, Option, Some, None, Ok}
use Rattle.std.proofs.Common.{refl, sym, ap, ◌∙◌, subst, append_assoc, append-nil, arith}
use Rattle.std.specs.Prelude.{slice_get, if◌then◌else◌}
use Rattle.json.specs.Json.{Json, Members}
use Rattle.json.specs.Json as json
use Rattle.json.specs.Token.{Token}
use Rattle.json.specs.Tree.{members_tokens}
use Rattle.json.specs.Written.{Written}
use Rattle.gob_types.specs.declared.basic.Basic.TheVariants as basic
use Rattle.gob_types.specs.declared.id.TypeId.{TypeId}
use Rattle.gob_types.specs.declared.kind.Field.{Field}
use Rattle.gob_types.specs.declared.kind.Kind.{Kind}
use Rattle.gob_types.specs.declared.kind.Kind.TheVariants as type
use Rattle.gob_types.specs.declared.kind.Shape.{Shape}
use Rattle.gob_types.specs.Table.{Table, shape_of}
use Rattle.gob_types.proofs.PublicLaws.{some_injective}
use Rattle.gob_value.specs.Tree.{Tree, Fields}
use Rattle.gob_tape.specs.declared.kind.ValueKind.{ValueKind}
use Rattle.gob_tape.specs.declared.kind.ValueKind.TheVariants as kind
use Rattle.gob_tape.specs.Seeing.{kind_of}
use Rattle.gob_json.specs.Json.{field_name, field_type}
use Rattle.gob_plain.specs.declared.style.Style.{Style}
use Rattle.gob_plain.specs.Leaf.{SaysLeaf}
use Rattle.gob_plain.specs.OpaqueText.{Takes}
use Rattle.gob_plain.specs.Plain.{Says, SayFields, name_text}
use Rattle.gob_plain.specs.Filled.{zero_by, zero_of, zero_at, put_before, zeros_before, between}
use Rattle.gob_plain.specs.AbsentFields.{AbsentTokens, SaysZero, ZeroTokens, shown_kind, zero_kind_at}
use Rattle.gob_plain.specs.WritesPlain.{WritesSome}
use Rattle.gob_plain.proofs.SomeLaws.{MemberTokens}

-- ---- the zero of a field

pub zero_leaf : (k : ValueKind) (j : Json) → (k ≢ kind.Many) → SaysLeaf k 0 0 [] j → SaysZero k j
zero_leaf kind.Many j n h = absurd (n refl)
zero_leaf kind.Bool j n h = h
zero_leaf kind.Int j n h = h
zero_leaf kind.Uint j n h = h
zero_leaf kind.Float j n h = h
zero_leaf kind.Complex j n h = h
zero_leaf kind.Bytes j n h = h
zero_leaf kind.Str j n h = h
zero_leaf kind.Nil j n h = h
zero_leaf kind.Pairs j n h = h
zero_leaf kind.Fields j n h = h
zero_leaf kind.Opaque j n h = h

-- what is said of the zero of a kind
ZeroSays : Takes → Table → TypeId → Json → Tree → Type 0
ZeroSays how T t j z = SaysZero (kind_of z) j → Says how T t z j

zero_says : (how : Takes) (T : Table) (t : TypeId) (j : Json) (k : Kind) (z : Tree) → zero_by k ≡ Some z
    → ZeroSays how T t j z
unfolding ZeroSays
zero_says how T t j (type.Basic basic.Bool) z e = subst (ZeroSays how T t j) (some_injective e) (λ h. h)
zero_says how T t j (type.Basic basic.Int) z e = subst (ZeroSays how T t j) (some_injective e) (λ h. h)
zero_says how T t j (type.Basic basic.Uint) z e = subst (ZeroSays how T t j) (some_injective e) (λ h. h)
zero_says how T t j (type.Basic basic.Float) z e = subst (ZeroSays how T t j) (some_injective e) (λ h. h)
zero_says how T t j (type.Basic basic.Bytes) z e = subst (ZeroSays how T t j) (some_injective e) (λ h. h)
zero_says how T t j (type.Basic basic.Str) z e = subst (ZeroSays how T t j) (some_injective e) (λ h. h)
zero_says how T t j (type.Basic basic.Complex) z e = subst (ZeroSays how T t j) (some_injective e) (λ h. h)
zero_says how T t j (type.Basic basic.Interface) z e = cc
zero_says how T t j (type.Slice e) z h =
    subst (ZeroSays how T t j) (some_injective h) (λ s. (json.no_items, s, tt))
zero_says how T t j (type.Array e n) z h = cc
zero_says how T t j (type.Struct types) z h = cc
zero_says how T t j (type.Map k e) z h = cc
zero_says how T t j (type.Opaque m) z h = cc

-- a zero of this kind
record HasZeroOf (o : Option Tree) (k : ValueKind) : Type 0 where
  value : Tree
  is : o ≡ Some value
  kind : kind_of value ≡ k

has_zero_of : (o : Option Tree) (k : ValueKind) → shown_kind o ≡ Some k → HasZeroOf o k
has_zero_of None k e = cc
has_zero_of (Some v) k e = record { value = v; is = refl; kind = some_injective e }

zero_at_says : (how : Takes) (T : Table) (o : Option Field) (j : Json) (z : Tree) → zero_at T o ≡ Some z
    → SaysZero (kind_of z) j → Says how T (field_type o) z j
unfolding ZeroSays
zero_at_says how T None j z e = cc
zero_at_says how T (Some f) j z e = by (shape_of T f.id) e
  where
    by : (s : Option Shape) → zero_of s ≡ Some z → SaysZero (kind_of z) j → Says how T f.id z j
    by None e = cc
    by (Some s) e = zero_says how T f.id j s.kind z e

-- ---- tokens of zeros

pub one_zero : (T : Table) (types : List Field) (f : ℕ) (k : ValueKind) (ts : List Token)
    → zero_kind_at T (slice_get types f) ≡ Some k
    → MemberTokens (name_text (field_name (slice_get types f))) (SaysZero k) ts → ZeroTokens T types f 1 ts
one_zero T types f k ts e p = λ how fs ms h.
    let z = has_zero_of (zero_at T (slice_get types f)) k e in
    let name = name_text (field_name (slice_get types f)) in
    let said = zero_at_says how T (slice_get types f) p.0 z.value z.is (subst (λ k. SaysZero k p.0)
    (sym z.kind) p.1) in (
      json.member name p.0 ms,
      subst (λ o. SayFields how T types (put_before f o fs) (json.member name p.0 ms)) (sym z.is) (refl, said, h),
      ap (λ (l : List Token). l ++ members_tokens ms) p.2,
    )

none_shown : (o : Option Tree) → shown_kind o ≡ None → o ≡ None
none_shown None e = refl
none_shown (Some v) e = cc

pub no_zero : (T : Table) (types : List Field) (f : ℕ) → zero_kind_at T (slice_get types f) ≡ None
    → ZeroTokens T types f 1 []
no_zero T types f e = λ how fs ms h. (
  ms,
  subst (λ o. SayFields how T types (put_before f o fs) ms) (sym (none_shown (zero_at T (slice_get types f)) e)) h,
  refl,
)

zeros_more : (T : Table) (types : List Field) (f n : ℕ) (fs : Fields)
    → zeros_before T types f (suc n) fs ≡ zeros_before T types f n (zeros_before T types (f + n) 1 fs)
zeros_more T types f zero fs = ap (λ g. put_before g (zero_at T (slice_get types g)) fs) (omega arith)
zeros_more T types f (suc n) fs =
    ap (λ gs. put_before f (zero_at T (slice_get types f)) gs) (zeros_more T types (f + 1) n fs
    ∙ ap (λ g. zeros_before T types (f + 1) n (zeros_before T types g 1 fs)) (omega arith))

pub zeros_then : (T : Table) (types : List Field) (f n : ℕ) (xs ys : List Token) → ZeroTokens T types f n xs
    → ZeroTokens T types (f + n) 1 ys → ZeroTokens T types f (suc n) (xs ++ ys)
zeros_then T types f n xs ys p q = λ how fs ms h.
    let last = q how fs ms h in
    let all = p how (zeros_before T types (f + n) 1 fs) last.0 last.1 in (
      all.0,
      subst (λ gs. SayFields how T types gs all.0) (sym (zeros_more T types f n fs)) all.1,
      append_assoc xs ys (members_tokens ms) ∙ ap (λ (l : List Token). xs ++ l) last.2 ∙ all.2,
    )

pub zeros_none : (T : Table) (types : List Field) (f : ℕ) → ZeroTokens T types f 0 []
zeros_none T types f = λ how fs ms h. (ms, h, refl)

-- ---- in a style

pub absent_none : (style : Style) (T : Table) (types : List Field) (from to : ℕ) → style.zeros ≡ false
    → AbsentTokens style T types from to []
absent_none style T types from to e = λ how fs ms h. (
  ms,
  subst (λ (z : Bool). SayFields how T types (if z then zeros_before T types from
      (between types from to) fs else fs) ms)
      (sym e) h,
  refl,
)

pub absent_zeros : (style : Style) (T : Table) (types : List Field) (from to : ℕ) (ts : List Token)
    → style.zeros ≡ true → ZeroTokens T types from (between types from to) ts → AbsentTokens style T types from to ts
absent_zeros style T types from to ts e p = λ how fs ms h.
    let all = p how fs ms h in (
      all.0,
      subst (λ (z : Bool). SayFields how T types (if z then zeros_before T types from
          (between types from to) fs else fs)
          all.0) (sym e) all.1,
      all.2,
    )

-- ---- nothing written

pub some_nothing : {E : Type 0} {u : Unit {0}} {old : Written} {P : List Token → Type 0} → P []
    → WritesSome {E = E} (Ok u) old old P
some_nothing {old = old} p = record { tokens = ([], p, sym (append-nil old.tokens)); before = refl }
