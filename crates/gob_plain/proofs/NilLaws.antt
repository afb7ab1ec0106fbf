-- What is said of a value depends on what its nils say, and on nothing that is said of others.
use Rattle.std.proofs.Common.{◌≡◌, ℕ, zero, suc, ◌+◌, ◌<◌, List, Bool, true, false, Option, Some, None, refl, ap}
use Rattle.std.proofs.Common.{subst, ◌∙◌, arith, length}
use Rattle.std.specs.Prelude.{slice_get, if◌then◌else◌}
use Rattle.json.specs.Json.{Json, Items, Members}
use Rattle.json.specs.Json as json
use Rattle.gob_types.specs.declared.basic.Basic.TheVariants as basic
use Rattle.gob_types.specs.declared.id.TypeId.{TypeId}
use Rattle.gob_types.specs.declared.kind.Field.{Field}
use Rattle.gob_types.specs.declared.kind.Kind.{Kind}
use Rattle.gob_types.specs.declared.kind.Kind.TheVariants as type
use Rattle.gob_types.specs.declared.kind.Shape.{Shape}
use Rattle.gob_types.specs.Table.{Table, shape_of}
use Rattle.gob_types.proofs.PublicLaws.{some_injective}
use Rattle.gob_value.specs.Tree.{Tree, Trees, no_tree, tree, Pairs, no_pair, pair, Fields, no_field, field}
use Rattle.gob_value.specs.Tree as Value
use Rattle.gob_json.specs.Json.{element_type, key_type, struct_fields, field_type}
use Rattle.gob_plain.specs.declared.style.Style.{Style}
use Rattle.gob_plain.specs.OpaqueText.{Takes}
use Rattle.gob_plain.specs.Plain.{IsMapOf, are_named, may_be_named, nils, nils_of_each, nils_of_members}
use Rattle.gob_plain.specs.Plain.{nils_of_pairs}
use Rattle.gob_plain.specs.Plain.{nils_of_fields, behind, SaysWith, SayEachWith, SayMembersWith, SayPairsWith}
use Rattle.gob_plain.specs.Plain.{SayFieldsWith}
use Rattle.gob_plain.specs.Filled.{zero_by, zero_of, zero_at, put_before, zeros_before, between, fields_filled}
use Rattle.gob_plain.specs.Filled.{filled, all_filled, pairs_filled, nils_in, nils_of_each_in, nils_of_members_in}
use Rattle.gob_plain.specs.Filled.{nils_of_pairs_in}
use Rattle.gob_plain.specs.Filled.{nils_of_fields_in}
use Rattle.gob_plain.proofs.MapLaws.{named_filled}

-- ---- what other nils say

-- of the first m nils the second says what the first says
abbrev pub SaysAsMuch : ℕ → (M N : ℕ → Json → Type 0) → Type 0
SaysAsMuch m M N = (k : ℕ) → k < m → (j : Json) → M k j → N k j

of_first : (M N : ℕ → Json → Type 0) (a b : ℕ) → SaysAsMuch (a + b) M N → SaysAsMuch a M N
of_first M N a b f = λ k l. f k (omega (arith, l))

of_rest : (M N : ℕ → Json → Type 0) (a b : ℕ) → SaysAsMuch (a + b) M N → SaysAsMuch b (behind a M) (behind a N)
of_rest M N a b f = λ k l. f (a + k) (omega (arith, l))

-- a map is an object or an array by its keys
map_as_much : (M N : ℕ → Json → Type 0) (P P' : Members → Type 0) (Q Q' : Items → Type 0) (named held : Bool)
    (a b : ℕ) (j : Json)
    → SaysAsMuch (if named then a else b) M N
    → (SaysAsMuch a M N → (ms : Members) → P ms → P' ms)
    → (SaysAsMuch b M N → (js : Items) → Q js → Q' js) → IsMapOf named held P Q j → IsMapOf named held P' Q' j
map_as_much M N P P' Q Q' true held a b j f g h s = (s.0, s.1, g f s.0 s.2)
map_as_much M N P P' Q Q' false held a b j f g h s = (s.0, s.1, h f s.0 s.2)

mutual
  pub says_as_much : (M N : ℕ → Json → Type 0) (how : Takes) (T : Table) (t : TypeId) (v : Tree) (j : Json)
      → SaysAsMuch (nils T t v) M N → SaysWith M how T t v j → SaysWith N how T t v j
  says_as_much M N how T t (Value.bool x) j f s = s
  says_as_much M N how T t (Value.int i) j f s = s
  says_as_much M N how T t (Value.uint n) j f s = s
  says_as_much M N how T t (Value.float p) j f s = s
  says_as_much M N how T t (Value.complex p q) j f s = s
  says_as_much M N how T t (Value.bytes b) j f s = s
  says_as_much M N how T t (Value.text b) j f s = s
  says_as_much M N how T t (Value.opaque b) j f s = s
  says_as_much M N how T t Value.nil j f s = f 0 (omega arith) j s
  says_as_much M N how T t (Value.many vs) j f s =
      (s.0, s.1, each_as_much M N how T (element_type (shape_of T t)) vs s.0 f s.2)
  says_as_much M N how T t (Value.pairs ps) j f s =
      map_as_much M N
      (λ ms. SayMembersWith M how T (element_type (shape_of T t)) ps ms)
      (λ ms. SayMembersWith N how T (element_type (shape_of T t)) ps ms)
      (λ js. SayPairsWith M how T (key_type (shape_of T t)) (element_type (shape_of T t)) ps js)
      (λ js. SayPairsWith N how T (key_type (shape_of T t)) (element_type (shape_of T t)) ps js)
      (are_named (key_type (shape_of T t)) ps) (may_be_named (key_type (shape_of T t)) ps)
      (nils_of_members T (element_type (shape_of T t)) ps)
      (nils_of_pairs T (key_type (shape_of T t)) (element_type (shape_of T t)) ps) j f
      (λ g ms. members_as_much M N how T (element_type (shape_of T t)) ps ms g)
      (λ g js. pairs_as_much M N how T (key_type (shape_of T t)) (element_type (shape_of T t)) ps js g) s
  says_as_much M N how T t (Value.fields fs) j f s =
      (s.0, s.1, fields_as_much M N how T (struct_fields (shape_of T t)) fs s.0 f s.2)

  pub each_as_much : (M N : ℕ → Json → Type 0) (how : Takes) (T : Table) (e : TypeId) (vs : Trees) (js : Items)
      → SaysAsMuch (nils_of_each T e vs) M N → SayEachWith M how T e vs js → SayEachWith N how T e vs js
  each_as_much M N how T e no_tree json.no_items f s = tt
  each_as_much M N how T e no_tree (json.item j js) f s = absurd s
  each_as_much M N how T e (tree v vs) json.no_items f s = absurd s
  each_as_much M N how T e (tree v vs) (json.item j js) f s = (
    says_as_much M N how T e v j (of_first M N (nils T e v) (nils_of_each T e vs) f) s.0,
    each_as_much (behind (nils T e v) M) (behind (nils T e v) N) how T e vs js
        (of_rest M N (nils T e v) (nils_of_each T e vs) f) s.1,
  )

  pub members_as_much : (M N : ℕ → Json → Type 0) (how : Takes) (T : Table) (e : TypeId) (ps : Pairs) (ms : Members)
      → SaysAsMuch (nils_of_members T e ps) M N → SayMembersWith M how T e ps ms → SayMembersWith N how T e ps ms
  members_as_much M N how T e no_pair json.no_members f s = tt
  members_as_much M N how T e no_pair (json.member name j ms) f s = absurd s
  members_as_much M N how T e (pair x v ps) json.no_members f s = absurd s
  members_as_much M N how T e (pair x v ps) (json.member name j ms) f s = (
    s.0,
    says_as_much M N how T e v j (of_first M N (nils T e v) (nils_of_members T e ps) f) s.1,
    members_as_much (behind (nils T e v) M) (behind (nils T e v) N) how T e ps ms
        (of_rest M N (nils T e v) (nils_of_members T e ps) f) s.2,
  )

  pub pairs_as_much : (M N : ℕ → Json → Type 0) (how : Takes) (T : Table) (k e : TypeId) (ps : Pairs) (js : Items)
      → SaysAsMuch (nils_of_pairs T k e ps) M N → SayPairsWith M how T k e ps js → SayPairsWith N how T k e ps js
  pairs_as_much M N how T k e no_pair json.no_items f s = tt
  pairs_as_much M N how T k e no_pair (json.item j js) f s = absurd s
  pairs_as_much M N how T k e (pair x v ps) json.no_items f s = absurd s
  pairs_as_much M N how T k e (pair x v ps) (json.item j js) f s =
      let others : SaysAsMuch (nils T e v + nils_of_pairs T k e ps) (behind (nils T k x) M) (behind (nils T k x) N) =
      of_rest M N (nils T k x) (nils T e v + nils_of_pairs T k e ps) f in (
        (
          s.0.0,
          s.0.1,
          s.0.2,
          says_as_much M N how T k x s.0.0 (of_first M N (nils T k x) (nils T e v + nils_of_pairs T k e ps) f) s.0.3,
          says_as_much (behind (nils T k x) M) (behind (nils T k x) N) how T e v s.0.1
              (of_first (behind (nils T k x) M) (behind (nils T k x) N) (nils T e v) (nils_of_pairs T k e ps) others)
              s.0.4,
        ),
        pairs_as_much (behind (nils T e v) (behind (nils T k x) M)) (behind (nils T e v) (behind (nils T k x) N)) how T
            k e ps js
            (of_rest (behind (nils T k x) M) (behind (nils T k x) N) (nils T e v) (nils_of_pairs T k e ps) others) s.1,
      )

  pub fields_as_much : (M N : ℕ → Json → Type 0) (how : Takes) (T : Table) (types : List Field) (fs : Fields)
      (ms : Members)
      → SaysAsMuch (nils_of_fields T types fs) M N → SayFieldsWith M how T types fs ms
      → SayFieldsWith N how T types fs ms
  fields_as_much M N how T types no_field json.no_members f s = tt
  fields_as_much M N how T types no_field (json.member name j ms) f s = absurd s
  fields_as_much M N how T types (field n v fs) json.no_members f s = absurd s
  fields_as_much M N how T types (field n v fs) (json.member name j ms) f s =
      let t = field_type (slice_get types n) in (
        s.0,
        says_as_much M N how T t v j (of_first M N (nils T t v) (nils_of_fields T types fs) f) s.1,
        fields_as_much (behind (nils T t v) M) (behind (nils T t v) N) how T types fs ms
            (of_rest M N (nils T t v) (nils_of_fields T types fs) f) s.2,
      )

-- ---- zeros have no nils

zero_by_none : (T : Table) (t : TypeId) (k : Kind) (z : Tree) → zero_by k ≡ Some z → nils T t z ≡ 0
zero_by_none T t (type.Basic basic.Bool) z e = subst (λ z. nils T t z ≡ 0) (some_injective e) refl
zero_by_none T t (type.Basic basic.Int) z e = subst (λ z. nils T t z ≡ 0) (some_injective e) refl
zero_by_none T t (type.Basic basic.Uint) z e = subst (λ z. nils T t z ≡ 0) (some_injective e) refl
zero_by_none T t (type.Basic basic.Float) z e = subst (λ z. nils T t z ≡ 0) (some_injective e) refl
zero_by_none T t (type.Basic basic.Bytes) z e = subst (λ z. nils T t z ≡ 0) (some_injective e) refl
zero_by_none T t (type.Basic basic.Str) z e = subst (λ z. nils T t z ≡ 0) (some_injective e) refl
zero_by_none T t (type.Basic basic.Complex) z e = subst (λ z. nils T t z ≡ 0) (some_injective e) refl
zero_by_none T t (type.Basic basic.Interface) z e = cc
zero_by_none T t (type.Slice e) z h = subst (λ z. nils T t z ≡ 0) (some_injective h) refl
zero_by_none T t (type.Array e n) z h = cc
zero_by_none T t (type.Struct types) z h = cc
zero_by_none T t (type.Map k e) z h = cc
zero_by_none T t (type.Opaque m) z h = cc

zero_none : (T : Table) (t : TypeId) (o : Option Field) (z : Tree) → zero_at T o ≡ Some z → nils T t z ≡ 0
zero_none T t None z e = cc
zero_none T t (Some f) z e = by (shape_of T f.id) e
  where
    by : (s : Option Shape) → zero_of s ≡ Some z → nils T t z ≡ 0
    by None e = cc
    by (Some s) e = zero_by_none T t s.kind z e

put_none : (T : Table) (types : List Field) (f : ℕ) (gs : Fields) (o : Option Tree) → zero_at T (slice_get types f) ≡ o
    → nils_of_fields T types (put_before f o gs) ≡ nils_of_fields T types gs
put_none T types f gs None e = refl
put_none T types f gs (Some z) e =
    let none : nils T (field_type (slice_get types f)) z ≡ 0 =
    zero_none T (field_type (slice_get types f)) (slice_get types f) z e in
    omega (arith, none)

zeros_none_counted : (T : Table) (types : List Field) (f n : ℕ) (fs : Fields)
    → nils_of_fields T types (zeros_before T types f n fs) ≡ nils_of_fields T types fs
zeros_none_counted T types f zero fs = refl
zeros_none_counted T types f (suc n) fs =
    put_none T types f (zeros_before T types (f + 1) n fs) (zero_at T (slice_get types f)) refl
    ∙ zeros_none_counted T types (f + 1) n fs

-- so what is said of a zero and of the fields behind it
pub zero_with : (N : ℕ → Json → Type 0) (how : Takes) (T : Table) (types : List Field) (f : ℕ) (z : Tree) (gs : Fields)
    (j : Json) (ms : Members) (M : ℕ → Json → Type 0)
    → zero_at T (slice_get types f) ≡ Some z
    → SaysWith M how T (field_type (slice_get types f)) z j → SayFieldsWith N how T types gs ms
    → SaysWith N how T (field_type (slice_get types f)) z j
    × SayFieldsWith (behind (nils T (field_type (slice_get types f)) z) N) how T types gs ms
zero_with N how T types f z gs j ms M e s h =
    let t = field_type (slice_get types f) in
    let none : nils T t z ≡ 0 = zero_none T t (slice_get types f) z e in (
      says_as_much M N how T t z j (λ k l. absurd (none_below k l none)) s,
      fields_as_much N (behind (nils T t z) N) how T types gs ms
          (λ k l i p. subst (λ n. N n i) (omega (arith, none)) p) h,
    )
  where
    none_below : (k : ℕ) {m : ℕ} → k < m → m ≡ 0 → ⊥
    none_below k l e = omega (arith, l, e)

-- ---- a value with its zeros has the nils that it has without them

as_many : {a b c d : ℕ} → a ≡ b → c ≡ d → a + c ≡ b + d
as_many {b = b} {c = c} e f = ap (λ n. n + c) e ∙ ap (λ n. b + n) f

either_same : (named : Bool) {a b c d : ℕ} → a ≡ b → c ≡ d → (if named then a else c) ≡ (if named then b else d)
either_same true e f = e
either_same false e f = f

mutual
  pub filled_nils : (T : Table) (t : TypeId) (v : Tree) → nils T t (filled T t v) ≡ nils T t v
  filled_nils T t (Value.many vs) = each_filled_nils T (element_type (shape_of T t)) vs
  filled_nils T t (Value.pairs ps) =
      let k = key_type (shape_of T t) in
      let e = element_type (shape_of T t) in
      let all = pairs_filled T k e ps in
      ap (λ b. if b then nils_of_members T e all else nils_of_pairs T k e all) (named_filled T k e ps)
      ∙ either_same (are_named k ps) (members_filled_nils T k e ps) (pairs_filled_nils T k e ps)
  filled_nils T t (Value.fields fs) = fields_filled_nils T (struct_fields (shape_of T t)) 0 fs
  filled_nils T t (Value.bool b) = refl
  filled_nils T t (Value.int i) = refl
  filled_nils T t (Value.uint n) = refl
  filled_nils T t (Value.float x) = refl
  filled_nils T t (Value.complex x y) = refl
  filled_nils T t (Value.bytes b) = refl
  filled_nils T t (Value.text b) = refl
  filled_nils T t Value.nil = refl
  filled_nils T t (Value.opaque b) = refl

  pub each_filled_nils : (T : Table) (e : TypeId) (vs : Trees)
      → nils_of_each T e (all_filled T e vs) ≡ nils_of_each T e vs
  each_filled_nils T e no_tree = refl
  each_filled_nils T e (tree v vs) = as_many (filled_nils T e v) (each_filled_nils T e vs)

  members_filled_nils : (T : Table) (k e : TypeId) (ps : Pairs)
      → nils_of_members T e (pairs_filled T k e ps) ≡ nils_of_members T e ps
  members_filled_nils T k e no_pair = refl
  members_filled_nils T k e (pair x v ps) = as_many (filled_nils T e v) (members_filled_nils T k e ps)

  pairs_filled_nils : (T : Table) (k e : TypeId) (ps : Pairs)
      → nils_of_pairs T k e (pairs_filled T k e ps) ≡ nils_of_pairs T k e ps
  pairs_filled_nils T k e no_pair = refl
  pairs_filled_nils T k e (pair x v ps) =
      as_many (filled_nils T k x) (as_many (filled_nils T e v) (pairs_filled_nils T k e ps))

  fields_filled_nils : (T : Table) (types : List Field) (from : ℕ) (fs : Fields)
      → nils_of_fields T types (fields_filled T types from fs) ≡ nils_of_fields T types fs
  fields_filled_nils T types from no_field =
      zeros_none_counted T types from (between types from (length types)) no_field
  fields_filled_nils T types from (field f v fs) =
      zeros_none_counted T types from (between types from f)
      (field f (filled T (field_type (slice_get types f)) v) (fields_filled T types (f + 1) fs))
      ∙ as_many (filled_nils T (field_type (slice_get types f)) v) (fields_filled_nils T types (f + 1) fs)

-- ---- how many nils parts have in a style

pub no_element_nils : (style : Style) (T : Table) (e : TypeId) → nils_of_each_in style T e no_tree ≡ 0
no_element_nils style T e = by style.zeros
  where
    by : (z : Bool) → nils_of_each T e (if z then all_filled T e no_tree else no_tree) ≡ 0
    by true = refl
    by false = refl

pub element_nils : (style : Style) (T : Table) (e : TypeId) (v : Tree) (vs : Trees)
    → nils_of_each_in style T e (tree v vs) ≡ nils_in style T e v + nils_of_each_in style T e vs
element_nils style T e v vs = by style.zeros
  where
    by : (z : Bool) → nils_of_each T e (if z then all_filled T e (tree v vs) else tree v vs)
        ≡ nils T e (if z then filled T e v else v) + nils_of_each T e (if z then all_filled T e vs else vs)
    by true = refl
    by false = refl

pub no_member_nils : (style : Style) (T : Table) (k e : TypeId) → nils_of_members_in style T k e no_pair ≡ 0
no_member_nils style T k e = by style.zeros
  where
    by : (z : Bool) → nils_of_members T e (if z then pairs_filled T k e no_pair else no_pair) ≡ 0
    by true = refl
    by false = refl

pub member_nils : (style : Style) (T : Table) (k e : TypeId) (x v : Tree) (ps : Pairs)
    → nils_of_members_in style T k e (pair x v ps) ≡ nils_in style T e v + nils_of_members_in style T k e ps
member_nils style T k e x v ps = by style.zeros
  where
    by : (z : Bool) → nils_of_members T e (if z then pairs_filled T k e (pair x v ps) else pair x v ps)
        ≡ nils T e (if z then filled T e v else v) + nils_of_members T e (if z then pairs_filled T k e ps else ps)
    by true = refl
    by false = refl

pub no_entry_nils : (style : Style) (T : Table) (k e : TypeId) → nils_of_pairs_in style T k e no_pair ≡ 0
no_entry_nils style T k e = by style.zeros
  where
    by : (z : Bool) → nils_of_pairs T k e (if z then pairs_filled T k e no_pair else no_pair) ≡ 0
    by true = refl
    by false = refl

pub entry_nils : (style : Style) (T : Table) (k e : TypeId) (x v : Tree) (ps : Pairs)
    → nils_of_pairs_in style T k e (pair x v ps)
    ≡ nils_in style T k x + (nils_in style T e v + nils_of_pairs_in style T k e ps)
entry_nils style T k e x v ps = by style.zeros
  where
    by : (z : Bool) → nils_of_pairs T k e (if z then pairs_filled T k e (pair x v ps) else pair x v ps)
        ≡ nils T k (if z then filled T k x else x)
        + (nils T e (if z then filled T e v else v) + nils_of_pairs T k e (if z then pairs_filled T k e ps else ps))
    by true = refl
    by false = refl

pub no_field_nils : (style : Style) (T : Table) (types : List Field) (from : ℕ)
    → nils_of_fields_in style T types from no_field ≡ 0
no_field_nils style T types from = by style.zeros
  where
    by : (z : Bool) → nils_of_fields T types (if z then fields_filled T types from no_field else no_field) ≡ 0
    by true = zeros_none_counted T types from (between types from (length types)) no_field
    by false = refl

pub field_nils : (style : Style) (T : Table) (types : List Field) (from f : ℕ) (v : Tree) (fs : Fields)
    → nils_of_fields_in style T types from (field f v fs)
    ≡ nils_in style T (field_type (slice_get types f)) v + nils_of_fields_in style T types (f + 1) fs
field_nils style T types from f v fs = by style.zeros
  where
    by : (z : Bool)
        → nils_of_fields T types (if z then fields_filled T types from (field f v fs) else field f v fs)
        ≡ nils T (field_type (slice_get types f)) (if z then filled T (field_type (slice_get types f)) v else v)
        + nils_of_fields T types (if z then fields_filled T types (f + 1) fs else fs)
    by true = zeros_none_counted T types from (between types from f)
        (field f (filled T (field_type (slice_get types f)) v) (fields_filled T types (f + 1) fs))
    by false = refl
