-- What is said of a value in a style, by what is said of its parts.
use Rattle.std.proofs.Common.{◌≡◌, ◌≢◌, ℕ, ◌+◌, ◌-◌, ◌≤◌, List, ◌++◌, Bool, true, false, refl, sym, ap, subst, ◌∙◌}
use Rattle.std.proofs.Common.{arith, min, length, ◌^◌, inl, inr, zero, suc, [], ◌∷◌, append_assoc, Option, Some, None}
use Rattle.std.proofs.lemmas.List.{append_cancel_right}
use Rattle.std.proofs.lemmas.Bool.{cases_lt}
use Rattle.std.specs.Prelude.{slice_get, if◌then◌else◌}
use Rattle.json.specs.Json.{Json, Items, Members}
use Rattle.json.specs.Json as json
use Rattle.json.specs.Token.{Token}
use Rattle.json.specs.Tree.{json_tokens, members_tokens}
use Rattle.gob_types.specs.declared.id.TypeId.{TypeId}
use Rattle.gob_types.specs.declared.kind.Field.{Field}
use Rattle.gob_types.specs.Table.{Table, shape_of}
use Rattle.gob_value.specs.Tree.{Tree, Trees, no_tree, tree, Pairs, no_pair, pair, Fields, no_field, field}
use Rattle.gob_value.specs.Tree as Value
use Rattle.gob_tape.specs.declared.kind.ValueKind.TheVariants as kind
use Rattle.gob_tape.specs.Seeing.{kind_of}
use Rattle.gob_json.specs.Json.{element_type, key_type, struct_fields, field_name, field_type}
use Rattle.gob_plain.specs.declared.style.Style.{Style}
use Rattle.gob_plain.specs.OpaqueText.{Takes, content_in}
use Rattle.gob_plain.specs.Plain.{nils, nils_of_each, nils_of_members, nils_of_pairs, nils_of_fields}
use Rattle.gob_plain.specs.Plain.{all_null, behind, SaysWith, SayEachWith, SayMembersWith, SayPairsWith}
use Rattle.gob_plain.specs.Plain.{SayFieldsWith, SayFields, SaysBoth, name_text, key_text}
use Rattle.gob_plain.specs.Plain.{are_named, SaysElementsWith, SaysMapWith, SaysStructWith}
use Rattle.gob_plain.specs.Filled.{filled, all_filled, pairs_filled, fields_filled, between, zeros_before, put_before}
use Rattle.gob_plain.specs.Filled.{zero_at, shown_all, shown_pairs, shown_fields, nils_in, SaysInWith, SaysElementsIn}
use Rattle.gob_plain.specs.Filled.{nils_of_each_in, nils_of_map_in, nils_of_fields_in, SaysMapIn, SaysStructIn}
use Rattle.gob_plain.specs.AbsentFields.{AbsentTokens, SaysBefore}
use Rattle.gob_plain.proofs.MapLaws.{filled_alike, named_filled}
use Rattle.gob_plain.proofs.NilLaws.{zero_with}

-- ---- parts in a style

abbrev pub EachIn : (ℕ → Json → Type 0) → Style → Table → TypeId → Trees → Items → Type 0
EachIn N style T e vs js = SayEachWith N (content_in style) T e (shown_all style T e vs) js

abbrev pub MembersIn : (ℕ → Json → Type 0) → Style → Table → TypeId → TypeId → Pairs → Members → Type 0
MembersIn N style T k e ps ms = SayMembersWith N (content_in style) T e (shown_pairs style T k e ps) ms

abbrev pub PairsIn : (ℕ → Json → Type 0) → Style → Table → TypeId → TypeId → Pairs → Items → Type 0
PairsIn N style T k e ps js = SayPairsWith N (content_in style) T k e (shown_pairs style T k e ps) js

abbrev pub FieldsIn : (ℕ → Json → Type 0) → Style → Table → List Field → ℕ → Fields → Members → Type 0
FieldsIn N style T types from fs ms = SayFieldsWith N (content_in style) T types (shown_fields style T types from fs) ms

-- ---- elements

pub no_element_in : (N : ℕ → Json → Type 0) (style : Style) (T : Table) (e : TypeId)
    → EachIn N style T e no_tree json.no_items
no_element_in N style T e = by style.zeros
  where
    by : (z : Bool) → SayEachWith N (content_in style) T e (if z then all_filled T e no_tree else no_tree) json.no_items
    by true = tt
    by false = tt

pub element_in : (N : ℕ → Json → Type 0) (style : Style) (T : Table) (e : TypeId) (v : Tree) (vs : Trees) (j : Json)
    (js : Items)
    → SaysInWith N style T e v j → EachIn (behind (nils_in style T e v) N) style T e vs js
    → EachIn N style T e (tree v vs) (json.item j js)
element_in N style T e v vs j js = by style.zeros
  where
    by : (z : Bool) → SaysWith N (content_in style) T e (if z then filled T e v else v) j
        → SayEachWith (behind (nils T e (if z then filled T e v else v)) N) (content_in style) T e
        (if z then all_filled T e vs else vs) js
        → SayEachWith N (content_in style) T e (if z then all_filled T e (tree v vs) else tree v vs) (json.item j js)
    by true p q = (p, q)
    by false p q = (p, q)

-- ---- entries

pub no_member_in : (N : ℕ → Json → Type 0) (style : Style) (T : Table) (k e : TypeId)
    → MembersIn N style T k e no_pair json.no_members
no_member_in N style T k e = by style.zeros
  where
    by : (z : Bool) → SayMembersWith N (content_in style) T e (if z then pairs_filled T k e no_pair else no_pair)
        json.no_members
    by true = tt
    by false = tt

pub member_in : (N : ℕ → Json → Type 0) (style : Style) (T : Table) (k e : TypeId) (x v : Tree) (ps : Pairs)
    (j : Json) (ms : Members)
    → SaysInWith N style T e v j → MembersIn (behind (nils_in style T e v) N) style T k e ps ms
    → MembersIn N style T k e (pair x v ps) (json.member (key_text x) j ms)
member_in N style T k e x v ps j ms = by style.zeros
  where
    by : (z : Bool) → SaysWith N (content_in style) T e (if z then filled T e v else v) j
        → SayMembersWith (behind (nils T e (if z then filled T e v else v)) N) (content_in style) T e
        (if z then pairs_filled T k e ps else ps) ms
        → SayMembersWith N (content_in style) T e (if z then pairs_filled T k e (pair x v ps) else pair x v ps)
        (json.member (key_text x) j ms)
    by true p q = (sym (filled_alike T k x).name, p, q)
    by false p q = (refl, p, q)

pub no_entry_in : (N : ℕ → Json → Type 0) (style : Style) (T : Table) (k e : TypeId)
    → PairsIn N style T k e no_pair json.no_items
no_entry_in N style T k e = by style.zeros
  where
    by : (z : Bool) → SayPairsWith N (content_in style) T k e (if z then pairs_filled T k e no_pair else no_pair)
        json.no_items
    by true = tt
    by false = tt

pub entry_in : (N : ℕ → Json → Type 0) (style : Style) (T : Table) (k e : TypeId) (x v : Tree) (ps : Pairs)
    (j : Json) (js : Items)
    → SaysBoth (λ a. SaysInWith N style T k x a) (λ b. SaysInWith (behind (nils_in style T k x) N) style T e v b) j
    → PairsIn (behind (nils_in style T e v) (behind (nils_in style T k x) N)) style T k e ps js
    → PairsIn N style T k e (pair x v ps) (json.item j js)
entry_in N style T k e x v ps j js = by style.zeros
  where
    by : (z : Bool) → SaysBoth (λ a. SaysWith N (content_in style) T k (if z then filled T k x else x) a)
        (λ b. SaysWith (behind (nils T k (if z then filled T k x else x)) N) (content_in style) T e
        (if z then filled T e v else v) b) j
        → SayPairsWith (behind (nils T e (if z then filled T e v else v))
        (behind (nils T k (if z then filled T k x else x)) N)) (content_in style) T k e
        (if z then pairs_filled T k e ps else ps) js
        → SayPairsWith N (content_in style) T k e (if z then pairs_filled T k e (pair x v ps) else pair x v ps)
        (json.item j js)
    by true p q = (p, q)
    by false p q = (p, q)

-- ---- fields

-- members before others
abbrev members_before : Members → Members → Members
members_before json.no_members ms = ms
members_before (json.member name j zs) ms = json.member name j (members_before zs ms)

-- the tokens of members, without the closing bracket
abbrev open_tokens : Members → List Token
open_tokens json.no_members = []
open_tokens (json.member name j zs) = Token.key name ∷ (json_tokens j ++ open_tokens zs)

open_closed : (zs : Members) → members_tokens zs ≡ open_tokens zs ++ Token.end_object ∷ []
open_closed json.no_members = refl
open_closed (json.member name j zs) =
    ap (λ (l : List Token). Token.key name ∷ l)
    (ap (λ (l : List Token). json_tokens j ++ l) (open_closed zs)
    ∙ sym (append_assoc (json_tokens j) (open_tokens zs) (Token.end_object ∷ [])))

before_tokens : (zs ms : Members) → members_tokens (members_before zs ms) ≡ open_tokens zs ++ members_tokens ms
before_tokens json.no_members ms = refl
before_tokens (json.member name j zs) ms =
    ap (λ (l : List Token). Token.key name ∷ l)
    (ap (λ (l : List Token). json_tokens j ++ l) (before_tokens zs ms)
    ∙ sym (append_assoc (json_tokens j) (open_tokens zs) (members_tokens ms)))

-- members that say zeros, and behind them members that say fields
put_before_said : (N : ℕ → Json → Type 0) (how : Takes) (T : Table) (types : List Field) (f : ℕ) (gs hs : Fields)
    (ms : Members) (o : Option Tree)
    → zero_at T (slice_get types f) ≡ o
    → ((zs : Members) → SayFields how T types gs zs → SayFieldsWith N how T types hs (members_before zs ms))
    → (zs : Members) → SayFields how T types (put_before f o gs) zs
    → SayFieldsWith N how T types (put_before f o hs) (members_before zs ms)
put_before_said N how T types f gs hs ms None e rest zs s = rest zs s
put_before_said N how T types f gs hs ms (Some z) e rest json.no_members s = absurd s
put_before_said N how T types f gs hs ms (Some z) e rest (json.member name j zs) s =
    let both = zero_with N how T types f z hs j (members_before zs ms) all_null e s.1 (rest zs s.2) in
    (s.0, both.0, both.1)

zeros_before_said : (N : ℕ → Json → Type 0) (how : Takes) (T : Table) (types : List Field) (f n : ℕ) (fs : Fields)
    (ms : Members) → SayFieldsWith N how T types fs ms → (zs : Members)
    → SayFields how T types (zeros_before T types f n no_field) zs
    → SayFieldsWith N how T types (zeros_before T types f n fs) (members_before zs ms)
zeros_before_said N how T types f zero fs ms h json.no_members s = h
zeros_before_said N how T types f zero fs ms h (json.member name j zs) s = absurd s
zeros_before_said N how T types f (suc n) fs ms h zs s =
    put_before_said N how T types f (zeros_before T types (f + 1) n no_field) (zeros_before T types (f + 1) n fs) ms
    (zero_at T (slice_get types f)) refl (zeros_before_said N how T types (f + 1) n fs ms h) zs s

-- tokens that say zeros before fields that nobody fills say them before others
zeros_behind : (N : ℕ → Json → Type 0) (how : Takes) (T : Table) (types : List Field) (f n : ℕ) (fs : Fields)
    (ms : Members) (ts : List Token)
    → SaysBefore T types (λ gs. zeros_before T types f n gs) ts → SayFieldsWith N how T types fs ms
    → (all : Members) × SayFieldsWith N how T types (zeros_before T types f n fs) all
    × (ts ++ members_tokens ms ≡ members_tokens all)
zeros_behind N how T types f n fs ms ts a h =
    let zs = a how no_field json.no_members tt in
    let is : ts ≡ open_tokens zs.0 =
    append_cancel_right ts (open_tokens zs.0) (Token.end_object ∷ []) (zs.2 ∙ open_closed zs.0) in (
      members_before zs.0 ms,
      zeros_before_said N how T types f n fs ms h zs.0 zs.1,
      ap (λ (l : List Token). l ++ members_tokens ms) is ∙ sym (before_tokens zs.0 ms),
    )

-- tokens of absent fields, and behind them those of the fields that are there
pub absent_then : (N : ℕ → Json → Type 0) (style : Style) (T : Table) (types : List Field) (from f : ℕ) (v : Tree)
    (fs : Fields) (j : Json) (ms : Members) (ts : List Token)
    → AbsentTokens style T types from f ts → SaysInWith N style T (field_type (slice_get types f)) v j
    → FieldsIn (behind (nils_in style T (field_type (slice_get types f)) v) N) style T types (f + 1) fs ms
    → (all : Members) × FieldsIn N style T types from (field f v fs) all
    × (ts ++ members_tokens (json.member (name_text (field_name (slice_get types f))) j ms) ≡ members_tokens all)
absent_then N style T types from f v fs j ms ts = by style.zeros
  where
    by : (z : Bool)
        → SaysBefore T types (λ gs. if z then zeros_before T types from (between types from f) gs else gs) ts
        → SaysWith N (content_in style) T (field_type (slice_get types f))
        (if z then filled T (field_type (slice_get types f)) v else v) j
        → SayFieldsWith (behind (nils T (field_type (slice_get types f))
        (if z then filled T (field_type (slice_get types f)) v else v)) N) (content_in style) T types
        (if z then fields_filled T types (f + 1) fs else fs) ms
        → (all : Members)
        × SayFieldsWith N (content_in style) T types (if z then fields_filled T types from (field f v fs) else
        field f v fs) all
        × (ts ++ members_tokens (json.member (name_text (field_name (slice_get types f))) j ms) ≡ members_tokens all)
    by true a p q = zeros_behind N (content_in style) T types from (between types from f)
        (field f (filled T (field_type (slice_get types f)) v) (fields_filled T types (f + 1) fs))
        (json.member (name_text (field_name (slice_get types f))) j ms) ts a (refl, p, q)
    by false a p q = zeros_behind N (content_in style) T types from 0 (field f v fs)
        (json.member (name_text (field_name (slice_get types f))) j ms) ts a (refl, p, q)

-- tokens of the absent fields at the end
pub absent_last : (N : ℕ → Json → Type 0) (style : Style) (T : Table) (types : List Field) (from : ℕ) (ts : List Token)
    → AbsentTokens style T types from (length types) ts
    → (all : Members) × FieldsIn N style T types from no_field all
    × (ts ++ members_tokens json.no_members ≡ members_tokens all)
absent_last N style T types from ts = by style.zeros
  where
    by : (z : Bool)
        → SaysBefore T types (λ gs. if z then zeros_before T types from (between types from (length types)) gs else gs)
        ts
        → (all : Members) × SayFieldsWith N (content_in style) T types
        (if z then fields_filled T types from no_field else no_field) all
        × (ts ++ members_tokens json.no_members ≡ members_tokens all)
    by true a = zeros_behind N (content_in style) T types from (between types from (length types)) no_field
        json.no_members ts a
        tt
    by false a = zeros_behind N (content_in style) T types from 0 no_field json.no_members ts a tt

-- from numbers behind the last field on there are no zeros
past_end : (T : Table) (types : List Field) (a b : ℕ) (fs : Fields) → length types ≤ a → length types ≤ b
    → fields_filled T types a fs ≡ fields_filled T types b fs
past_end T types a b no_field p q =
    none a (between types a (length types)) no_field (omega arith)
    ∙ sym (none b (between types b (length types)) no_field (omega arith))
  where
    none : (a n : ℕ) (fs : Fields) → n ≡ 0 → zeros_before T types a n fs ≡ fs
    none a n fs e = ap (λ n. zeros_before T types a n fs) e
past_end T types a b (field f v fs) p q =
    let gs = field f (filled T (field_type (slice_get types f)) v) (fields_filled T types (f + 1) fs) in
    none a (between types a f) gs (omega arith) ∙ sym (none b (between types b f) gs (omega arith))
  where
    none : (a n : ℕ) (fs : Fields) → n ≡ 0 → zeros_before T types a n fs ≡ fs
    none a n fs e = ap (λ n. zeros_before T types a n fs) e

-- so the next number may stop at the greatest one
pub next_shown : (style : Style) (T : Table) (types : List Field) (f n : ℕ) (fs : Fields) → length types ≤ 2 ^ 64 - 1
    → n ≡ min (f + 1) (2 ^ 64 - 1) → shown_fields style T types n fs ≡ shown_fields style T types (f + 1) fs
next_shown style T types f n fs h e = by style.zeros
  where
    same : fields_filled T types n fs ≡ fields_filled T types (f + 1) fs
    same = elim (cases_lt (f + 1) (2 ^ 64 - 1)) [
      | inl l ↦ ap (λ n. fields_filled T types n fs) (omega arith)
      | inr g ↦ past_end T types n (f + 1) fs (omega arith) (omega arith)
    ]

    by : (z : Bool) → (if z then fields_filled T types n fs else fs) ≡ (if z then fields_filled T types
        (f + 1) fs else fs)
    by true = same
    by false = refl

-- ---- values

filled_leaf : (T : Table) (t : TypeId) (v : Tree) → (kind_of v ≢ kind.Many) → (kind_of v ≢ kind.Pairs)
    → (kind_of v ≢ kind.Fields) → filled T t v ≡ v
filled_leaf T t (Value.many vs) m p f = absurd (m refl)
filled_leaf T t (Value.pairs ps) m p f = absurd (p refl)
filled_leaf T t (Value.fields fs) m p f = absurd (f refl)
filled_leaf T t (Value.bool b) m p f = refl
filled_leaf T t (Value.int i) m p f = refl
filled_leaf T t (Value.uint n) m p f = refl
filled_leaf T t (Value.float x) m p f = refl
filled_leaf T t (Value.complex x y) m p f = refl
filled_leaf T t (Value.bytes b) m p f = refl
filled_leaf T t (Value.text b) m p f = refl
filled_leaf T t Value.nil m p f = refl
filled_leaf T t (Value.opaque b) m p f = refl

-- a value without parts, which isn't nil, has no nils
bare_leaf_nils : (T : Table) (t : TypeId) (v : Tree) → (kind_of v ≢ kind.Many) → (kind_of v ≢ kind.Pairs)
    → (kind_of v ≢ kind.Fields) → (kind_of v ≢ kind.Nil) → nils T t v ≡ 0
bare_leaf_nils T t (Value.many vs) m p f n = absurd (m refl)
bare_leaf_nils T t (Value.pairs ps) m p f n = absurd (p refl)
bare_leaf_nils T t (Value.fields fs) m p f n = absurd (f refl)
bare_leaf_nils T t Value.nil m p f n = absurd (n refl)
bare_leaf_nils T t (Value.bool b) m p f n = refl
bare_leaf_nils T t (Value.int i) m p f n = refl
bare_leaf_nils T t (Value.uint x) m p f n = refl
bare_leaf_nils T t (Value.float x) m p f n = refl
bare_leaf_nils T t (Value.complex x y) m p f n = refl
bare_leaf_nils T t (Value.bytes b) m p f n = refl
bare_leaf_nils T t (Value.text b) m p f n = refl
bare_leaf_nils T t (Value.opaque b) m p f n = refl

pub leaf_nils : (style : Style) (T : Table) (t : TypeId) (v : Tree) → (kind_of v ≢ kind.Many)
    → (kind_of v ≢ kind.Pairs) → (kind_of v ≢ kind.Fields) → (kind_of v ≢ kind.Nil) → nils_in style T t v ≡ 0
leaf_nils style T t v m p f n = by style.zeros
  where
    by : (z : Bool) → nils T t (if z then filled T t v else v) ≡ 0
    by true = ap (λ (v : Tree). nils T t v) (filled_leaf T t v m p f) ∙ bare_leaf_nils T t v m p f n
    by false = bare_leaf_nils T t v m p f n

bare_nil_nils : (T : Table) (t : TypeId) (v : Tree) → kind.Nil ≡ kind_of v → nils T t v ≡ 1
bare_nil_nils T t Value.nil e = refl
bare_nil_nils T t (Value.bool b) e = cc
bare_nil_nils T t (Value.int i) e = cc
bare_nil_nils T t (Value.uint n) e = cc
bare_nil_nils T t (Value.float x) e = cc
bare_nil_nils T t (Value.complex x y) e = cc
bare_nil_nils T t (Value.bytes b) e = cc
bare_nil_nils T t (Value.text b) e = cc
bare_nil_nils T t (Value.opaque b) e = cc
bare_nil_nils T t (Value.many vs) e = cc
bare_nil_nils T t (Value.pairs ps) e = cc
bare_nil_nils T t (Value.fields fs) e = cc

-- nil is one
pub nil_nils : (style : Style) (T : Table) (t : TypeId) (v : Tree) → kind.Nil ≡ kind_of v → nils_in style T t v ≡ 1
nil_nils style T t v e = by style.zeros
  where
    by : (z : Bool) → nils T t (if z then filled T t v else v) ≡ 1
    by true = ap (λ (v : Tree). nils T t v)
        (filled_leaf T t v (λ g. cc) (λ g. cc) (λ g. cc))
        ∙ bare_nil_nils T t v e
    by false = bare_nil_nils T t v e

-- a value without parts has no zeros in it
pub leaf_in : (N : ℕ → Json → Type 0) (style : Style) (T : Table) (t : TypeId) (v : Tree) (j : Json)
    → (kind_of v ≢ kind.Many)
    → (kind_of v ≢ kind.Pairs) → (kind_of v ≢ kind.Fields) → SaysWith N (content_in style) T t v j
    → SaysInWith N style T t v j
leaf_in N style T t v j m p f s = by style.zeros
  where
    by : (z : Bool) → SaysWith N (content_in style) T t (if z then filled T t v else v) j
    by true = subst (λ (v : Tree). SaysWith N (content_in style) T t v j) (sym (filled_leaf T t v m p f)) s
    by false = s

pub many_in : (N : ℕ → Json → Type 0) (style : Style) (T : Table) (t : TypeId) (vs : Trees) (j : Json)
    → SaysElementsIn N style T (element_type (shape_of T t)) vs j → SaysInWith N style T t (Value.many vs) j
many_in N style T t vs j = by style.zeros
  where
    by : (z : Bool) → SaysElementsWith N (content_in style) T (element_type (shape_of T t))
        (if z then all_filled T (element_type (shape_of T t)) vs else vs) j
        → SaysWith N (content_in style) T t (if z then filled T t (Value.many vs) else Value.many vs) j
    by true s = s
    by false s = s

pub map_in : (N : ℕ → Json → Type 0) (style : Style) (T : Table) (t : TypeId) (ps : Pairs) (j : Json)
    → SaysMapIn N style T (key_type (shape_of T t)) (element_type (shape_of T t)) ps j
    → SaysInWith N style T t (Value.pairs ps) j
map_in N style T t ps j = by style.zeros
  where
    by : (z : Bool) → SaysMapWith N (content_in style) T (key_type (shape_of T t)) (element_type (shape_of T t))
        (if z then pairs_filled T (key_type (shape_of T t)) (element_type (shape_of T t)) ps else ps) j
        → SaysWith N (content_in style) T t (if z then filled T t (Value.pairs ps) else Value.pairs ps) j
    by true s = s
    by false s = s

pub struct_in : (N : ℕ → Json → Type 0) (style : Style) (T : Table) (t : TypeId) (fs : Fields) (j : Json)
    → SaysStructIn N style T (struct_fields (shape_of T t)) fs j → SaysInWith N style T t (Value.fields fs) j
struct_in N style T t fs j = by style.zeros
  where
    by : (z : Bool) → SaysStructWith N (content_in style) T (struct_fields (shape_of T t))
        (if z then fields_filled T (struct_fields (shape_of T t)) 0 fs else fs) j
        → SaysWith N (content_in style) T t (if z then filled T t (Value.fields fs) else Value.fields fs) j
    by true s = s
    by false s = s

pub many_nils : (style : Style) (T : Table) (t : TypeId) (vs : Trees)
    → nils_in style T t (Value.many vs) ≡ nils_of_each_in style T (element_type (shape_of T t)) vs
many_nils style T t vs = by style.zeros
  where
    by : (z : Bool) → nils T t (if z then filled T t (Value.many vs) else Value.many vs)
        ≡ nils_of_each T (element_type (shape_of T t))
        (if z then all_filled T (element_type (shape_of T t)) vs else vs)
    by true = refl
    by false = refl

pub map_nils : (style : Style) (T : Table) (t : TypeId) (ps : Pairs)
    → nils_in style T t (Value.pairs ps)
    ≡ nils_of_map_in style T (key_type (shape_of T t)) (element_type (shape_of T t)) ps
map_nils style T t ps = by style.zeros
  where
    by : (z : Bool) → nils T t (if z then filled T t (Value.pairs ps) else Value.pairs ps)
        ≡ (if are_named (key_type (shape_of T t)) ps then nils_of_members T (element_type (shape_of T t))
        (if z then pairs_filled T (key_type (shape_of T t)) (element_type (shape_of T t)) ps else ps)
        else nils_of_pairs T (key_type (shape_of T t)) (element_type (shape_of T t))
        (if z then pairs_filled T (key_type (shape_of T t)) (element_type (shape_of T t)) ps else ps))
    by true =
        let k = key_type (shape_of T t) in
        let e = element_type (shape_of T t) in
        let all = pairs_filled T k e ps in
        ap (λ b. if b then nils_of_members T e all else nils_of_pairs T k e all) (named_filled T k e ps)
    by false = refl

pub struct_nils : (style : Style) (T : Table) (t : TypeId) (fs : Fields)
    → nils_in style T t (Value.fields fs) ≡ nils_of_fields_in style T (struct_fields (shape_of T t)) 0 fs
struct_nils style T t fs = by style.zeros
  where
    by : (z : Bool) → nils T t (if z then filled T t (Value.fields fs) else Value.fields fs)
        ≡ nils_of_fields T (struct_fields (shape_of T t))
        (if z then fields_filled T (struct_fields (shape_of T t)) 0 fs else fs)
    by true = refl
    by false = refl

-- ---- and the other way

pub element_out : (N : ℕ → Json → Type 0) (style : Style) (T : Table) (e : TypeId) (v : Tree) (vs : Trees) (j : Json)
    (js : Items)
    → EachIn N style T e (tree v vs) (json.item j js) → SaysInWith N style T e v j
    × EachIn (behind (nils_in style T e v) N) style T e vs js
element_out N style T e v vs j js = by style.zeros
  where
    by : (z : Bool) → SayEachWith N (content_in style) T e (if z then all_filled T e (tree v vs) else tree v vs)
        (json.item j js)
        → SaysWith N (content_in style) T e (if z then filled T e v else v) j
        × SayEachWith (behind (nils T e (if z then filled T e v else v)) N) (content_in style) T e
        (if z then all_filled T e vs else vs) js
    by true s = s
    by false s = s

pub element_missing : (N : ℕ → Json → Type 0) (style : Style) (T : Table) (e : TypeId) (v : Tree) (vs : Trees)
    → EachIn N style T e (tree v vs) json.no_items → ⊥
element_missing N style T e v vs = by style.zeros
  where
    by : (z : Bool) → SayEachWith N (content_in style) T e (if z then all_filled T e
        (tree v vs) else tree v vs) json.no_items → ⊥
    by true s = s
    by false s = s

pub item_too_many : (N : ℕ → Json → Type 0) (style : Style) (T : Table) (e : TypeId) (j : Json) (js : Items)
    → EachIn N style T e no_tree (json.item j js) → ⊥
item_too_many N style T e j js = by style.zeros
  where
    by : (z : Bool) → SayEachWith N (content_in style) T e (if z then all_filled T e no_tree else no_tree)
        (json.item j js) → ⊥
    by true s = s
    by false s = s

pub member_out : (N : ℕ → Json → Type 0) (style : Style) (T : Table) (k e : TypeId) (x v : Tree) (ps : Pairs)
    (name : List ℕ) (j : Json)
    (ms : Members) → MembersIn N style T k e (pair x v ps) (json.member name j ms)
    → (name ≡ key_text x) × SaysInWith N style T e v j
    × MembersIn (behind (nils_in style T e v) N) style T k e ps ms
member_out N style T k e x v ps name j ms = by style.zeros
  where
    by : (z : Bool) → SayMembersWith N (content_in style) T e (if z then pairs_filled T k e (pair x v ps) else pair
        x v ps)
        (json.member name j ms)
        → (name ≡ key_text x) × SaysWith N (content_in style) T e (if z then filled T e v else v) j
        × SayMembersWith (behind (nils T e (if z then filled T e v else v)) N) (content_in style) T e
        (if z then pairs_filled T k e ps else ps) ms
    by true s = (s.0 ∙ (filled_alike T k x).name, s.1, s.2)
    by false s = s

pub member_missing : (N : ℕ → Json → Type 0) (style : Style) (T : Table) (k e : TypeId) (x v : Tree) (ps : Pairs)
    → MembersIn N style T k e (pair x v ps) json.no_members → ⊥
member_missing N style T k e x v ps = by style.zeros
  where
    by : (z : Bool) → SayMembersWith N (content_in style) T e (if z then pairs_filled T k e (pair x v ps) else pair
        x v ps)
        json.no_members → ⊥
    by true s = s
    by false s = s

pub member_too_many : (N : ℕ → Json → Type 0) (style : Style) (T : Table) (k e : TypeId) (name : List ℕ) (j : Json)
    (ms : Members)
    → MembersIn N style T k e no_pair (json.member name j ms) → ⊥
member_too_many N style T k e name j ms = by style.zeros
  where
    by : (z : Bool) → SayMembersWith N (content_in style) T e (if z then pairs_filled T k e no_pair else no_pair)
        (json.member name j ms) → ⊥
    by true s = s
    by false s = s

pub entry_out : (N : ℕ → Json → Type 0) (style : Style) (T : Table) (k e : TypeId) (x v : Tree) (ps : Pairs)
    (j : Json) (js : Items)
    → PairsIn N style T k e (pair x v ps) (json.item j js)
    → SaysBoth (λ a. SaysInWith N style T k x a) (λ b. SaysInWith (behind (nils_in style T k x) N) style T e v b) j
    × PairsIn (behind (nils_in style T e v) (behind (nils_in style T k x) N)) style T k e ps js
entry_out N style T k e x v ps j js = by style.zeros
  where
    by : (z : Bool) → SayPairsWith N (content_in style) T k e (if z then pairs_filled T k e (pair x v ps) else pair
        x v ps)
        (json.item j js)
        → SaysBoth (λ a. SaysWith N (content_in style) T k (if z then filled T k x else x) a)
        (λ b. SaysWith (behind (nils T k (if z then filled T k x else x)) N) (content_in style) T e
        (if z then filled T e v else v) b) j
        × SayPairsWith (behind (nils T e (if z then filled T e v else v))
        (behind (nils T k (if z then filled T k x else x)) N)) (content_in style) T k e
        (if z then pairs_filled T k e ps else ps) js
    by true s = s
    by false s = s

pub entry_missing : (N : ℕ → Json → Type 0) (style : Style) (T : Table) (k e : TypeId) (x v : Tree) (ps : Pairs)
    → PairsIn N style T k e (pair x v ps) json.no_items → ⊥
entry_missing N style T k e x v ps = by style.zeros
  where
    by : (z : Bool) → SayPairsWith N (content_in style) T k e (if z then pairs_filled T k e (pair x v ps) else pair
        x v ps)
        json.no_items → ⊥
    by true s = s
    by false s = s

pub entry_too_many : (N : ℕ → Json → Type 0) (style : Style) (T : Table) (k e : TypeId) (j : Json) (js : Items)
    → PairsIn N style T k e no_pair (json.item j js) → ⊥
entry_too_many N style T k e j js = by style.zeros
  where
    by : (z : Bool) → SayPairsWith N (content_in style) T k e (if z then pairs_filled T k e no_pair else no_pair)
        (json.item j js) → ⊥
    by true s = s
    by false s = s

pub many_out : (N : ℕ → Json → Type 0) (style : Style) (T : Table) (t : TypeId) (vs : Trees) (j : Json)
    → SaysInWith N style T t (Value.many vs) j
    → SaysElementsIn N style T (element_type (shape_of T t)) vs j
many_out N style T t vs j = by style.zeros
  where
    by : (z : Bool) → SaysWith N (content_in style) T t (if z then filled T t (Value.many vs) else Value.many vs) j
        → SaysElementsWith N (content_in style) T (element_type (shape_of T t))
        (if z then all_filled T (element_type (shape_of T t)) vs else vs) j
    by true s = s
    by false s = s

pub map_out : (N : ℕ → Json → Type 0) (style : Style) (T : Table) (t : TypeId) (ps : Pairs) (j : Json)
    → SaysInWith N style T t (Value.pairs ps) j
    → SaysMapIn N style T (key_type (shape_of T t)) (element_type (shape_of T t)) ps j
map_out N style T t ps j = by style.zeros
  where
    by : (z : Bool) → SaysWith N (content_in style) T t (if z then filled T t (Value.pairs ps) else Value.pairs ps) j
        → SaysMapWith N (content_in style) T (key_type (shape_of T t)) (element_type (shape_of T t))
        (if z then pairs_filled T (key_type (shape_of T t)) (element_type (shape_of T t)) ps else ps) j
    by true s = s
    by false s = s

pub struct_out : (N : ℕ → Json → Type 0) (style : Style) (T : Table) (t : TypeId) (fs : Fields) (j : Json)
    → SaysInWith N style T t (Value.fields fs) j → SaysStructIn N style T (struct_fields (shape_of T t)) fs j
struct_out N style T t fs j = by style.zeros
  where
    by : (z : Bool) → SaysWith N (content_in style) T t (if z then filled T t (Value.fields fs) else Value.fields fs) j
        → SaysStructWith N (content_in style) T (struct_fields (shape_of T t))
        (if z then fields_filled T (struct_fields (shape_of T t)) 0 fs else fs) j
    by true s = s
    by false s = s
