-- Zeros: what is printed of one, and which JSON says one that a struct leaves out.
use Rattle.std.proofs.Common.{◌≡◌, ◌∙◌, ◌≢◌, ℕ, ℤ, pos, List, [], ◌∷◌, Bool, true, false, Some, arith, ap}
use Rattle.std.proofs.Common.{codes}
use Rattle.std.proofs.Common.{decimal, length, length-append, refl, sym, subst, ◌++◌, if◌then◌else◌}
use Rattle.std.specs.Prelude.{⊤, from_bits, unwrap_or}
use Rattle.std.specs.Float.{float_zero}
use Rattle.std.specs.Float.Ieee.{binary64, of_bits, to_bits}
use Rattle.std.specs.Fmt.{digits, signed_decimal}
use Rattle.std.specs.Str.{is_utf8}
use Rattle.std.proofs.lemmas.Fmt.{decimal_injective, signed_decimal_injective}
use Rattle.std.proofs.lemmas.Int.{ints}
use Rattle.ryu.specs.Parse.{parse_float}
use Rattle.base64.specs.Engines.{standard}
use Rattle.base64.specs.GeneralPurpose.{encode_of, engine_symbols}
use Rattle.base64.proofs.Encoding.{encode_symbols-drop_none}
use Rattle.base64.proofs.RoundTrip.{length-encode_symbols}
use Rattle.json.specs.Json.{Json, Items, Members}
use Rattle.json.specs.Json as json
use Rattle.serde_json.specs.Written.{outline}
use Rattle.gob_types.specs.declared.basic.Basic.{Basic}
use Rattle.gob_types.specs.declared.basic.Basic.TheVariants as basic
use Rattle.gob_types.specs.declared.id.TypeId.{TypeId}
use Rattle.gob_types.specs.declared.kind.Field.{Field}
use Rattle.gob_types.specs.declared.kind.Kind.{Kind}
use Rattle.gob_types.specs.declared.kind.Kind.TheVariants as kind
use Rattle.gob_types.specs.declared.kind.Shape.{Shape}
use Rattle.gob_types.specs.KindParts.{elem_named, fields_named, key_named}
use Rattle.gob_types.specs.Table.{Table, shape_of}
use Rattle.gob_types.proofs.PublicLaws.{some_injective}
use Rattle.gob_value.specs.Tidy.{IsDropped, IsZero}
use Rattle.gob_value.specs.Tidy as tidy
use Rattle.gob_value.specs.Tree.{Tree, Trees, no_tree, Pairs, no_pair, no_field}
use Rattle.gob_value.specs.Tree as Value
use Rattle.serde_json.specs.Data.{member, no_members, object, string}
use Rattle.gob_json.specs.Json.{element_type, hex_json, key_type, no_type, struct_fields, text_json}
use Rattle.gob_plain.specs.Plain.{IsMapOf, SayEach, SayFields, SayMembers, SayPairs, Says, are_named, may_be_named}
use Rattle.gob_make.specs.Leaf.{ReadsBasic, ReadsFloat}
use Rattle.gob_make.specs.Leaf as leaf
use Rattle.gob_make.specs.Plain.{ReadsAs, ReadsEach, ReadsPlain}
use Rattle.gob_make.specs.Plain as plain
use Rattle.gob_make.specs.Zero.{AreFilled, IsZeroAs, IsZeroOf}
use Rattle.gob_make.specs.Zero as zero
use Rattle.gob_made_back.specs.Alike.{AreEntriesAlike, SaysZero, SaysZeroFloat, ShowZeros, ShowsZero, ShowsZeroAs}
use Rattle.gob_made_back.specs.Alike.{map_json}
use Rattle.gob_made_back.specs.Alike as alike
use Rattle.gob_made_back.proofs.KeyLaws.{empty_utf8, guessed}
use Rattle.gob_made_back.proofs.LeafLaws.{pattern_again}
use Rattle.gob_made_back.proofs.MapLaws.{IsShown, map_shown, none}

-- ---- the types of parts

pub element_is : (T : Table) (t : TypeId) {e : TypeId} {s : Shape} {k : Kind} → shape_of T t ≡ Some s → s.kind ≡ k
    → elem_named k ≡ Some e → element_type (shape_of T t) ≡ e
element_is T t has is of =
    ap element_type has ∙ ap (λ (k : Kind). unwrap_or (elem_named k) no_type) is ∙ ap (λ o. unwrap_or o no_type) of

pub key_is : (T : Table) (t : TypeId) {u : TypeId} {s : Shape} {k : Kind} → shape_of T t ≡ Some s → s.kind ≡ k
    → key_named k ≡ Some u → key_type (shape_of T t) ≡ u
key_is T t has is of =
    ap key_type has ∙ ap (λ (k : Kind). unwrap_or (key_named k) no_type) is ∙ ap (λ o. unwrap_or o no_type) of

pub fields_are : (T : Table) (t : TypeId) {types : List Field} {s : Shape} {k : Kind} → shape_of T t ≡ Some s
    → s.kind ≡ k → fields_named k ≡ Some types → struct_fields (shape_of T t) ≡ types
fields_are T t has is of =
    ap struct_fields has ∙ ap (λ (k : Kind). unwrap_or (fields_named k) []) is ∙ ap (λ o. unwrap_or o []) of

-- what is said of a map by the types of its keys and elements
abbrev pub MapSays : Table → TypeId → TypeId → Pairs → Json → Type 0
MapSays T t e ps k = IsMapOf (are_named t ps) (may_be_named t ps) (λ ms. SayMembers guessed T e ps ms)
    (λ js. SayPairs guessed T t e ps js) k

-- ---- texts of zeros

zero_digits : decimal 0 ≡ codes "0"
unfolding digits
zero_digits = refl

empty_text : outline (text_json []) ≡ json.string []
empty_text =
    ap (λ (u : Bool). outline (if u then string [] else object (member (codes "hex") (hex_json []) no_members)))
    empty_utf8

empty_bytes : encode_of standard [] ≡ []
empty_bytes = ap (λ (l : List ℕ). l ++ []) (encode_symbols-drop_none (engine_symbols standard) [] 0 (omega arith))

-- ---- what is printed of a zero

no_entries : {lenient : Bool} {T : Table} {t e : TypeId} {k : Json} {ks : Items}
    → AreEntriesAlike lenient T t e json.no_items ks → k ≡ map_json t ks → k ≡ map_json t json.no_items
no_entries alike.no_entry is = is

slice_shown : {T : Table} {e : TypeId} (u : TypeId) {k : Json} (js : Items) → k ≡ json.array js
    → SayEach guessed T u no_tree js → ShowsZeroAs T (kind.Slice e) k
slice_shown {T = T} {e = e} u json.no_items is s = subst (λ i. ShowsZeroAs T (kind.Slice e) i) (sym is) alike.of_slice
slice_shown u (json.item j js) is s = absurd s

struct_shown : {T : Table} {types : List Field} (more : List Field) {k : Json} (ms : Members) → k ≡ json.object ms
    → SayFields guessed T more no_field ms → ShowsZeroAs T (kind.Struct types) k
struct_shown {T = T} {types = types} more json.no_members is s =
    subst (λ i. ShowsZeroAs T (kind.Struct types) i) (sym is) alike.of_struct
struct_shown more (json.member name j ms) is s = absurd s

mutual
  pub zero_shown : {T : Table} {t : TypeId} {v : Tree} (k : Json) → IsZeroOf T t v → Says guessed T t v k
      → ShowsZero T t k
  zero_shown {t = t} k (zero.of_type has z) s = alike.of_type has (zero_as_shown t k has refl z s)

  zero_as_shown : {T : Table} (t : TypeId) {r : Shape} {l : Kind} {v : Tree} (k : Json) → shape_of T t ≡ Some r
      → r.kind ≡ l → IsZeroAs T l v → Says guessed T t v k → ShowsZeroAs T l k
  zero_as_shown {T = T} t k has is zero.of_bool s =
      subst (λ i. ShowsZeroAs T (kind.Basic basic.Bool) i) (sym s) alike.of_bool
  zero_as_shown {T = T} t k has is zero.of_int s =
      subst (λ i. ShowsZeroAs T (kind.Basic basic.Int) i) (sym (s ∙ ap json.number zero_digits)) alike.of_int
  zero_as_shown {T = T} t k has is zero.of_uint s =
      subst (λ i. ShowsZeroAs T (kind.Basic basic.Uint) i) (sym (s ∙ ap json.number zero_digits)) alike.of_uint
  zero_as_shown t k has is zero.of_float s = alike.of_float s
  zero_as_shown {T = T} t k has is zero.of_bytes s =
      subst (λ i. ShowsZeroAs T (kind.Basic basic.Bytes) i) (sym (s ∙ ap json.string empty_bytes)) alike.of_bytes
  zero_as_shown {T = T} t k has is zero.of_text s =
      subst (λ i. ShowsZeroAs T (kind.Basic basic.Str) i) (sym (s ∙ empty_text)) alike.of_text
  zero_as_shown {T = T} t k has is zero.of_complex s =
      subst (λ i. ShowsZeroAs T (kind.Basic basic.Complex) i) (sym s.2) (alike.of_complex s.3 s.4)
  zero_as_shown {T = T} t k has is zero.of_interface s =
      subst (λ i. ShowsZeroAs T (kind.Basic basic.Interface) i) (sym s) alike.of_interface
  zero_as_shown {T = T} t k has is zero.of_slice s = slice_shown (element_type (shape_of T t)) s.0 s.1 s.2
  zero_as_shown {T = T} t k has is (zero.of_map {k = u} {e = e}) s =
      let by_types = subst (λ w. MapSays T w e no_pair k) (key_is T t has is refl)
      (subst (λ w. MapSays T (key_type (shape_of T t)) w no_pair k) (element_is T t has is refl) s) in
      let shown : IsShown false T u e json.no_items k = map_shown k none by_types in
      subst (λ i. ShowsZeroAs T (kind.Map u e) i) (sym (no_entries shown.agree shown.is)) alike.of_map
  zero_as_shown {T = T} t k has is zero.of_struct s = struct_shown (struct_fields (shape_of T t)) s.0 s.1 s.2
  zero_as_shown {T = T} t k has is (zero.of_array {e = e} {n = n} {vs = vs} f) s =
      let each = subst (λ w. SayEach guessed T w vs s.0) (element_is T t has is refl) s.2 in
      subst (λ i. ShowsZeroAs T (kind.Array e n) i) (sym s.1) (alike.of_array (zeros_shown s.0 f each))

  pub zeros_shown : {T : Table} {e : TypeId} {n : ℕ} {ws : Trees} (ks : Items) → AreFilled T e n no_tree ws
      → SayEach guessed T e ws ks → ShowZeros T e n ks
  zeros_shown json.no_items zero.full s = alike.none
  zeros_shown (json.item k ks) zero.full s = absurd s
  zeros_shown json.no_items (zero.zero z f) s = absurd s
  zeros_shown (json.item k ks) (zero.zero z f) s = alike.one_more (zero_shown k z s.0) (zeros_shown ks f s.1)

-- ---- what a struct leaves out

zero_pattern : to_bits binary64 float_zero ≡ 0
unfolding to_bits
zero_pattern = refl

of_zero_pattern : from_bits binary64 0 ≡ float_zero
unfolding of_bits
of_zero_pattern = refl

zero_float_said : {j : Json} {p : ℕ} → ReadsFloat j p → p ≡ 0 → SaysZeroFloat j
zero_float_said (leaf.of_number {text = text} {x = x} e f) z =
    (text, refl, e ∙ ap Some (sym (pattern_again text x e) ∙ ap (from_bits binary64) z ∙ of_zero_pattern))
zero_float_said leaf.of_no_number z = let never : ⊥ = omega (arith, z) in absurd never
zero_float_said leaf.of_infinity z = let never : ⊥ = omega (arith, z) in absurd never
zero_float_said leaf.of_negative_infinity z = let never : ⊥ = omega (arith, z) in absurd never

zero_float_read : {j : Json} {p : ℕ} → ReadsFloat j p → SaysZeroFloat j → p ≡ 0
zero_float_read (leaf.of_number {text = text} {x = x} e f) z =
    let same : text ≡ z.0 = let n = z.1 in cc in
    ap (to_bits binary64) (some_injective (sym e ∙ ap (parse_float binary64) same ∙ z.2)) ∙ zero_pattern
zero_float_read leaf.of_no_number z = let n = z.1 in let never : ⊥ = cc in absurd never
zero_float_read leaf.of_infinity z = let n = z.1 in let never : ⊥ = cc in absurd never
zero_float_read leaf.of_negative_infinity z = let n = z.1 in let never : ⊥ = cc in absurd never

zero_basic_said : {b : Basic} {j : Json} {v : Tree} → ReadsBasic b j v → IsZero v → SaysZero (kind.Basic b) j
zero_basic_said leaf.of_bool tidy.of_bool = refl
zero_basic_said (leaf.of_int fits) tidy.of_int = ap json.number zero_digits
zero_basic_said (leaf.of_uint small) tidy.of_uint = ap json.number zero_digits
zero_basic_said (leaf.of_float r) tidy.of_float = zero_float_said r refl
zero_basic_said (leaf.of_complex {a = a} {b = b} r q) tidy.of_complex =
    (a, b, refl, zero_float_said r refl, zero_float_said q refl)
zero_basic_said (leaf.of_bytes s) tidy.of_bytes = s ∙ ap json.string empty_bytes
zero_basic_said leaf.of_text tidy.of_text = empty_text

no_bytes : (b : List ℕ) → encode_of standard b ≡ [] → b ≡ []
no_bytes [] e = refl
no_bytes (x ∷ b) e =
    let size = length-encode_symbols (engine_symbols standard) (x ∷ b) in
    let never : ⊥ = omega (arith, ap length e, length-append {A = ℕ}, size) in
    absurd never

no_text : (b : List ℕ) → outline (text_json b) ≡ json.string [] → b ≡ []
no_text b e = by (is_utf8 b) refl
  where
    by : (u : Bool) → is_utf8 b ≡ u → b ≡ []
    by true is = let f = rw is at e in cc
    by false is = let f = rw is at e in cc

zero_basic_read : {b : Basic} {j : Json} {v : Tree} → ReadsBasic b j v → SaysZero (kind.Basic b) j → IsZero v
zero_basic_read (leaf.of_bool {x = x}) e =
    let is : x ≡ false = cc in subst (λ y. IsZero (Value.bool y)) (sym is) tidy.of_bool
zero_basic_read (leaf.of_int {i = i} fits) e =
    let same : signed_decimal i ≡ codes "0" = cc in
    let is = signed_decimal_injective i (pos 0) (omega (arith, ints)) (omega (arith, ints)) (same ∙ sym zero_digits) in
    subst (λ (k : ℤ). IsZero (Value.int k)) (sym is) tidy.of_int
zero_basic_read (leaf.of_uint {n = n} small) e =
    let same : decimal n ≡ codes "0" = cc in
    let is = decimal_injective n 0 (omega arith) (omega arith) (same ∙ sym zero_digits) in
    subst (λ (k : ℕ). IsZero (Value.uint k)) (sym is) tidy.of_uint
zero_basic_read (leaf.of_float r) e =
    subst (λ (p : ℕ). IsZero (Value.float p)) (sym (zero_float_read r e)) tidy.of_float
zero_basic_read (leaf.of_complex {a = a} {b = b} {p = p} {q = q} r s) e =
    let n = e.2 in
    let first : a ≡ e.0 = cc in
    let second : b ≡ e.1 = cc in
    let x = zero_float_read r (subst SaysZeroFloat (sym first) e.3) in
    let y = zero_float_read s (subst SaysZeroFloat (sym second) e.4) in
    subst (λ (m : ℕ). IsZero (Value.complex m q)) (sym x)
    (subst (λ (m : ℕ). IsZero (Value.complex 0 m)) (sym y) tidy.of_complex)
zero_basic_read (leaf.of_bytes {b = b} s) e =
    let same : encode_of standard b ≡ [] = let f = sym s ∙ e in cc in
    subst (λ (c : List ℕ). IsZero (Value.bytes c)) (sym (no_bytes b same)) tidy.of_bytes
zero_basic_read (leaf.of_text {b = b}) e =
    subst (λ (c : List ℕ). IsZero (Value.text c)) (sym (no_text b e)) tidy.of_text

-- the kinds of which a struct leaves zeros out
abbrev MayDrop : Kind → Type 0
MayDrop (kind.Basic b) = ⊤
MayDrop (kind.Slice e) = ⊤
MayDrop _ = ⊥

may_drop : {k : Kind} {v : Tree} → IsDropped k v → MayDrop k
may_drop (tidy.zero_basic z) = tt
may_drop tidy.empty_slice = tt

basic_dropped : {k : Kind} {b : Basic} {v : Tree} → k ≡ kind.Basic b → IsDropped k v → IsZero v
basic_dropped is (tidy.zero_basic z) = z
basic_dropped is tidy.empty_slice = let never : ⊥ = cc in absurd never

slice_dropped : {k : Kind} {e : TypeId} {v : Tree} → k ≡ kind.Slice e → IsDropped k v → v ≡ Value.many no_tree
slice_dropped is (tidy.zero_basic z) = let never : ⊥ = cc in absurd never
slice_dropped is tidy.empty_slice = refl

none_read : {lenient : Bool} {T : Table} {e : TypeId} {js : Items} {vs : Trees} → ReadsEach lenient T e js vs
    → js ≡ json.no_items → vs ≡ no_tree
none_read plain.no_element is = refl
none_read (plain.element r q) is = let never : ⊥ = cc in absurd never

none_said : {lenient : Bool} {T : Table} {e : TypeId} {js : Items} {vs : Trees} → ReadsEach lenient T e js vs
    → vs ≡ no_tree → js ≡ json.no_items
none_said plain.no_element is = refl
none_said (plain.element r q) is = let never : ⊥ = cc in absurd never

zero_as_said : {lenient : Bool} {T : Table} {s : Shape} {j : Json} {v : Tree} → ReadsAs lenient T s j v
    → IsDropped s.kind v → SaysZero s.kind j
zero_as_said {j = j} (plain.of_basic is r) d =
    subst (λ k. SaysZero k j) (sym is) (zero_basic_said r (basic_dropped is d))
zero_as_said {j = j} (plain.of_slice {js = js} is r) d =
    let same = slice_dropped is d in
    subst (λ k. SaysZero k (json.array js)) (sym is) (ap json.array (none_said r cc))
zero_as_said (plain.of_opaque is r) d = absurd (subst MayDrop is (may_drop d))
zero_as_said (plain.of_array is r f) d = absurd (subst MayDrop is (may_drop d))
zero_as_said (plain.of_pairs is r) d = absurd (subst MayDrop is (may_drop d))
zero_as_said (plain.of_entries is r) d = absurd (subst MayDrop is (may_drop d))
zero_as_said (plain.of_struct is r k) d = absurd (subst MayDrop is (may_drop d))

zero_as_read : {lenient : Bool} {T : Table} {s : Shape} {j : Json} {v : Tree} → ReadsAs lenient T s j v
    → SaysZero s.kind j → IsDropped s.kind v
zero_as_read {j = j} {v = v} (plain.of_basic is r) z =
    subst (λ k. IsDropped k v) (sym is) (tidy.zero_basic (zero_basic_read r (subst (λ k. SaysZero k j) is z)))
zero_as_read (plain.of_slice {e = e} {js = js} {vs = vs} is r) z =
    let empty = subst (λ k. SaysZero k (json.array js)) is z in
    subst (λ k. IsDropped k (Value.many vs)) (sym is)
    (subst (λ ws. IsDropped (kind.Slice e) (Value.many ws)) (sym (none_read r cc)) tidy.empty_slice)
zero_as_read {j = j} (plain.of_opaque is r) z = absurd (subst (λ k. SaysZero k j) is z)
zero_as_read {j = j} (plain.of_array is r f) z = absurd (subst (λ k. SaysZero k j) is z)
zero_as_read {j = j} (plain.of_pairs is r) z = absurd (subst (λ k. SaysZero k j) is z)
zero_as_read {j = j} (plain.of_entries is r) z = absurd (subst (λ k. SaysZero k j) is z)
zero_as_read {j = j} (plain.of_struct is r k) z = absurd (subst (λ k. SaysZero k j) is z)

pub zero_said : {lenient : Bool} {T : Table} {t : TypeId} {j : Json} {v : Tree} (s : Shape) → ReadsPlain lenient T t j v
    → j ≢ json.null → shape_of T t ≡ Some s → IsDropped s.kind v → SaysZero s.kind j
zero_said s (plain.of_null z) some has d = absurd (some refl)
zero_said {j = j} {v = v} s (plain.of_type there r) some has d =
    let same = some_injective (sym there ∙ has) in
    subst (λ (u : Shape). SaysZero u.kind j) same
    (zero_as_said r (subst (λ (u : Shape). IsDropped u.kind v) (sym same) d))

pub zero_read : {lenient : Bool} {T : Table} {t : TypeId} {j : Json} {v : Tree} (s : Shape) → ReadsPlain lenient T t j v
    → j ≢ json.null → shape_of T t ≡ Some s → SaysZero s.kind j → IsDropped s.kind v
zero_read s (plain.of_null z) some has d = absurd (some refl)
zero_read {j = j} {v = v} s (plain.of_type there r) some has z =
    let same = some_injective (sym there ∙ has) in
    subst (λ (u : Shape). IsDropped u.kind v) same
    (zero_as_read r (subst (λ (u : Shape). SaysZero u.kind j) (sym same) z))
