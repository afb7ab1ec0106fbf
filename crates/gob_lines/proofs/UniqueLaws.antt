-- The tokens of a value's JSON, with whatever stands behind them, tell the value and the rest.
use Rattle.std.proofs.Common.{◌≡◌, ℕ, ℤ, ◌+◌, ◌^◌, ◌<◌, Bool, true, false, List, [], ◌∷◌, ◌++◌, length, Option, Some}
use Rattle.std.proofs.Common.{pos, negsuc, refl, sym, ap, subst, ◌∙◌, arith, append_assoc, w64, Ok, Result}
use Rattle.std.specs.Prelude.{slice_get, unwrap_or, codes, if◌then◌else◌}
use Rattle.std.specs.Int.{to_be_bytes, from_be_bytes}
use Rattle.std.specs.Str.{is_utf8}
use Rattle.std.specs.Fmt.{signed_decimal}
use Rattle.std.proofs.lemmas.Fmt.{decimal_injective, signed_decimal_injective}
use Rattle.std.proofs.lemmas.Option.{slice_get_within}
use Rattle.std.proofs.Common.{zero, suc, Err}
use Rattle.std.proofs.lemmas.Int.{ints}
use Rattle.std.proofs.lemmas.List.{append_cancel_left}
use Rattle.std.proofs.lemmas.Nat.{from_be_bytes-to_be_bytes_8}
use Rattle.hex.specs.Hex.{IsBytes, encode_lower, decode_of}
use Rattle.hex.specs.declared.error.FromHexError.{FromHexError}
use Rattle.hex.proofs.HexLemmas.{decode_of-encode_lower}
use Rattle.json.specs.Token.{Token}
use Rattle.json.specs.Tree.{json_tokens, items_tokens}
use Rattle.serde_json.specs.Data.{Data, null, boolean, number, string, array, object, Items, member}
use Rattle.serde_json.specs.Data.{no_members}
use Rattle.serde_json.specs.Written.{outline, items_outline}
use Rattle.gob_num.specs.Unsigned.{AreBytes}
use Rattle.gob_num.specs.Signed.{IsSigned}
use Rattle.gob_num.proofs.PublicLaws.{unsigned_fits, signed_fits, pattern_fits}
use Rattle.gob_types.specs.declared.id.TypeId.{TypeId}
use Rattle.gob_types.specs.declared.kind.Field.{Field}
use Rattle.gob_types.specs.declared.kind.Kind.{Kind}
use Rattle.gob_types.specs.declared.kind.Shape.{Shape}
use Rattle.gob_types.specs.KindParts.{elem_named, key_named, fields_named}
use Rattle.gob_types.specs.Table.{Table, shape_of}
use Rattle.gob_types.proofs.PublicLaws.{some_injective}
use Rattle.gob_value.specs.Bytes.{HoldsBytes, AllHoldBytes, PairsHoldBytes, FieldsHoldBytes}
use Rattle.gob_value.specs.Tree.{Tree, Trees, no_tree, tree, Pairs, no_pair, pair, Fields, no_field, field}
use Rattle.gob_value.specs.Tree as Value
use Rattle.gob_value.specs.Spelling.{Spells, of_type, SpellsAs, of_bool, of_int, of_uint, of_float, of_complex}
use Rattle.gob_value.specs.Spelling.{of_nil, of_bytes, of_text, of_opaque, of_slice, of_array, of_map, of_struct}
use Rattle.gob_value.specs.Spelling.{SpellsEach, no_element, element, SpellsPairs, no_entry, entry, SpellsFields}
use Rattle.gob_value.specs.Spelling.{end_of_fields, next_field}
use Rattle.gob_json.specs.Json.{value_json, elements_json, pairs_json, fields_json, pair_json, triple_json, no_type}
use Rattle.gob_json.specs.Json.{natural_json, integer_json, text_json, hex_json, pattern_json}
use Rattle.gob_json.specs.Json.{element_type, key_type, struct_fields, field_name, field_type}
use Rattle.gob_json.proofs.LeafLaws.{pattern_bytes}
use Rattle.gob_lines.specs.Laws.{FewFields, HaveFewFields}

-- the token of a signed number
pub integer_token : (i : ℤ) → Token.number (signed_decimal i) ∷ [] ≡ json_tokens (outline (integer_json i))
integer_token (pos n) = refl
integer_token (negsuc n) = refl

-- the two values are one, and so are the two rests
pub record SaidOnce {A : Type 0} (v w : A) (x y : List Token) : Type 0 where
  pub value : v ≡ w
  pub rest : x ≡ y

mapped : {A B : Type 0} {v w : A} {x y : List Token} (f : A → B) → SaidOnce v w x y → SaidOnce (f v) (f w) x y
mapped f r = record { value = ap f r.value; rest = r.rest }

both : {A B C : Type 0} {a b : A} {c d : B} {x y : List Token} (f : A → B → C) → a ≡ b → SaidOnce c d x y
    → SaidOnce (f a c) (f b d) x y
both {b = b} {c = c} f e r = record {
  value = ap (λ k. f k c) e ∙ ap (λ k. f b k) r.value;
  rest = r.rest;
}

-- ---- tokens

abbrev pub first : List Token → Token
first [] = Token.null
first (t ∷ ts) = t

abbrev pub behind : List Token → List Token
behind [] = []
behind (t ∷ ts) = ts

abbrev pub text_of : Token → List ℕ
text_of (Token.key s) = s
text_of (Token.string s) = s
text_of (Token.number s) = s
text_of _ = []

abbrev truth_of : Token → Bool
truth_of (Token.boolean b) = b
truth_of _ = false

abbrev is_end : Token → Bool
is_end Token.end_array = true
is_end _ = false

abbrev is_string : Token → Bool
is_string (Token.string s) = true
is_string _ = false

pub false_is_not_true : false ≡ true → ⊥
false_is_not_true e = grind arith

abbrev pub J : Data → List Token
J d = json_tokens (outline d)

abbrev pub JS : Items → List Token
JS js = items_tokens (items_outline js)

-- no value's JSON begins with the end of an array
pub not_end : (d : Data) (m y x : List Token) → Token.end_array ∷ x ≡ (J d ++ m) ++ y → ⊥
not_end null m y x h = false_is_not_true (sym (ap (λ l. is_end (first l)) h))
not_end (boolean b) m y x h = false_is_not_true (sym (ap (λ l. is_end (first l)) h))
not_end (number n) m y x h = false_is_not_true (sym (ap (λ l. is_end (first l)) h))
not_end (string s) m y x h = false_is_not_true (sym (ap (λ l. is_end (first l)) h))
not_end (array js) m y x h = false_is_not_true (sym (ap (λ l. is_end (first l)) h))
not_end (object ms) m y x h = false_is_not_true (sym (ap (λ l. is_end (first l)) h))

pub regroup : (b p x c q y : List Token) → (b ++ p) ++ x ≡ (c ++ q) ++ y → b ++ (p ++ x) ≡ c ++ (q ++ y)
regroup b p x c q y e = sym (append_assoc b p x) ∙ e ∙ append_assoc c q y

-- two parts one behind another, an end, and what stands behind
pub flat : (a b e m x : List Token) → ((a ++ (b ++ e)) ++ m) ++ x ≡ a ++ (b ++ (e ++ (m ++ x)))
flat a b e m x =
    append_assoc (a ++ (b ++ e)) m x ∙ append_assoc a (b ++ e) (m ++ x)
    ∙ ap (λ (l : List Token). a ++ l) (append_assoc b e (m ++ x))

-- ---- what has no parts

pub are_bytes : (s : List ℕ) → AreBytes s → IsBytes s
are_bytes [] h i = omega arith
are_bytes (b ∷ s) h zero = h.0
are_bytes (b ∷ s) h (suc i) = are_bytes s h.1 i

abbrev pub decoded : Result (List ℕ) FromHexError → List ℕ
decoded (Ok b) = b
decoded (Err e) = []

pub hex_once : (s t : List ℕ) → IsBytes s → IsBytes t → encode_lower s ≡ encode_lower t → s ≡ t
hex_once s t p q e =
    ap decoded (sym (decode_of-encode_lower s p) ∙ ap decode_of e ∙ decode_of-encode_lower t q)

pub hex_said : (s t : List ℕ) (x y : List Token) → IsBytes s → IsBytes t → J (hex_json s) ++ x ≡ J (hex_json t) ++ y
    → SaidOnce s t x y
hex_said s t x y p q h = record {
  value = hex_once s t p q (ap (λ l. text_of (first l)) h);
  rest = ap behind h;
}

pub pattern_said : (p q : ℕ) (x y : List Token) → p < 2 ^ 64 → q < 2 ^ 64
    → J (pattern_json p) ++ x ≡ J (pattern_json q) ++ y → SaidOnce p q x y
pattern_said p q x y f g h =
    let r = hex_said (to_be_bytes w64 p) (to_be_bytes w64 q) x y (pattern_bytes p) (pattern_bytes q) h in
    record {
      value = sym (from_be_bytes-to_be_bytes_8 p f) ∙ ap (from_be_bytes w64) r.value ∙ from_be_bytes-to_be_bytes_8 q g;
      rest = r.rest;
    }

pub object_said : (k : List ℕ) (s t : List ℕ) (x y : List Token) → IsBytes s → IsBytes t
    → J (object (member k (hex_json s) no_members)) ++ x ≡ J (object (member k (hex_json t) no_members)) ++ y
    → SaidOnce s t x y
object_said k s t x y p q h = record {
  value = hex_once s t p q (ap (λ l. text_of (first (behind (behind l)))) h);
  rest = ap (λ l. behind (behind (behind (behind l)))) h;
}

abbrev pub text_as : Bool → List ℕ → Data
text_as b s = if b then string s else object (member (codes "hex") (hex_json s) no_members)

text_at : (a b : Bool) (s t : List ℕ) (x y : List Token) → IsBytes s → IsBytes t
    → J (text_as a s) ++ x ≡ J (text_as b t) ++ y → SaidOnce s t x y
text_at true true s t x y p q h = record { value = ap (λ l. text_of (first l)) h; rest = ap behind h }
text_at true false s t x y p q h = absurd (false_is_not_true (sym (ap (λ l. is_string (first l)) h)))
text_at false true s t x y p q h = absurd (false_is_not_true (ap (λ l. is_string (first l)) h))
text_at false false s t x y p q h = object_said (codes "hex") s t x y p q h

pub text_said : (s t : List ℕ) (x y : List Token) → IsBytes s → IsBytes t
    → J (text_json s) ++ x ≡ J (text_json t) ++ y → SaidOnce s t x y
text_said s t x y p q h = text_at (is_utf8 s) (is_utf8 t) s t x y p q h

pub int_said : (i j : ℤ) (x y : List Token) {b c : List ℕ} → IsSigned i b → IsSigned j c
    → J (integer_json i) ++ x ≡ J (integer_json j) ++ y → SaidOnce i j x y
int_said i j x y p q h =
    let f = signed_fits p in
    let g = signed_fits q in
    let e = ap (λ (l : List Token). l ++ x) (integer_token i) ∙ h
    ∙ sym (ap (λ (l : List Token). l ++ y) (integer_token j)) in
    record {
      value = signed_decimal_injective i j (omega (arith, ints)) (omega (arith, ints)) (ap (λ l. text_of (first l)) e);
      rest = ap behind e;
    }

-- ---- by the kind of the type

-- the JSON of a value of a type of this kind
abbrev pub kind_json : Table → Kind → Tree → Data
kind_json T k (Value.many vs) = array (elements_json T (unwrap_or (elem_named k) no_type) vs)
kind_json T k (Value.pairs ps) =
    array (pairs_json T (unwrap_or (key_named k) no_type) (unwrap_or (elem_named k) no_type) ps)
kind_json T k (Value.fields fs) = array (fields_json T (unwrap_or (fields_named k) []) fs)
kind_json T k v = value_json T no_type v

pub of_kind : (T : Table) (t : TypeId) (s : Shape) (v : Tree) → shape_of T t ≡ Some s
    → value_json T t v ≡ kind_json T s.kind v
of_kind T t s (Value.bool b) e = refl
of_kind T t s (Value.int i) e = refl
of_kind T t s (Value.uint n) e = refl
of_kind T t s (Value.float p) e = refl
of_kind T t s (Value.complex p q) e = refl
of_kind T t s (Value.bytes b) e = refl
of_kind T t s (Value.text b) e = refl
of_kind T t s Value.nil e = refl
of_kind T t s (Value.many vs) e = ap (λ o. array (elements_json T (element_type o) vs)) e
of_kind T t s (Value.pairs ps) e = ap (λ o. array (pairs_json T (key_type o) (element_type o) ps)) e
of_kind T t s (Value.fields fs) e = ap (λ o. array (fields_json T (struct_fields o) fs)) e
of_kind T t s (Value.opaque b) e = refl

abbrev pub field_data : Table → List Field → ℕ → Tree → Data
field_data T types f v = triple_json (natural_json f) (text_json (field_name (slice_get types f)))
    (value_json T (field_type (slice_get types f)) v)

pub number_small : (types : List Field) (f : ℕ) (e : Field) → length types < 2 ^ 64 → slice_get types f ≡ Some e
    → f < 2 ^ 64
number_small types f e small i = let within = slice_get_within types f e i in omega arith

mutual
  pub one_value : {T : Table} {t : TypeId} {v w : Tree} {b c : List ℕ} (x y : List Token) → HaveFewFields T
      → Spells T t v b → Spells T t w c → HoldsBytes v → HoldsBytes w
      → J (value_json T t v) ++ x ≡ J (value_json T t w) ++ y → SaidOnce v w x y
  one_value {T = T} {t = t} {v = v} {w = w} {c = c} x y few (of_type {s = k} e p) (of_type {s = l} f q) hv hw h =
      let one : l ≡ k = some_injective (sym f ∙ e) in
      one_at x y few (few t k e) p (subst (λ (s : Shape). SpellsAs T s.kind w c) one q) hv hw
      (sym (ap (λ d. J d ++ x) (of_kind T t k v e)) ∙ h ∙ ap (λ d. J d ++ y) (of_kind T t k w e))

  one_at : {T : Table} {k : Kind} {v w : Tree} {b c : List ℕ} (x y : List Token) → HaveFewFields T → FewFields k
      → SpellsAs T k v b → SpellsAs T k w c → HoldsBytes v → HoldsBytes w
      → J (kind_json T k v) ++ x ≡ J (kind_json T k w) ++ y → SaidOnce v w x y
  one_at x y few here (of_bool {x = m} p) (of_bool {x = n} q) hv hw h = record
      { value = ap (λ l. Value.bool (truth_of (first l))) h; rest = ap behind h }
  one_at x y few here (of_int {i = i} p) (of_int {i = j} q) hv hw h = mapped Value.int (int_said i j x y p q h)
  one_at x y few here (of_uint {n = m} p) (of_uint {n = n} q) hv hw h = record {
    value = ap Value.uint (decimal_injective m n (unsigned_fits p) (unsigned_fits q) (ap (λ l. text_of (first l)) h));
    rest = ap behind h;
  }
  one_at x y few here (of_float {p = m} p) (of_float {p = n} q) hv hw h =
      mapped Value.float (pattern_said m n x y (pattern_fits p) (pattern_fits q) h)
  one_at x y few here (of_complex {p = m} {q = n} p p') (of_complex {p = m'} {q = n'} q q') hv hw h =
      let r = pattern_said m m' (J (pattern_json n) ++ Token.end_array ∷ x) (J (pattern_json n') ++ Token.end_array ∷ y)
      (pattern_fits p) (pattern_fits q) (ap behind h) in
      let s = pattern_said n n' (Token.end_array ∷ x) (Token.end_array ∷ y) (pattern_fits p') (pattern_fits q')
      r.rest in
      record {
        value = ap (λ k. Value.complex k n) r.value ∙ ap (λ k. Value.complex m' k) s.value;
        rest = ap behind s.rest;
      }
  one_at x y few here (of_nil p) (of_nil q) hv hw h = record { value = refl; rest = ap behind h }
  one_at x y few here (of_bytes {s = s} p) (of_bytes {s = t} q) hv hw h =
      mapped Value.bytes (hex_said s t x y (are_bytes s hv) (are_bytes t hw) h)
  one_at x y few here (of_text {s = s} p) (of_text {s = t} q) hv hw h =
      mapped Value.text (text_said s t x y (are_bytes s hv) (are_bytes t hw) h)
  one_at x y few here (of_opaque {s = s} p) (of_opaque {s = t} q) hv hw h =
      mapped Value.opaque (object_said (codes "opaque") s t x y (are_bytes s hv) (are_bytes t hw) h)
  one_at x y few here (of_slice p ps) (of_slice q qs) hv hw h =
      mapped Value.many (one_each x y few ps qs hv hw (ap behind h))
  one_at x y few here (of_array m p ps) (of_array n q qs) hv hw h =
      mapped Value.many (one_each x y few ps qs hv hw (ap behind h))
  one_at x y few here (of_map p ps) (of_map q qs) hv hw h =
      mapped Value.pairs (one_pairs x y few ps qs hv hw (ap behind h))
  one_at x y few here (of_struct ps) (of_struct qs) hv hw h =
      mapped Value.fields (one_fields x y few here ps qs hv hw (ap behind h))

  one_each : {T : Table} {e : TypeId} {vs ws : Trees} {b c : List ℕ} (x y : List Token) → HaveFewFields T
      → SpellsEach T e vs b → SpellsEach T e ws c → AllHoldBytes vs → AllHoldBytes ws
      → JS (elements_json T e vs) ++ x ≡ JS (elements_json T e ws) ++ y → SaidOnce vs ws x y
  one_each x y few no_element no_element hv hw h = record { value = refl; rest = ap behind h }
  one_each {T = T} {e = e} x y few no_element (element {v = w} {vs = ws} q qs) hv hw h =
      absurd (not_end (value_json T e w) (JS (elements_json T e ws)) y x h)
  one_each {T = T} {e = e} x y few (element {v = v} {vs = vs} p ps) no_element hv hw h =
      absurd (not_end (value_json T e v) (JS (elements_json T e vs)) x y (sym h))
  one_each {T = T} {e = e} x y few (element {v = v} {vs = vs} p ps) (element {v = w} {vs = ws} q qs) hv hw h =
      let r = one_value (JS (elements_json T e vs) ++ x) (JS (elements_json T e ws) ++ y) few p q hv.0 hw.0
      (regroup (J (value_json T e v)) (JS (elements_json T e vs)) x (J (value_json T e w)) (JS (elements_json T e ws))
      y h) in
      both tree r.value (one_each x y few ps qs hv.1 hw.1 r.rest)

  one_pairs : {T : Table} {k e : TypeId} {ps qs : Pairs} {b c : List ℕ} (x y : List Token) → HaveFewFields T
      → SpellsPairs T k e ps b → SpellsPairs T k e qs c → PairsHoldBytes ps → PairsHoldBytes qs
      → JS (pairs_json T k e ps) ++ x ≡ JS (pairs_json T k e qs) ++ y → SaidOnce ps qs x y
  one_pairs x y few no_entry no_entry hv hw h = record { value = refl; rest = ap behind h }
  one_pairs {T = T} {k = k} {e = e} x y few no_entry (entry {x = m} {v = w} {ps = qs} q r rs) hv hw h =
      absurd (not_end (pair_json (value_json T k m) (value_json T e w)) (JS (pairs_json T k e qs)) y x h)
  one_pairs {T = T} {k = k} {e = e} x y few (entry {x = m} {v = v} {ps = ps} q r rs) no_entry hv hw h =
      absurd (not_end (pair_json (value_json T k m) (value_json T e v)) (JS (pairs_json T k e ps)) x y (sym h))
  one_pairs {T = T} {k = k} {e = e} x y few (entry {x = m} {v = v} {ps = ps} p r rs)
      (entry {x = n} {v = w} {ps = qs} q s
      ss) hv hw h =
      let end = Token.end_array ∷ [] in
      let h' = sym (flat (J (value_json T k m)) (J (value_json T e v)) end (JS (pairs_json T k e ps)) x) ∙ ap behind h
      ∙ flat (J (value_json T k n)) (J (value_json T e w)) end (JS (pairs_json T k e qs)) y in
      let one = one_value (J (value_json T e v) ++ (end ++ (JS (pairs_json T k e ps) ++ x)))
      (J (value_json T e w) ++ (end ++ (JS (pairs_json T k e qs) ++ y))) few p q hv.0 hw.0 h' in
      let two = one_value (end ++ (JS (pairs_json T k e ps) ++ x)) (end ++ (JS (pairs_json T k e qs) ++ y)) few r s hv.1
      hw.1 one.rest in
      let more = one_pairs x y few rs ss hv.2 hw.2 (ap behind two.rest) in
      record {
        value = ap (λ a. pair a v ps) one.value ∙ ap (λ a. pair n a ps) two.value ∙ ap (λ a. pair n w a) more.value;
        rest = more.rest;
      }

  one_fields : {T : Table} {types : List Field} {next : ℕ} {fs gs : Fields} {b c : List ℕ} (x y : List Token)
      → HaveFewFields T → length types < 2 ^ 64
      → SpellsFields T types next fs b → SpellsFields T types next gs c → FieldsHoldBytes fs → FieldsHoldBytes gs
      → JS (fields_json T types fs) ++ x ≡ JS (fields_json T types gs) ++ y → SaidOnce fs gs x y
  one_fields x y few here (end_of_fields p) (end_of_fields q) hv hw h = record { value = refl; rest = ap behind h }
  one_fields {T = T} {types = types} x y few here (end_of_fields p) (next_field {f = g} {v = w} {fs = gs} l i q r rs) hv
      hw h =
      absurd (not_end (field_data T types g w) (JS (fields_json T types gs)) y x h)
  one_fields {T = T} {types = types} x y few here (next_field {f = f} {v = v} {fs = fs} l i q r rs) (end_of_fields p) hv
      hw h =
      absurd (not_end (field_data T types f v) (JS (fields_json T types fs)) x y (sym h))
  one_fields {T = T} {types = types} x y few here (next_field {f = f} {e = e} {v = v} {fs = fs} l i p r rs)
      (next_field {f = g} {e = e'} {v = w} {fs = gs} {b = b'} {c = c'} m j q s ss) hv hw h =
      let end = Token.end_array ∷ [] in
      let same : f ≡ g = decimal_injective f g (number_small types f e here i) (number_small types g e' here j)
      (ap (λ ts. text_of (first (behind ts))) h) in
      let there : slice_get types f ≡ Some e' = subst (λ (k : ℕ). slice_get types k ≡ Some e') (sym same) j in
      let one : e' ≡ e = some_injective (sym there ∙ i) in
      let q' = subst (λ (d : Field). Spells T d.id w b') one s in
      let ss' = subst (λ (k : ℕ). SpellsFields T types (k + 1) gs c') (sym same) ss in
      let name = J (text_json (field_name (slice_get types f))) in
      let part = λ (o : Option Field) (u : Tree). J (value_json T (field_type o) u) in
      let rest = end ++ (JS (fields_json T types fs) ++ x) in
      let rest' = end ++ (JS (fields_json T types gs) ++ y) in
      let h' = subst (λ (k : ℕ). behind (behind (JS (fields_json T types (field f v fs)) ++ x))
      ≡ ((J (text_json (field_name (slice_get types k))) ++ (part (slice_get types k) w ++ end))
      ++ JS (fields_json T types gs)) ++ y) (sym same) (ap (λ ts. behind (behind ts)) h) in
      let apart = append_cancel_left name (part (slice_get types f) v ++ rest) (part (slice_get types f) w ++ rest')
      (sym (flat name (part (slice_get types f) v) end (JS (fields_json T types fs)) x) ∙ h'
      ∙ flat name (part (slice_get types f) w) end (JS (fields_json T types gs)) y) in
      let two = one_value rest rest' few r q' hv.0 hw.0
      (sym (ap (λ o. part o v ++ rest) i) ∙ apart ∙ ap (λ o. part o w ++ rest') i) in
      let more = one_fields x y few here rs ss' hv.1 hw.1 (ap behind two.rest) in
      record {
        value = ap (λ a. field f a fs) two.value ∙ ap (λ a. field f w a) more.value ∙ ap (λ k. field k w gs) same;
        rest = more.rest;
      }
