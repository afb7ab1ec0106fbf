-- The tokens of JSON that says bytes tell these, and where they end.
use Rattle.std.proofs.Common.{◌≡◌, ℕ, ℤ, pos, ◌+◌, ◌-◌, ◌^◌, ◌<◌, Bool, true, false, List, [], ◌∷◌, ◌++◌, length}
use Rattle.std.proofs.Common.{refl, sym, ap, subst, ◌∙◌, arith, true≢false, slice_get}
use Rattle.std.proofs.lemmas.Int.{ints}
use Rattle.json.specs.Json.{Json, Items, Members, value}
use Rattle.json.specs.Json as json
use Rattle.json.specs.Token.{Token}
use Rattle.json.specs.Tree.{json_tokens, depth}
use Rattle.json.proofs.Printed.Trees.{value-json_tokens}
use Rattle.serde_json.specs.Data.{Data, array}
use Rattle.serde_json.specs.Written.{outline, items_outline}
use Rattle.gob_num.specs.Unsigned.{AreBytes, IsUnsigned}
use Rattle.gob_num.specs.Signed.{IsSigned}
use Rattle.gob_num.proofs.PublicLaws.{unsigned_fits, unsigned_unique, signed_fits, signed_unique, pattern_fits}
use Rattle.gob_types.specs.declared.id.TypeId.{TypeId}
use Rattle.gob_types.specs.declared.basic.Basic.{Basic}
use Rattle.gob_types.specs.declared.basic.Basic.TheVariants as basic
use Rattle.gob_types.specs.declared.kind.Field.{Field}
use Rattle.gob_types.specs.declared.kind.Kind.{Kind}
use Rattle.gob_types.specs.declared.kind.Kind.TheVariants as kind
use Rattle.gob_types.specs.declared.kind.Shape.{Shape}
use Rattle.gob_types.specs.Table.{Table}
use Rattle.gob_types.proofs.PublicLaws.{some_injective}
use Rattle.gob_value.specs.Bytes.{HoldsBytes}
use Rattle.gob_value.specs.Spelling.{SpellsAs}
use Rattle.gob_value.specs.Spelling as spells
use Rattle.gob_value.specs.Top.{IsStruct}
use Rattle.gob_value.specs.Tree.{Tree}
use Rattle.gob_value.specs.Tree as Value
use Rattle.gob_value.proofs.UniqueLaws.{written_once}
use Rattle.gob_value.proofs.WrittenLaws.{as_written}
use Rattle.gob_json.specs.Json.{hex_json, no_type, pattern_json, text_json}
use Rattle.gob_lines.specs.Laws.{FewFields, HaveFewFields}
use Rattle.gob_lines.specs.Numbers.{IsBasicJson, IsInteger, IsNatural}
use Rattle.gob_lines.specs.Numbers as number
use Rattle.gob_lines.proofs.PartLaws.{integer_once, natural_once}
use Rattle.gob_lines.proofs.UniqueLaws.{are_bytes, hex_said, number_small, pattern_said, text_said}
use Rattle.gob_go_lines.specs.Says.{Says, of_type, SaysAs, of_basic, of_opaque, of_slice, of_array, of_map, of_struct}
use Rattle.gob_go_lines.specs.Says.{of_held, SaysTop, at_once, tagged, SaysEach, no_element, element, SaysPairs}
use Rattle.gob_go_lines.specs.Lines.{SaysPut, put_data}
use Rattle.gob_go_lines.specs.Says.{no_entry, entry, SaysFields, end_of_fields, next_field, items_of}

-- ---- tokens tell their JSON
pub one_json : (i j : Json) (x y : List Token) → json_tokens i ++ x ≡ json_tokens j ++ y → (i ≡ j) × (x ≡ y)
one_json i j x y same =
    let d = depth i + depth j in
    let read = some_injective (sym (value-json_tokens i d x (omega arith)) ∙ ap (value d) same
    ∙ value-json_tokens j d y (omega arith)) in
    (ap (λ (p : Json × List Token). p.0) read, ap (λ (p : Json × List Token). p.1) read)

-- ---- the parts of JSON
abbrev truth_of : Json → Bool
truth_of (json.boolean b) = b
truth_of _ = false

abbrev is_null : Json → Bool
is_null json.null = true
is_null _ = false

abbrev items_in : Json → Items
items_in (json.array js) = js
items_in _ = json.no_items

abbrev members_in : Json → Members
members_in (json.object ms) = ms
members_in _ = json.no_members

abbrev is_end : Items → Bool
is_end json.no_items = true
is_end (json.item j js) = false

abbrev first : Items → Json
first json.no_items = json.null
first (json.item j js) = j

abbrev rest : Items → Items
rest json.no_items = json.no_items
rest (json.item j js) = js

abbrev first_value : Members → Json
first_value json.no_members = json.null
first_value (json.member k j ms) = j

abbrev other_members : Members → Members
other_members json.no_members = json.no_members
other_members (json.member k j ms) = ms

-- the value of the first member of an object
abbrev held : Json → Json
held j = first_value (members_in j)

-- ---- numbers and texts
-- as the laws of tokens want it
alone : (j k : Data) → outline j ≡ outline k → json_tokens (outline j) ++ [] ≡ json_tokens (outline k) ++ []
alone j k same = ap (λ j. json_tokens j ++ []) same

natural_said : {m n : ℕ} {j k : Data} → m < 2 ^ 64 → n < 2 ^ 64 → IsNatural m j → IsNatural n k
    → outline j ≡ outline k → m ≡ n
natural_said {j = j} {k = k} p q is are same =
    (natural_once (json_tokens (outline j) ++ []) [] [] p q is refl are (alone j k same)).0

integer_said : {i o : ℤ} {j k : Data} {b c : List ℕ} → IsSigned i b → IsSigned o c → IsInteger i j → IsInteger o k
    → outline j ≡ outline k → i ≡ o
integer_said {j = j} {k = k} p q is are same =
    (integer_once (json_tokens (outline j) ++ []) [] [] (signed_fits p) (signed_fits q) is refl are (alone j k same)).0

text_once : (s t : List ℕ) → AreBytes s → AreBytes t → outline (text_json s) ≡ outline (text_json t) → s ≡ t
text_once s t p q same =
    let r = text_said s t [] [] (are_bytes s p) (are_bytes t q) (alone (text_json s) (text_json t) same) in
    r.value

hex_once : (s t : List ℕ) → AreBytes s → AreBytes t → outline (hex_json s) ≡ outline (hex_json t) → s ≡ t
hex_once s t p q same =
    let r = hex_said s t [] [] (are_bytes s p) (are_bytes t q) (alone (hex_json s) (hex_json t) same) in
    r.value

pattern_once : (p q : ℕ) → p < 2 ^ 64 → q < 2 ^ 64 → outline (pattern_json p) ≡ outline (pattern_json q) → p ≡ q
pattern_once p q f g same =
    let r = pattern_said p q [] [] f g (alone (pattern_json p) (pattern_json q) same) in
    r.value

-- ---- what has no parts
as_integer : {T : Table} {i : ℤ} {j : Data} → IsBasicJson T no_type (Value.int i) j → IsInteger i j
as_integer number.as_shown = number.integer_number
as_integer (number.of_int p) = p

as_natural : {T : Table} {n : ℕ} {j : Data} → IsBasicJson T no_type (Value.uint n) j → IsNatural n j
as_natural number.as_shown = number.natural_number
as_natural (number.of_uint p) = p

basic_once : {T : Table} {k : Basic} {v w : Tree} {i j : Data} {b c : List ℕ} → SpellsAs T (kind.Basic k) v b
    → SpellsAs T (kind.Basic k) w c → HoldsBytes v → HoldsBytes w → IsBasicJson T no_type v i
    → IsBasicJson T no_type w j → outline i ≡ outline j → v ≡ w
basic_once (spells.of_bool p) (spells.of_bool q) hv hw number.as_shown number.as_shown same =
    ap (λ j. Value.bool (truth_of j)) same
basic_once (spells.of_int p) (spells.of_int q) hv hw is are same =
    ap Value.int (integer_said p q (as_integer is) (as_integer are) same)
basic_once (spells.of_uint p) (spells.of_uint q) hv hw is are same =
    ap Value.uint (natural_said (unsigned_fits p) (unsigned_fits q) (as_natural is) (as_natural are) same)
basic_once (spells.of_float {p = m} p) (spells.of_float {p = n} q) hv hw number.as_shown number.as_shown same =
    ap Value.float (pattern_once m n (pattern_fits p) (pattern_fits q) same)
basic_once (spells.of_complex {p = m} {q = n} p p') (spells.of_complex {p = r} {q = s} q q') hv hw number.as_shown
    number.as_shown same =
    ap (λ k. Value.complex k n)
    (pattern_once m r (pattern_fits p) (pattern_fits q) (ap (λ j. first (items_in j)) same))
    ∙ ap (λ k. Value.complex r k)
    (pattern_once n s (pattern_fits p') (pattern_fits q') (ap (λ j. first (rest (items_in j))) same))
basic_once (spells.of_nil p) (spells.of_nil q) hv hw number.as_shown number.as_shown same = refl
basic_once (spells.of_bytes {s = s} p) (spells.of_bytes {s = t} q) hv hw number.as_shown number.as_shown same =
    ap Value.bytes (hex_once s t hv hw same)
basic_once (spells.of_text {s = s} p) (spells.of_text {s = t} q) hv hw number.as_shown number.as_shown same =
    ap Value.text (text_once s t hv hw same)

spelled_once : {T : Table} {k : Kind} {v w : Tree} {b c : List ℕ} → v ≡ w → SpellsAs T k v b → SpellsAs T k w c → b ≡ c
spelled_once {T = T} {k = k} {c = c} same p q =
    written_once (as_written p) (as_written (subst (λ u. SpellsAs T k u c) (sym same) q))

-- an interface shows null where it holds nothing
shows_null : {T : Table} {v : Tree} {j : Data} {b : List ℕ} → SpellsAs T (kind.Basic basic.Interface) v b
    → IsBasicJson T no_type v j → is_null (outline j) ≡ true
shows_null (spells.of_nil p) number.as_shown = refl

joined : {a b c d : List ℕ} → a ≡ b → c ≡ d → a ++ c ≡ b ++ d
joined {b = b} {c = c} p q = ap (λ l. l ++ c) p ∙ ap (λ l. b ++ l) q

counted_once : {m n : ℕ} {b c : List ℕ} → m ≡ n → IsUnsigned m b → IsUnsigned n c → b ≡ c
counted_once {c = c} same p q = unsigned_unique p (subst (λ k. IsUnsigned k c) (sym same) q)

-- ---- part by part
record AreOnce (js ks : List Data) (b c : List ℕ) : Type 0 where
  count : length js ≡ length ks
  bytes : b ≡ c

one_more : (j k : Data) (js ks : List Data) → length js ≡ length ks → length (j ∷ js) ≡ length (k ∷ ks)
one_more j k js ks same = omega (arith, same)

mutual
  part_once : {T : Table} {H : Bool} {t : TypeId} {limit : ℕ} {j k : Data} {b c : List ℕ} → HaveFewFields T
      → Says T H t limit j b → Says T H t limit k c → outline j ≡ outline k → b ≡ c
  part_once {T = T} {H = H} {t = t} {limit = limit} {k = k} {c = c} few (of_type {s = s} found some h)
      (of_type {s = r} found' some' h') same =
      let one : r ≡ s = some_injective (sym found' ∙ found) in
      kind_once few (few t s found) h (subst (λ (q : Shape). SaysAs T H q.kind limit k c) one h') same

  kind_once : {T : Table} {H : Bool} {k : Kind} {limit : ℕ} {i j : Data} {b c : List ℕ} → HaveFewFields T
      → FewFields k → SaysAs T H k limit i b → SaysAs T H k limit j c → outline i ≡ outline j → b ≡ c
  kind_once few own (of_basic p o is) (of_basic q u are) same =
      spelled_once (basic_once p q o u is are same) p q
  kind_once few own (of_basic p o is) (of_held name on q some named may typed number h counted) same =
      absurd (true≢false (sym (shows_null p is) ∙ ap is_null same))
  kind_once few own (of_held name on q some named may typed number h counted) (of_basic p o is) same =
      absurd (true≢false (sym (shows_null p is) ∙ ap is_null (sym same)))
  kind_once {T = T} {H = H} {limit = limit} few own
      (of_held {held = u} {j = j} name on o some named may typed number h counted)
      (of_held {held = w} {n = n'} {c = c'} {b = b'} {j = k} other on' o' some' named' may' typed' number' h' counted')
      same =
      let inside = ap held same in
      let names = text_once name other o o' (ap (λ j. held j) inside) in
      let f = signed_fits typed in
      let g = signed_fits typed' in
      let numbers : u.0 ≡ w.0 =
      natural_said (omega (arith, ints)) (omega (arith, ints)) number number'
      (ap (λ j. first_value (other_members (members_in j))) inside) in
      let types : u ≡ w = ap (λ n. record { 0 = n }) numbers in
      let values = top_once few h (subst (λ (t : TypeId). SaysTop T H t (limit - 1) k b') (sym types) h')
      (ap (λ j. first_value (other_members (other_members (members_in j)))) inside) in
      joined (counted_once (ap length names) named named')
      (joined names (joined (signed_unique typed (subst (λ i. IsSigned (pos i) n') (sym numbers) typed'))
      (joined (counted_once (ap length values) counted counted') values)))
  kind_once few own (of_opaque s o p) (of_opaque t u q) same =
      let one = hex_once s t o u (ap held same) in
      joined (counted_once (ap length one) p q) one
  kind_once few own (of_slice p h) (of_slice q k) same =
      let r = each_once few h k (ap items_in same) in
      joined (counted_once r.count p q) r.bytes
  kind_once few own (of_array all p h) (of_array all' q k) same =
      let r = each_once few h k (ap items_in same) in
      joined (counted_once r.count p q) r.bytes
  kind_once few own (of_map p h) (of_map q k) same =
      let r = pairs_once few h k (ap items_in same) in
      joined (counted_once r.count p q) r.bytes
  kind_once few own (of_struct h) (of_struct k) same = fields_once few own h k (ap items_in same)

  pub top_once : {T : Table} {H : Bool} {t : TypeId} {limit : ℕ} {j k : Data} {b c : List ℕ} → HaveFewFields T
      → SaysTop T H t limit j b → SaysTop T H t limit k c → outline j ≡ outline k → b ≡ c
  top_once few (at_once found is h) (at_once found' is' h') same = part_once few h h' same
  top_once few (at_once {s = s} found is h) (tagged found' isnt h') same =
      absurd (isnt (subst (λ (r : Shape). IsStruct r.kind) (some_injective (sym found ∙ found')) is))
  top_once few (tagged {s = s} found isnt h) (at_once found' is h') same =
      absurd (isnt (subst (λ (r : Shape). IsStruct r.kind) (some_injective (sym found' ∙ found)) is))
  top_once few (tagged found isnt h) (tagged found' isnt' h') same = ap (λ l. 0 ∷ l) (part_once few h h' same)

  each_once : {T : Table} {H : Bool} {e : TypeId} {limit : ℕ} {js ks : List Data} {b c : List ℕ} → HaveFewFields T
      → SaysEach T H e limit js b → SaysEach T H e limit ks c
      → items_outline (items_of js) ≡ items_outline (items_of ks) → AreOnce js ks b c
  each_once few no_element no_element same = record { count = refl; bytes = refl }
  each_once few no_element (element h k) same = absurd (true≢false (ap is_end same))
  each_once few (element h k) no_element same = absurd (true≢false (ap is_end (sym same)))
  each_once few (element {j = j} {js = js} h k) (element {j = i} {js = is} h' k') same =
      let r = each_once few k k' (ap rest same) in
      record {
        count = one_more j i js is r.count;
        bytes = joined (part_once few h h' (ap first same)) r.bytes;
      }

  pairs_once : {T : Table} {H : Bool} {k e : TypeId} {limit : ℕ} {js ks : List Data} {b c : List ℕ} → HaveFewFields T
      → SaysPairs T H k e limit js b → SaysPairs T H k e limit ks c
      → items_outline (items_of js) ≡ items_outline (items_of ks) → AreOnce js ks b c
  pairs_once few no_entry no_entry same = record { count = refl; bytes = refl }
  pairs_once few no_entry (entry g h k) same = absurd (true≢false (ap is_end same))
  pairs_once few (entry g h k) no_entry same = absurd (true≢false (ap is_end (sym same)))
  pairs_once few (entry {x = x} {js = js} g h k) (entry {x = y} {js = is} g' h' k') same =
      let r = pairs_once few k k' (ap rest same) in
      let pair = ap (λ js. items_in (first js)) same in
      record {
        count = one_more x y js is r.count;
        bytes = joined (part_once few g g' (ap first pair))
            (joined (part_once few h h' (ap (λ js. first (rest js)) pair)) r.bytes);
      }

  fields_once : {T : Table} {H : Bool} {types : List Field} {next limit : ℕ} {js ks : List Data} {b c : List ℕ}
      → HaveFewFields T → length types < 2 ^ 64 → SaysFields T H types next limit js b
      → SaysFields T H types next limit ks c → items_outline (items_of js) ≡ items_outline (items_of ks) → b ≡ c
  fields_once few own (end_of_fields p) (end_of_fields q) same = unsigned_unique p q
  fields_once few own (end_of_fields p) (next_field order at delta number h k) same =
      absurd (true≢false (ap is_end same))
  fields_once few own (next_field order at delta number h k) (end_of_fields p) same =
      absurd (true≢false (ap is_end (sym same)))
  fields_once {T = T} {H = H} {types = types} {next = next} {limit = limit} few own
      (next_field {f = f} {e = e} order at delta number h k)
      (next_field {f = g} {e = d} {j = j'} {js = js'} {b = b'} {c = c'} order' at' delta' number' h' k') same =
      let triple = ap (λ js. items_in (first js)) same in
      let fs : f ≡ g = natural_said (number_small types f e own at) (number_small types g d own at') number number'
      (ap first triple) in
      let es : e ≡ d = some_injective (sym at ∙ ap (slice_get types) fs ∙ at') in
      let value = subst (λ (e : Field). Says T H e.id limit j' b') (sym es) h' in
      let others = subst (λ i. SaysFields T H types (i + 1) limit js' c') (sym fs) k' in
      joined (counted_once (ap (λ i. i + 1 - next) fs) delta delta')
      (joined (part_once few h value (ap (λ js. first (rest (rest js))) triple))
      (fields_once few own k others (ap rest same)))

pub tokens_once : {T : Table} {H : Bool} {t : TypeId} {limit : ℕ} {j k : Data} {b c : List ℕ} (x y : List Token)
    → HaveFewFields T → SaysTop T H t limit j b → SaysTop T H t limit k c
    → json_tokens (outline j) ++ x ≡ json_tokens (outline k) ++ y → (b ≡ c) × (x ≡ y)
tokens_once {j = j} {k = k} x y few p q same =
    let one = one_json (outline j) (outline k) x y same in
    (top_once few p q one.0, one.1)

-- ---- a line says one value of one type
pub put_once : {T : Table} {H : Bool} {limit : ℕ} {ts : List Token} {id other : TypeId} {b c : List ℕ}
    → HaveFewFields T → SaysPut T H limit ts id b → SaysPut T H limit ts other c → (id ≡ other) × (b ≡ c)
put_once {T = T} {H = H} {limit = limit} {id = id} {other = other} {c = c} few p q =
    let one = one_json (outline (put_data p.number p.json)) (outline (put_data q.number q.json)) [] []
    (sym p.said ∙ q.said) in
    let inside = ap members_in one.0 in
    let numbers : id.0 ≡ other.0 = natural_said p.small q.small p.typed q.typed (ap first_value inside) in
    let types : id ≡ other = ap (λ n. record { 0 = n }) numbers in (
      types,
      top_once few p.says (subst (λ (t : TypeId). SaysTop T H t limit q.json c) (sym types) q.says)
          (ap (λ ms. first_value (other_members ms)) inside),
    )
