-- Texts of digits stand for numbers in all that lines say of values.
use Rattle.std.proofs.Common.{◌≡◌, ℕ, ℤ, suc, ◌-◌, ◌+◌, pos, negsuc, List, [], ◌∷◌, ◌++◌, length, refl, sym, ap, subst}
use Rattle.std.proofs.Common.{◌∙◌, codes}
use Rattle.std.specs.Prelude.{Bool, true, false, if◌then◌else◌}
use Rattle.std.specs.Str.{is_utf8}
use Rattle.serde_json.specs.Data.{Data, null, boolean, number, unsigned, negative, float, string, array, object, Items}
use Rattle.serde_json.specs.Data.{no_items, item, Members, no_members, member}
use Rattle.gob_num.specs.Unsigned.{IsUnsigned}
use Rattle.gob_types.specs.declared.id.TypeId.{TypeId}
use Rattle.gob_types.specs.declared.basic.Basic.{Basic}
use Rattle.gob_types.specs.declared.basic.Basic.TheVariants as basic
use Rattle.gob_types.specs.declared.kind.Field.{Field}
use Rattle.gob_types.specs.declared.kind.Kind.{Kind}
use Rattle.gob_types.specs.declared.kind.Kind.TheVariants as kind
use Rattle.gob_types.specs.Table.{Table}
use Rattle.gob_value.specs.Spelling.{SpellsAs}
use Rattle.gob_value.specs.Spelling as spells
use Rattle.gob_value.specs.Tree.{Tree}
use Rattle.gob_json.specs.Json.{hex_json, no_type, opaque_json, pair_json, text_json, triple_json, value_json}
use Rattle.gob_lines.specs.Numbers.{AreWithTexts, IsBasicJson, IsInteger, IsNatural, IsWithTexts, MembersAreWithTexts}
use Rattle.gob_lines.specs.Numbers.{as_shown, in_array, in_object, integer_as_text, integer_number, integer_text}
use Rattle.gob_lines.specs.Numbers.{item_with_texts, member_with_texts, natural_as_text, natural_number, natural_text}
use Rattle.gob_lines.specs.Numbers.{no_items_with_texts, no_members_with_texts, of_int, of_uint, same}
use Rattle.gob_go_lines.specs.Says.{Says, of_type, SaysAs, of_basic, of_opaque, of_slice, of_array, of_map, of_struct}
use Rattle.gob_go_lines.specs.Says.{of_held, SaysTop, at_once, tagged, SaysEach, no_element, element, SaysPairs}
use Rattle.gob_go_lines.specs.Says.{no_entry, entry, SaysFields, end_of_fields, next_field, items_of, held_json}

-- ---- what is written, by what is shown

pub record ArrayTexts (written : Data) (shown : Items) : Type 0 where
  pub items : Items
  pub whole : written ≡ array items
  pub each : AreWithTexts items shown

pub record ObjectTexts (written : Data) (shown : Members) : Type 0 where
  pub members : Members
  pub whole : written ≡ object members
  pub each : MembersAreWithTexts members shown

abbrev pub TextsOf : (written shown : Data) → Type 0
TextsOf w (number (unsigned n)) = IsNatural n w
TextsOf w (number (negative (negsuc n))) = IsInteger (negsuc n) w
TextsOf w (array items) = ArrayTexts w items
TextsOf w (object members) = ObjectTexts w members
TextsOf w d = w ≡ d

same_items : (js : Items) → AreWithTexts js js
same_items no_items = no_items_with_texts
same_items (item j js) = item_with_texts same (same_items js)

same_members : (ms : Members) → MembersAreWithTexts ms ms
same_members no_members = no_members_with_texts
same_members (member name j ms) = member_with_texts same (same_members ms)

same_texts : (d : Data) → TextsOf d d
same_texts null = refl
same_texts (boolean b) = refl
same_texts (number (unsigned n)) = natural_number
same_texts (number (negative (pos n))) = refl
same_texts (number (negative (negsuc n))) = integer_number
same_texts (number (float f)) = refl
same_texts (string s) = refl
same_texts (array js) = record { items = js; whole = refl; each = same_items js }
same_texts (object ms) = record { members = ms; whole = refl; each = same_members ms }

natural_of : {n : ℕ} {j : Data} → IsInteger (pos n) j → IsNatural n j
natural_of integer_number = natural_number
natural_of integer_text = natural_text

pub texts_of : {w d : Data} → IsWithTexts w d → TextsOf w d
texts_of {d = d} same = same_texts d
texts_of (natural_as_text p) = p
texts_of (integer_as_text {i = pos n} p) = natural_of p
texts_of (integer_as_text {i = negsuc n} p) = p
texts_of (in_array ps) = record { items = _; whole = refl; each = ps }
texts_of (in_object ps) = record { members = _; whole = refl; each = ps }

-- ---- numbers

pub natural_texts : {n : ℕ} {w j : Data} → IsNatural n j → IsWithTexts w j → IsNatural n w
natural_texts natural_number p = texts_of p
natural_texts {n = n} natural_text p = subst (λ d. IsNatural n d) (sym (texts_of p)) natural_text

integer_texts : {w j : Data} (i : ℤ) → IsInteger i j → IsWithTexts w j → IsInteger i w
integer_texts (pos n) integer_number p = as_integer (texts_of p)
  where
    as_integer : {k : ℕ} {d : Data} → IsNatural k d → IsInteger (pos k) d
    as_integer natural_number = integer_number
    as_integer natural_text = integer_text
integer_texts (negsuc n) integer_number p = texts_of p
integer_texts i integer_text p = subst (λ d. IsInteger i d) (sym (texts_of p)) integer_text

-- ---- what has no number in it is written as it is shown

abbrev mutual
  IsPlain : Data → Type 0
  IsPlain (number n) = ⊥
  IsPlain (array js) = ArePlain js
  IsPlain (object ms) = MembersArePlain ms
  IsPlain d = Unit {0}

  ArePlain : Items → Type 0
  ArePlain no_items = Unit {0}
  ArePlain (item j js) = IsPlain j × ArePlain js

  MembersArePlain : Members → Type 0
  MembersArePlain no_members = Unit {0}
  MembersArePlain (member name j ms) = IsPlain j × MembersArePlain ms

mutual
  plain_stays : {w : Data} (d : Data) → IsPlain d → IsWithTexts w d → w ≡ d
  plain_stays null p w = texts_of w
  plain_stays (boolean b) p w = texts_of w
  plain_stays (number n) p w = absurd p
  plain_stays (string s) p w = texts_of w
  plain_stays (array js) p w = let r = texts_of w in r.whole ∙ ap array (plain_items js p r.each)
  plain_stays (object ms) p w = let r = texts_of w in r.whole ∙ ap object (plain_members ms p r.each)

  plain_items : {ws : Items} (js : Items) → ArePlain js → AreWithTexts ws js → ws ≡ js
  plain_items no_items p no_items_with_texts = refl
  plain_items (item j js) p (item_with_texts {js = ws} w more) =
      ap (λ d. item d ws) (plain_stays j p.0 w) ∙ ap (item j) (plain_items js p.1 more)

  plain_members : {ws : Members} (ms : Members) → MembersArePlain ms → MembersAreWithTexts ws ms → ws ≡ ms
  plain_members no_members p no_members_with_texts = refl
  plain_members (member name j ms) p (member_with_texts {ms = ws} w more) =
      ap (λ d. member name d ws) (plain_stays j p.0 w) ∙ ap (member name j) (plain_members ms p.1 more)

plain_either : (c : Bool) (a b : Data) → IsPlain a → IsPlain b → IsPlain (if c then a else b)
plain_either true a b p q = p
plain_either false a b p q = q

plain_text : (s : List ℕ) → IsPlain (text_json s)
plain_text s =
    plain_either (is_utf8 s) (string s) (object (member (codes "hex") (hex_json s) no_members)) tt (tt, tt)

-- ---- values

shown_still : {T : Table} {w : Data} (v : Tree) → IsPlain (value_json T no_type v)
    → IsWithTexts w (value_json T no_type v) → IsBasicJson T no_type v w
shown_still {T = T} v plain p = subst (λ d. IsBasicJson T no_type v d) (sym (plain_stays _ plain p)) as_shown

basic_texts : {T : Table} {k : Basic} {v : Tree} {b : List ℕ} {w j : Data} → SpellsAs T (kind.Basic k) v b
    → IsBasicJson T no_type v j → IsWithTexts w j → IsBasicJson T no_type v w
basic_texts sp (of_int is) p = of_int (integer_texts _ is p)
basic_texts sp (of_uint is) p = of_uint (natural_texts is p)
basic_texts (spells.of_int s) as_shown p = of_int (integer_texts _ integer_number p)
basic_texts (spells.of_uint s) as_shown p = of_uint (natural_texts natural_number p)
basic_texts {T = T} (spells.of_bool {x = x} s) as_shown p = shown_still (Tree.bool x) tt p
basic_texts (spells.of_float {p = n} s) as_shown p = shown_still (Tree.float n) tt p
basic_texts (spells.of_complex {p = m} {q = n} s r) as_shown p = shown_still (Tree.complex m n) (tt, (tt, tt)) p
basic_texts (spells.of_nil s) as_shown p = shown_still Tree.nil tt p
basic_texts (spells.of_bytes {s = s} q) as_shown p = shown_still (Tree.bytes s) tt p
basic_texts (spells.of_text {s = s} q) as_shown p = shown_still (Tree.text s) (plain_text s) p

-- ---- parts

record PairTexts (written : Items) (a b : Data) : Type 0 where
  first : Data
  second : Data
  is : written ≡ item first (item second no_items)
  key : IsWithTexts first a
  value : IsWithTexts second b

pair_texts : {ws : Items} {a b : Data} → AreWithTexts ws (item a (item b no_items)) → PairTexts ws a b
pair_texts (item_with_texts p (item_with_texts q no_items_with_texts)) =
    record { first = _; second = _; is = refl; key = p; value = q }

record TripleTexts (written : Items) (a name b : Data) : Type 0 where
  first : Data
  third : Data
  is : written ≡ item first (item name (item third no_items))
  numbered : IsWithTexts first a
  says : IsWithTexts third b

triple_texts : {ws : Items} {a b : Data} (name : Data) → IsPlain name
    → AreWithTexts ws (item a (item name (item b no_items))) → TripleTexts ws a name b
triple_texts name plain
    (item_with_texts {j = x} p (item_with_texts q (item_with_texts {j = z} r no_items_with_texts))) = record {
      first = x;
      third = z;
      is = ap (λ d. item x (item d (item z no_items))) (plain_stays name plain q);
      numbered = p;
      says = r;
    }

-- a value with its type, behind a name or alone
abbrev typed_members : (id value : Data) → Members
typed_members id value = member (codes "type") id (member (codes "value") value no_members)

pub record TypedTexts (written : Members) (id value : Data) : Type 0 where
  pub first : Data
  pub second : Data
  pub is : written ≡ typed_members first second
  pub typed : IsWithTexts first id
  pub says : IsWithTexts second value

pub typed_texts : {ws : Members} {n v : Data} → MembersAreWithTexts ws (typed_members n v) → TypedTexts ws n v
typed_texts (member_with_texts p (member_with_texts q no_members_with_texts)) =
    record { first = _; second = _; is = refl; typed = p; says = q }

record HeldTexts (written : Data) (name : List ℕ) (id value : Data) : Type 0 where
  first : Data
  second : Data
  is : written ≡ held_json name first second
  typed : IsWithTexts first id
  says : IsWithTexts second value

held_inside : {ws : Members} {n v : Data} (name : List ℕ)
    → MembersAreWithTexts ws (member (codes "name") (text_json name) (typed_members n v))
    → HeldTexts (object (member (codes "interface") (object ws) no_members)) name n v
held_inside name (member_with_texts {ms = rest} p more) =
    let r = typed_texts more in
    record {
      first = r.first;
      second = r.second;
      is = ap (λ ms. object (member (codes "interface") (object ms) no_members))
          (ap (λ d. member (codes "name") d rest) (plain_stays (text_json name) (plain_text name) p)
          ∙ ap (member (codes "name") (text_json name)) r.is);
      typed = r.typed;
      says = r.says;
    }

held_members : {ws : Members} {n v : Data} (name : List ℕ) → MembersAreWithTexts ws (member (codes "interface")
    (object (member (codes "name") (text_json name) (typed_members n v))) no_members) → HeldTexts (object ws) name n v
held_members {n = n} {v = v} name (member_with_texts {j = w} p no_members_with_texts) =
    let inner = texts_of p in
    subst (λ d. HeldTexts (object (member (codes "interface") d no_members)) name n v) (sym inner.whole)
    (held_inside name inner.each)

held_texts : {w n v : Data} (name : List ℕ) → IsWithTexts w (held_json name n v) → HeldTexts w name n v
held_texts {n = n} {v = v} name p =
    let outer = texts_of p in
    subst (λ d. HeldTexts d name n v) (sym outer.whole) (held_members name outer.each)

-- as many parts, which say the same
record AreTexts (Are : List Data → List ℕ → Type 0) (ws : Items) (count : ℕ) (b : List ℕ) : Type 0 where
  parts : List Data
  is : ws ≡ items_of parts
  counted : length parts ≡ count
  says : Are parts b

mutual
  pub value_texts : {T : Table} {H : Bool} {t : TypeId} {limit : ℕ} {w j : Data} {b : List ℕ} → Says T H t limit j b
      → IsWithTexts w j → Says T H t limit w b
  value_texts (of_type f l p) w = of_type f l (kind_texts p w)

  kind_texts : {T : Table} {H : Bool} {k : Kind} {limit : ℕ} {w j : Data} {b : List ℕ} → SaysAs T H k limit j b
      → IsWithTexts w j → SaysAs T H k limit w b
  kind_texts (of_basic sp holds is) w = of_basic sp holds (basic_texts sp is w)
  kind_texts {T = T} {H = H} {limit = limit} (of_opaque {m = m} {c = c} s o p) w =
      subst (λ d. SaysAs T H (kind.Opaque m) limit d (c ++ s)) (sym (plain_stays (opaque_json s) (tt, tt) w))
      (of_opaque s o p)
  kind_texts {T = T} {H = H} {limit = limit} (of_slice {e = e} {c = c} {b = b} p ps) w =
      let r = texts_of w in
      let q = each_texts ps r.each in
      subst (λ d. SaysAs T H (kind.Slice e) limit d (c ++ b)) (sym (r.whole ∙ ap array q.is))
      (of_slice (subst (λ n. IsUnsigned n c) (sym q.counted) p) q.says)
  kind_texts {T = T} {H = H} {limit = limit} (of_array {e = e} {n = n} {c = c} {b = b} many p ps) w =
      let r = texts_of w in
      let q = each_texts ps r.each in
      subst (λ d. SaysAs T H (kind.Array e n) limit d (c ++ b)) (sym (r.whole ∙ ap array q.is))
      (of_array (q.counted ∙ many) (subst (λ n. IsUnsigned n c) (sym q.counted) p) q.says)
  kind_texts {T = T} {H = H} {limit = limit} (of_map {k = k} {e = e} {c = c} {b = b} p ps) w =
      let r = texts_of w in
      let q = pairs_texts ps r.each in
      subst (λ d. SaysAs T H (kind.Map k e) limit d (c ++ b)) (sym (r.whole ∙ ap array q.is))
      (of_map (subst (λ n. IsUnsigned n c) (sym q.counted) p) q.says)
  kind_texts {T = T} {H = H} {limit = limit} (of_struct {types = types} {b = b} ps) w =
      let r = texts_of w in
      let q = fields_texts ps r.each in
      subst (λ d. SaysAs T H (kind.Struct types) limit d b) (sym (r.whole ∙ ap array q.is)) (of_struct q.says)
  kind_texts {T = T} {H = H} {limit = limit} (of_held {a = a} {n = n} {c = c} {b = b} name holds bytes some named may
      numbered typed top counted) w =
      let r = held_texts name w in
      subst (λ d. SaysAs T H (kind.Basic basic.Interface) limit d (a ++ (name ++ (n ++ (c ++ b))))) (sym r.is)
      (of_held name holds bytes some named may numbered (natural_texts typed r.typed) (top_texts top r.says) counted)

  pub top_texts : {T : Table} {H : Bool} {t : TypeId} {limit : ℕ} {w j : Data} {b : List ℕ} → SaysTop T H t limit j b
      → IsWithTexts w j → SaysTop T H t limit w b
  top_texts (at_once f is p) w = at_once f is (value_texts p w)
  top_texts (tagged f isnt p) w = tagged f isnt (value_texts p w)

  each_texts : {T : Table} {H : Bool} {e : TypeId} {limit : ℕ} {ws : Items} {js : List Data} {b : List ℕ}
      → SaysEach T H e limit js b → AreWithTexts ws (items_of js)
      → AreTexts (λ ps c. SaysEach T H e limit ps c) ws (length js) b
  each_texts no_element no_items_with_texts = record { parts = []; is = refl; counted = refl; says = no_element }
  each_texts (element p ps) (item_with_texts {j = w} one more) =
      let r = each_texts ps more in
      record {
        parts = w ∷ r.parts;
        is = ap (item w) r.is;
        counted = ap suc r.counted;
        says = element (value_texts p one) r.says;
      }

  pairs_texts : {T : Table} {H : Bool} {k e : TypeId} {limit : ℕ} {ws : Items} {js : List Data} {b : List ℕ}
      → SaysPairs T H k e limit js b → AreWithTexts ws (items_of js)
      → AreTexts (λ ps c. SaysPairs T H k e limit ps c) ws (length js) b
  pairs_texts no_entry no_items_with_texts = record { parts = []; is = refl; counted = refl; says = no_entry }
  pairs_texts (entry p q ps) (item_with_texts {js = ws} one more) =
      let r = pairs_texts ps more in
      let pair = pair_texts (texts_of one).each in
      record {
        parts = pair_json pair.first pair.second ∷ r.parts;
        is = ap (λ d. item d ws) ((texts_of one).whole ∙ ap array pair.is)
            ∙ ap (item (pair_json pair.first pair.second)) r.is;
        counted = ap suc r.counted;
        says = entry (value_texts p pair.key) (value_texts q pair.value) r.says;
      }

  fields_texts : {T : Table} {H : Bool} {types : List Field} {next limit : ℕ} {ws : Items} {js : List Data} {b : List ℕ}
      → SaysFields T H types next limit js b → AreWithTexts ws (items_of js)
      → AreTexts (λ ps c. SaysFields T H types next limit ps c) ws (length js) b
  fields_texts (end_of_fields p) no_items_with_texts =
      record { parts = []; is = refl; counted = refl; says = end_of_fields p }
  fields_texts (next_field {e = e} from there delta named p ps) (item_with_texts {js = ws} one more) =
      let r = fields_texts ps more in
      let field = triple_texts (text_json e.name) (plain_text e.name) (texts_of one).each in
      record {
        parts = triple_json field.first (text_json e.name) field.third ∷ r.parts;
        is = ap (λ d. item d ws) ((texts_of one).whole ∙ ap array field.is)
            ∙ ap (item (triple_json field.first (text_json e.name) field.third)) r.is;
        counted = ap suc r.counted;
        says = next_field from there delta (natural_texts named field.numbered) (value_texts p field.says) r.says;
      }
