-- What was read of the parts of a list, a map or a struct, and what is left of those that stand there.
use Rattle.std.proofs.Common.{◌≡◌, Bool, ℕ, ◌+◌, ◌-◌, ◌<◌, ◌≤◌, List, [], ◌∷◌, ◌++◌, length, Some, None, arith, refl}
use Rattle.std.proofs.Common.{sym, ap}
use Rattle.std.proofs.Common.{subst, ◌∙◌, append_assoc, append-nil, length-append}
use Rattle.std.specs.Prelude.{slice_get}
use Rattle.std.specs.List.{flat_map}
use Rattle.json.specs.Token.{Token}
use Rattle.json.specs.Json.{after_end_array}
use Rattle.serde_json.specs.Data.{Data, array, boolean, null, number, object, string}
use Rattle.gob_num.specs.Unsigned.{IsUnsigned}
use Rattle.gob_types.specs.declared.id.TypeId.{TypeId}
use Rattle.gob_types.specs.declared.kind.Field.{Field}
use Rattle.gob_types.specs.Table.{Table}
use Rattle.gob_json.specs.Json.{pair_json, text_json, triple_json}
use Rattle.gob_lines.specs.Numbers.{IsNatural}
use Rattle.gob_lines.specs.Reads.{Reads}
use Rattle.gob_lines.proofs.ReadLaws.{HasReadParts, all_read, end_is_next, nested, one_more_read}
use Rattle.gob_lines.proofs.UniqueLaws.{J, JS, behind, flat, not_end}
use Rattle.gob_lines.proofs.WholeLaws.{no_end_there}
use Rattle.gob_go_lines.specs.Says.{Says, SaysEach, no_element, element, SaysPairs, no_entry, entry, SaysFields}
use Rattle.gob_go_lines.specs.Says.{end_of_fields, next_field, items_of}
use Rattle.gob_go_lines.specs.Lines.{PutsSaid, ReadsParts, SaysStruct}
use Rattle.gob_go_lines.proofs.KindLaws.{some_bytes}

-- ---- what was read says what stands behind the old bytes

-- so many parts were read: with what the parts say that are left, whichever these are, they say what all do
pub record HasSaid (Left All : List Data → List ℕ → Type 0) (old now : List Token) (count : ℕ) (before after : List ℕ)
    : Type 0 where
  pub parts : List Data
  pub bytes : List ℕ
  pub reads : HasReadParts J parts old now
  pub counted : length parts ≡ count
  pub some : count ≤ length after
  pub appended : after ≡ before ++ bytes
  pub goes_on : (js : List Data) (b : List ℕ) → Left js b → All (parts ++ js) (bytes ++ b)

pub none_said : (All : List Data → List ℕ → Type 0) (old now : List Token) (before : List ℕ)
    → old ≡ Token.begin_array ∷ now → HasSaid All All old now 0 before before
none_said All old now before e = record {
  parts = [];
  bytes = [];
  reads = e;
  counted = refl;
  some = omega arith;
  appended = sym (append-nil before);
  goes_on = λ js b h. h;
}

pub one_more_said : {Left Next All : List Data → List ℕ → Type 0} {old mid : List Token} {count : ℕ}
    {before after : List ℕ} (now : List Token) (new : List ℕ) (j : Data) (b : List ℕ)
    → HasSaid Left All old mid count before after → mid ≡ J j ++ now → new ≡ after ++ b → 0 < length b
    → ((js : List Data) (c : List ℕ) → Next js c → Left (j ∷ js) (b ++ c))
    → HasSaid Next All old now (count + 1) before new
one_more_said {All = All} {old = old} {mid = mid} {before = before} {after = after} now new j b h e is some leads =
    record {
      parts = h.parts ++ j ∷ [];
      bytes = h.bytes ++ b;
      reads = one_more_read J h.parts j old mid now h.reads e;
      counted = omega (arith, length-append h.parts (j ∷ []), h.counted);
      some = omega (arith, ap length is, length-append after b, h.some, some);
      appended = is ∙ ap (λ l. l ++ b) h.appended ∙ append_assoc before h.bytes b;
      goes_on = λ js c s. subst (λ l. All l ((h.bytes ++ b) ++ c)) (sym (append_assoc h.parts (j ∷ []) js))
          (subst (λ l. All (h.parts ++ (j ∷ js)) l) (sym (append_assoc h.bytes b c))
          (h.goes_on (j ∷ js) (b ++ c) (leads js c s)));
    }

-- a key and its element
pub one_entry_said : {T : Table} {H : Bool} {k e : TypeId} {limit : ℕ} {All : List Data → List ℕ → Type 0}
    {old mid : List Token} {count : ℕ} {before after : List ℕ} (now : List Token) (new : List ℕ) (x j : Data)
    (a b : List ℕ) → HasSaid (SaysPairs T H k e limit) All old mid count before after → Reads (pair_json x j) mid now
    → Says T H k limit x a → Says T H e limit j b → new ≡ (after ++ a) ++ b
    → HasSaid (SaysPairs T H k e limit) All old now (count + 1) before new
one_entry_said {T = T} {H = H} {k = k} {e = e} {limit = limit} {after = after} now new x j a b h reads key value is =
    let some : 0 < length (a ++ b) = omega (arith, length-append a b, some_bytes key) in
    one_more_said now new (pair_json x j) (a ++ b) h reads (is ∙ append_assoc after a b) some
    (λ js c s. subst (λ l. SaysPairs T H k e limit (pair_json x j ∷ js) l) (sym (append_assoc a b c))
    (entry key value s))

-- a field that is present
pub one_field_said : {T : Table} {H : Bool} {types : List Field} {next limit : ℕ} {All : List Data → List ℕ → Type 0}
    {old mid : List Token} {count : ℕ} {before after : List ℕ} (now : List Token) (new : List ℕ) (f : ℕ) (e : Field)
    (number j : Data) (a b : List ℕ) → HasSaid (SaysFields T H types next limit) All old mid count before after
    → Reads (triple_json number (text_json e.name) j) mid now → next ≤ f → slice_get types f ≡ Some e
    → IsUnsigned (f + 1 - next) a → IsNatural f number → Says T H e.id limit j b → new ≡ (after ++ a) ++ b
    → HasSaid (SaysFields T H types (f + 1) limit) All old now (count + 1) before new
one_field_said {T = T} {H = H} {types = types} {next = next} {limit = limit} {after = after} now new f e of j a b h
    reads order here delta numbered value is =
    let some : 0 < length (a ++ b) = omega (arith, length-append a b, some_bytes value) in
    let part = triple_json of (text_json e.name) j in
    one_more_said now new part (a ++ b) h reads (is ∙ append_assoc after a b) some
    (λ js c s. subst (λ l. SaysFields T H types next limit (part ∷ js) l) (sym (append_assoc a b c))
    (next_field order here delta numbered value s))

items_each : (js : List Data) → JS (items_of js) ≡ flat_map J js ++ Token.end_array ∷ []
items_each [] = refl
items_each (j ∷ js) = ap (λ (l : List Token). J j ++ l) (items_each js)
    ∙ sym (append_assoc (J j) (flat_map J js) (Token.end_array ∷ []))

pub all_said : {Left All : List Data → List ℕ → Type 0} {old mid : List Token} {count : ℕ} {bytes : List ℕ}
    (now : List Token) → HasSaid Left All old mid count [] bytes → after_end_array mid ≡ Some now → Left [] []
    → ReadsParts All old now count bytes
all_said {All = All} {old = old} {mid = mid} now h end none = record {
  parts = h.parts;
  says = subst (λ l. All h.parts l) (sym h.appended)
      (subst (λ l. All l h.bytes) (append-nil h.parts)
      (subst (λ l. All (h.parts ++ []) l) (append-nil h.bytes) (h.goes_on [] [] none)));
  counted = h.counted;
  reads = all_read J h.parts (items_of h.parts) old mid now (items_each h.parts) h.reads end;
}

pub all_fields_said : {T : Table} {H : Bool} {types : List Field} {next limit count : ℕ} {old mid : List Token}
    {before after : List ℕ} (now : List Token) (new b : List ℕ)
    → HasSaid (SaysFields T H types next limit) (SaysFields T H types 0 limit) old mid count before after
    → after_end_array mid ≡ Some now → IsUnsigned 0 b → new ≡ after ++ b
    → PutsSaid (SaysStruct T H types limit) old now before new
all_fields_said {T = T} {H = H} {types = types} {limit = limit} {old = old} {mid = mid}
    {before = before} now new b h end zero
    is =
    record {
      json = array (items_of h.parts);
      bytes = h.bytes ++ b;
      says = record {
        parts = h.parts;
        says = subst (λ l. SaysFields T H types 0 limit l (h.bytes ++ b)) (append-nil h.parts)
            (h.goes_on [] b (end_of_fields zero));
        is = refl;
      };
      reads = all_read J h.parts (items_of h.parts) old mid now (items_each h.parts) h.reads end;
      appended = is ∙ ap (λ l. l ++ b) h.appended ∙ append_assoc before h.bytes b;
    }

-- ---- the tokens of a part

json_some : (j : Data) → 0 < length (J j)
json_some null = omega arith
json_some (boolean b) = omega arith
json_some (number n) = omega arith
json_some (string s) = omega arith
json_some (array js) = omega arith
json_some (object ms) = omega arith

pub shorter : (j : Data) (old new : List Token) → Reads j old new → length new < length old
shorter j old new reads = let some = json_some j in omega (arith, ap length reads, length-append (J j) new, some)

pub pair_tokens : (i j : Data) (mid t2 t3 t4 now : List Token) → mid ≡ Token.begin_array ∷ t2 → Reads i t2 t3
    → Reads j t3 t4 → t4 ≡ Token.end_array ∷ now → Reads (pair_json i j) mid now
pair_tokens i j mid t2 t3 t4 now e x y z =
    e ∙ ap (λ (l : List Token). Token.begin_array ∷ l) (nested (J i) (J j) t2 t3 t4 now x y z)

pub field_tokens : (number : Data) (name : List ℕ) (j : Data) (mid t1 t2 t3 t4 now : List Token)
    → mid ≡ Token.begin_array ∷ t1 → Reads number t1 t2 → Reads (text_json name) t2 t3 → Reads j t3 t4
    → t4 ≡ Token.end_array ∷ now → Reads (triple_json number (text_json name) j) mid now
field_tokens of name j mid t1 t2 t3 t4 now e first text value end =
    let parts = J (text_json name) ++ (J j ++ Token.end_array ∷ []) in
    e ∙ ap (λ (l : List Token). Token.begin_array ∷ l)
    (first ∙ ap (λ (l : List Token). J of ++ l)
    (nested (J (text_json name)) (J j) t2 t3 t4 now text value end) ∙ sym (append_assoc (J of) parts now))

-- ---- what is left of the parts that stand there

-- these are left, and with the new bytes they say all
pub record HasLeft (Left : List Data → List ℕ → Type 0) (now rest : List Token) (count total : ℕ)
    (after whole : List ℕ) : Type 0 where
  pub parts : List Data
  pub bytes : List ℕ
  pub says : Left parts bytes
  pub stand : now ≡ JS (items_of parts) ++ rest
  pub counted : count + length parts ≡ total
  pub all : after ++ bytes ≡ whole

abbrev pub Leaves : (Left All : List Data → List ℕ → Type 0) → (old now : List Token) → (count : ℕ)
    → (before after : List ℕ) → Type 0
Leaves Left All old now count before after = (js : List Data) (b : List ℕ) (rest : List Token) → All js b
    → Reads (array (items_of js)) old rest → HasLeft Left now rest count (length js) after (before ++ b)

pub none_read : (All : List Data → List ℕ → Type 0) (old now : List Token) (before : List ℕ)
    → old ≡ Token.begin_array ∷ now → Leaves All All old now 0 before before
none_read All old now before e js b rest h said = record {
  parts = js;
  bytes = b;
  says = h;
  stand = ap behind (sym e ∙ said);
  counted = omega arith;
  all = refl;
}

-- at the end of the array none is
none_at_end : (js : List Data) {now new rest : List Token} → now ≡ JS (items_of js) ++ rest
    → now ≡ Token.end_array ∷ new → (js ≡ []) × (new ≡ rest)
none_at_end [] stand h = (refl, ap behind (sym h ∙ stand))
none_at_end (j ∷ js) {new = new} {rest = rest} stand h =
    absurd (not_end j (JS (items_of js)) rest new (sym h ∙ stand))

pub record IsAll (Left : List Data → List ℕ → Type 0) (new rest : List Token) (count total : ℕ) (after whole : List ℕ)
    : Type 0 where
  pub bytes : List ℕ
  pub says : Left [] bytes
  pub rest_is : new ≡ rest
  pub counted : count ≡ total
  pub all : after ++ bytes ≡ whole

pub left_at_end : {Left : List Data → List ℕ → Type 0} {now rest : List Token} {count total : ℕ}
    {after whole : List ℕ} (new : List Token) → HasLeft Left now rest count total after whole
    → after_end_array now ≡ Some new → IsAll Left new rest count total after whole
left_at_end {Left = Left} {now = now} {count = count} {total = total} new h end =
    let none = none_at_end h.parts h.stand (end_is_next now new end) in
    let zero : length h.parts ≡ 0 = ap length none.0 in
    record {
      bytes = h.bytes;
      says = subst (λ l. Left l h.bytes) none.0 h.says;
      rest_is = none.1;
      counted = omega (arith, zero, h.counted);
      all = h.all;
    }

no_element_bytes : {T : Table} {H : Bool} {e : TypeId} {limit : ℕ} {js : List Data} {b : List ℕ}
    → SaysEach T H e limit js b
    → js ≡ [] → b ≡ []
no_element_bytes no_element none = refl
no_element_bytes (element h k) none = absurd (cc)

pub elements_end : {T : Table} {H : Bool} {e : TypeId} {limit : ℕ} {now rest : List Token} {count total : ℕ}
    {after whole : List ℕ} (new : List Token) → HasLeft (SaysEach T H e limit) now rest count total after whole
    → after_end_array now ≡ Some new → (◌≡◌ {A = ℕ × List ℕ} (count, after) (total, whole)) × (new ≡ rest)
elements_end {total = total} {after = after} new h end =
    let l = left_at_end new h end in
    let none = no_element_bytes l.says refl in
    let bytes = sym (append-nil after) ∙ ap (λ b. after ++ b) (sym none) ∙ l.all in
    (ap (λ (a : ℕ). (a, after)) l.counted ∙ ap (λ (a : List ℕ). (total, a)) bytes, l.rest_is)

no_entry_bytes : {T : Table} {H : Bool} {k e : TypeId} {limit : ℕ} {js : List Data} {b : List ℕ}
    → SaysPairs T H k e limit js b
    → js ≡ [] → b ≡ []
no_entry_bytes no_entry none = refl
no_entry_bytes (entry g h k) none = absurd (cc)

pub entries_end : {T : Table} {H : Bool} {k e : TypeId} {limit : ℕ} {now rest : List Token} {count total : ℕ}
    {after whole : List ℕ} (new : List Token) → HasLeft (SaysPairs T H k e limit) now rest count total after whole
    → after_end_array now ≡ Some new → (◌≡◌ {A = ℕ × List ℕ} (count, after) (total, whole)) × (new ≡ rest)
entries_end {total = total} {after = after} new h end =
    let l = left_at_end new h end in
    let none = no_entry_bytes l.says refl in
    let bytes = sym (append-nil after) ∙ ap (λ b. after ++ b) (sym none) ∙ l.all in
    (ap (λ (a : ℕ). (a, after)) l.counted ∙ ap (λ (a : List ℕ). (total, a)) bytes, l.rest_is)

no_field_bytes : {T : Table} {H : Bool} {types : List Field} {next limit : ℕ} {js : List Data} {b : List ℕ}
    → SaysFields T H types next limit js b → js ≡ [] → IsUnsigned 0 b
no_field_bytes (end_of_fields p) none = p
no_field_bytes (next_field o i p q h k) none = absurd (cc)

pub record FieldsAll (new rest : List Token) (after whole : List ℕ) : Type 0 where
  pub bytes : List ℕ
  pub zero : IsUnsigned 0 bytes
  pub rest_is : new ≡ rest
  pub all : after ++ bytes ≡ whole

pub fields_end : {T : Table} {H : Bool} {types : List Field} {next limit : ℕ} {now rest : List Token} {count total : ℕ}
    {after whole : List ℕ} (new : List Token)
    → HasLeft (SaysFields T H types next limit) now rest count total after whole
    → after_end_array now ≡ Some new → FieldsAll new rest after whole
fields_end new h end =
    let l = left_at_end new h end in
    record { bytes = l.bytes; zero = no_field_bytes l.says refl; rest_is = l.rest_is; all = l.all }

-- ---- the next one, where the array doesn't end

pub record NextElement (T : Table) (H : Bool) (e : TypeId) (limit : ℕ) (now rest : List Token) (count total : ℕ)
    (after whole : List ℕ) : Type 0 where
  pub json : Data
  pub bytes : List ℕ
  pub parts : List Data
  pub others : List ℕ
  pub says : Says T H e limit json bytes
  pub left : SaysEach T H e limit parts others
  pub stand : now ≡ J json ++ (JS (items_of parts) ++ rest)
  pub counted : count + 1 + length parts ≡ total
  pub all : (after ++ bytes) ++ others ≡ whole

element_at : {T : Table} {H : Bool} {e : TypeId} {limit : ℕ} {now rest : List Token} {count total : ℕ}
    {after whole : List ℕ}
    {js : List Data} {b : List ℕ} → SaysEach T H e limit js b → now ≡ JS (items_of js) ++ rest
    → count + length js ≡ total → after ++ b ≡ whole → after_end_array now ≡ None
    → NextElement T H e limit now rest count total after whole
element_at no_element stand counted all n = absurd (no_end_there stand n)
element_at {rest = rest} {after = after} (element {j = j} {js = js} {b = b} {c = c} h k) stand counted all n = record {
  json = j;
  bytes = b;
  parts = js;
  others = c;
  says = h;
  left = k;
  stand = stand ∙ append_assoc (J j) (JS (items_of js)) rest;
  counted = omega (arith, counted);
  all = append_assoc after b c ∙ all;
}

pub element_next : {T : Table} {H : Bool} {e : TypeId} {limit : ℕ} {now rest : List Token} {count total : ℕ}
    {after whole : List ℕ} → HasLeft (SaysEach T H e limit) now rest count total after whole
    → after_end_array now ≡ None → NextElement T H e limit now rest count total after whole
element_next h n = element_at h.says h.stand h.counted h.all n

-- it was read
pub element_read : {T : Table} {H : Bool} {e : TypeId} {limit : ℕ} {now rest : List Token} {count total : ℕ}
    {after whole : List ℕ} (new : List Token) (put : List ℕ) (n : NextElement T H e limit now rest count total after
    whole)
    → new ≡ JS (items_of n.parts) ++ rest → put ≡ after ++ n.bytes
    → HasLeft (SaysEach T H e limit) new rest (count + 1) total put whole
element_read new put n stand is = record {
  parts = n.parts;
  bytes = n.others;
  says = n.left;
  stand = stand;
  counted = n.counted;
  all = ap (λ l. l ++ n.others) is ∙ n.all;
}

pub record NextEntry (T : Table) (H : Bool) (k e : TypeId) (limit : ℕ) (now rest : List Token) (count total : ℕ)
    (after whole : List ℕ) : Type 0 where
  pub key : Data
  pub json : Data
  pub key_bytes : List ℕ
  pub bytes : List ℕ
  pub parts : List Data
  pub others : List ℕ
  pub key_says : Says T H k limit key key_bytes
  pub says : Says T H e limit json bytes
  pub left : SaysPairs T H k e limit parts others
  pub stand : now ≡ Token.begin_array ∷ (J key ++ (J json ++ (Token.end_array ∷ (JS (items_of parts) ++ rest))))
  pub counted : count + 1 + length parts ≡ total
  pub all : ((after ++ key_bytes) ++ bytes) ++ others ≡ whole

three : (a b c d : List ℕ) → ((a ++ b) ++ c) ++ d ≡ a ++ (b ++ (c ++ d))
three a b c d = append_assoc (a ++ b) c d ∙ append_assoc a b (c ++ d)

entry_at : {T : Table} {H : Bool} {k e : TypeId} {limit : ℕ} {now rest : List Token} {count total : ℕ}
    {after whole : List ℕ}
    {js : List Data} {b : List ℕ} → SaysPairs T H k e limit js b → now ≡ JS (items_of js) ++ rest
    → count + length js ≡ total → after ++ b ≡ whole → after_end_array now ≡ None
    → NextEntry T H k e limit now rest count total after whole
entry_at no_entry stand counted all n = absurd (no_end_there stand n)
entry_at {rest = rest} {after = after} (entry {x = x} {j = j} {js = js} {a = a} {b = b} {c = c} g h k) stand counted all
    n =
    record {
      key = x;
      json = j;
      key_bytes = a;
      bytes = b;
      parts = js;
      others = c;
      key_says = g;
      says = h;
      left = k;
      stand = stand ∙ ap (λ (l : List Token). Token.begin_array ∷ l)
          (flat (J x) (J j) (Token.end_array ∷ []) (JS (items_of js)) rest);
      counted = omega (arith, counted);
      all = three after a b c ∙ all;
    }

pub entry_next : {T : Table} {H : Bool} {k e : TypeId} {limit : ℕ} {now rest : List Token} {count total : ℕ}
    {after whole : List ℕ} → HasLeft (SaysPairs T H k e limit) now rest count total after whole
    → after_end_array now ≡ None → NextEntry T H k e limit now rest count total after whole
entry_next h n = entry_at h.says h.stand h.counted h.all n

pub entry_read : {T : Table} {H : Bool} {k e : TypeId} {limit : ℕ} {now rest : List Token} {count total : ℕ}
    {after whole : List ℕ} (new : List Token) (put : List ℕ) (n : NextEntry T H k e limit now rest count total after
    whole)
    → new ≡ JS (items_of n.parts) ++ rest → put ≡ (after ++ n.key_bytes) ++ n.bytes
    → HasLeft (SaysPairs T H k e limit) new rest (count + 1) total put whole
entry_read new put n stand is = record {
  parts = n.parts;
  bytes = n.others;
  says = n.left;
  stand = stand;
  counted = n.counted;
  all = ap (λ l. l ++ n.others) is ∙ n.all;
}

pub record NextField (T : Table) (H : Bool) (types : List Field) (next limit : ℕ) (now rest : List Token)
    (count total : ℕ)
    (after whole : List ℕ) : Type 0 where
  pub at : ℕ
  pub named : Field
  pub number : Data
  pub json : Data
  pub delta : List ℕ
  pub bytes : List ℕ
  pub parts : List Data
  pub others : List ℕ
  pub later : next ≤ at
  pub there : slice_get types at ≡ Some named
  pub spelled : IsUnsigned (at + 1 - next) delta
  pub numbered : IsNatural at number
  pub says : Says T H named.id limit json bytes
  pub left : SaysFields T H types (at + 1) limit parts others
  pub stand : now ≡ Token.begin_array ∷ (J number ++ (J (text_json named.name)
      ++ (J json ++ (Token.end_array ∷ (JS (items_of parts) ++ rest)))))
  pub counted : count + 1 + length parts ≡ total
  pub all : ((after ++ delta) ++ bytes) ++ others ≡ whole

-- three parts, an end, and what stands behind
flat_behind : (n a b e m x : List Token) → ((n ++ (a ++ (b ++ e))) ++ m) ++ x ≡ n ++ (a ++ (b ++ (e ++ (m ++ x))))
flat_behind n a b e m x =
    ap (λ (l : List Token). l ++ x) (append_assoc n (a ++ (b ++ e)) m)
    ∙ append_assoc n ((a ++ (b ++ e)) ++ m) x
    ∙ ap (λ (l : List Token). n ++ l) (flat a b e m x)

field_at : {T : Table} {H : Bool} {types : List Field} {next limit : ℕ} {now rest : List Token} {count total : ℕ}
    {after whole : List ℕ} {js : List Data} {b : List ℕ} → SaysFields T H types next limit js b
    → now ≡ JS (items_of js) ++ rest → count + length js ≡ total → after ++ b ≡ whole → after_end_array now ≡ None
    → NextField T H types next limit now rest count total after whole
field_at (end_of_fields p) stand counted all n = absurd (no_end_there stand n)
field_at {rest = rest} {after = after}
    (next_field {f = f} {e = e} {number = of} {j = j} {js = js} {a = a} {b = b} {c = c} o i p q h k) stand counted
    all n =
    record {
      at = f;
      named = e;
      number = of;
      json = j;
      delta = a;
      bytes = b;
      parts = js;
      others = c;
      later = o;
      there = i;
      spelled = p;
      numbered = q;
      says = h;
      left = k;
      stand = stand ∙ ap (λ (l : List Token). Token.begin_array ∷ l)
          (flat_behind (J of) (J (text_json e.name)) (J j) (Token.end_array ∷ []) (JS (items_of js)) rest);
      counted = omega (arith, counted);
      all = three after a b c ∙ all;
    }

pub field_next : {T : Table} {H : Bool} {types : List Field} {next limit : ℕ} {now rest : List Token} {count total : ℕ}
    {after whole : List ℕ} → HasLeft (SaysFields T H types next limit) now rest count total after whole
    → after_end_array now ≡ None → NextField T H types next limit now rest count total after whole
field_next h n = field_at h.says h.stand h.counted h.all n

pub field_read : {T : Table} {H : Bool} {types : List Field} {next limit : ℕ} {now rest : List Token} {count total : ℕ}
    {after whole : List ℕ} (new : List Token) (put : List ℕ)
    (n : NextField T H types next limit now rest count total after whole)
    → new ≡ JS (items_of n.parts) ++ rest → put ≡ (after ++ n.delta) ++ n.bytes
    → HasLeft (SaysFields T H types (n.at + 1) limit) new rest (count + 1) total put whole
field_read new put n stand is = record {
  parts = n.parts;
  bytes = n.others;
  says = n.left;
  stand = stand;
  counted = n.counted;
  all = ap (λ l. l ++ n.others) is ∙ n.all;
}
