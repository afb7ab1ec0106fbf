-- Where a whole value stands, each expected item stands there and is allowed.
use Rattle.std.proofs.Common.{◌≡◌, ℕ, ◌+◌, ◌-◌, ◌<◌, ◌≤◌, Bool, true, false, List, ◌++◌, length, arith, refl, sym, ap}
use Rattle.std.proofs.Common.{◌∙◌, subst, append_assoc, length-append}
use Rattle.std.proofs.lemmas.Option.{slice_get_within}
use Rattle.std.specs.Prelude.{slice_get, ℤ}
use Rattle.gob_num.specs.Unsigned.{IsUnsigned}
use Rattle.gob_num.specs.Signed.{IsSigned, not_negative, negative}
use Rattle.gob_num.specs.Pattern.{IsPattern}
use Rattle.gob_num.proofs.PublicLaws.{unsigned_prefix, pattern_prefix, pattern_unsigned, regroup}
use Rattle.gob_types.specs.declared.id.TypeId.{TypeId}
use Rattle.gob_types.specs.declared.kind.Field.{Field}
use Rattle.gob_types.specs.declared.kind.Kind.{Kind}
use Rattle.gob_types.specs.declared.kind.Shape.{Shape}
use Rattle.gob_types.specs.Table.{Table}
use Rattle.gob_types.proofs.PublicLaws.{some_injective}
use Rattle.gob_value.specs.Tree.{Tree, Trees, Pairs, Fields, tree_count, pair_count}
use Rattle.gob_value.specs.Spelling.{truth, Spells, of_type, SpellsAs, of_bool, of_int, of_uint, of_float, of_complex}
use Rattle.gob_value.specs.Spelling.{of_nil, of_bytes, of_text, of_opaque, of_slice, of_array, of_map, of_struct}
use Rattle.gob_value.specs.Spelling.{SpellsEach, no_element, element, SpellsPairs, no_entry, entry, SpellsFields}
use Rattle.gob_value.specs.Spelling.{end_of_fields, next_field}
use Rattle.gob_value.proofs.PublicLaws.{same_spelling}
use Rattle.gob_read.specs.Expected.{Expected, a_number, raw, Allowed, Allows, any, delta, first_allowed}
use Rattle.gob_read.specs.Expects.{FieldsRun, no_fields, field_then, Enters, slice_element, array_element, next_key}
use Rattle.gob_read.specs.Expects.{next_value, next_field as enters_field, ExpectsAt, first, second, byte_content}
use Rattle.gob_read.specs.Expects.{text_content, opaque_content, next_delta, Expects, in_itself, in_part}

-- some value of the type stands first
pub record StandsFirst (T : Table) (t : TypeId) (r : List ℕ) : Type 0 where
  pub value : Tree
  pub bytes : List ℕ
  pub rest : List ℕ
  pub spelled : Spells T t value bytes
  pub whole : r ≡ bytes ++ rest

-- of two readings of the elements, the longer goes on where the shorter ends
pub each_goes_on : {T : Table} {e : TypeId} {vs ws : Trees} {b c : List ℕ} (x y : List ℕ) → SpellsEach T e vs b
    → SpellsEach T e ws c → tree_count vs < tree_count ws → b ++ x ≡ c ++ y → StandsFirst T e x
each_goes_on x y no_element no_element n h = absurd (omega arith)
each_goes_on x y no_element (element {v = w} {b = c} {c = q'} q qs) n h = record {
  value = w;
  bytes = c;
  rest = q'
      ++ y;
  spelled = q;
  whole = h ∙ append_assoc c q' y;
}
each_goes_on x y (element p ps) no_element n h = absurd (omega arith)
each_goes_on x y (element {b = b} {c = p'} p ps) (element {b = c} {c = q'} q qs) n h =
    let r = same_spelling (p' ++ x) (q' ++ y) p q (regroup b p' x c q' y h) in
    each_goes_on x y ps qs (omega arith) r.rest

-- the fields that are left
pub record FieldsLeft (T : Table) (types : List Field) (next : ℕ) (x y : List ℕ) : Type 0 where
  pub fields : Fields
  pub bytes : List ℕ
  pub spelled : SpellsFields T types next fields bytes
  pub whole : x ≡ bytes ++ y

pub fields_go_on : {T : Table} {types : List Field} {start next : ℕ} {fs : Fields} {a b : List ℕ} (x y : List ℕ)
    → FieldsRun T types start next a → SpellsFields T types start fs b → a ++ x ≡ b ++ y → FieldsLeft T types next x y
fields_go_on {fs = fs} {b = b} x y no_fields p h = record { fields = fs; bytes = b; spelled = p; whole = h }
fields_go_on x y (field_then {a = a} {b = b} {c = c} l g n s q) (end_of_fields k) h =
    absurd (let r = (unsigned_prefix ((b ++ c) ++ x) y n k (sym (append_assoc a (b ++ c) x) ∙ h)).value in omega arith)
fields_go_on {T = T} {types = types} x y (field_then {f = f} {e = e} {a = a} {b = b} {c = c} l g n s q)
    (next_field {f = f'} {e = e'} {v = w} {fs = ws} {a = a'} {b = b'} {c = c'} l' g' n' s' ps) h =
    let r = unsigned_prefix ((b ++ c) ++ x) ((b' ++ c') ++ y) n n' (regroup a (b ++ c) x a' (b' ++ c') y h) in
    let one : f' ≡ f = let v = r.value in omega arith in
    let type : e' ≡ e = some_injective (sym g' ∙ ap (λ n. slice_get types n) one ∙ g) in
    let u = same_spelling (c ++ x) (c' ++ y) s (subst (λ (e : Field). Spells T e.id w b') type s')
    (regroup b c x b' c' y r.rest) in
    fields_go_on x y q (subst (λ n. SpellsFields T types (n + 1) ws c') one ps) u.rest

-- a key and its element stand first
pub record PairStandsFirst (T : Table) (k e : TypeId) (x : List ℕ) : Type 0 where
  pub key : StandsFirst T k x
  pub value : StandsFirst T e key.rest

pub pairs_go_on : {T : Table} {k e : TypeId} {ps qs : Pairs} {b c : List ℕ} (x y : List ℕ) → SpellsPairs T k e ps b
    → SpellsPairs T k e qs c → pair_count ps < pair_count qs → b ++ x ≡ c ++ y → PairStandsFirst T k e x
pairs_go_on x y no_entry no_entry n h = absurd (omega arith)
pairs_go_on x y no_entry (entry {x = v} {v = w} {a = f} {b = g} {c = q'} q s qs) n h = record {
  key = record { value = v; bytes = f; rest = (g ++ q') ++ y; spelled = q; whole = h ∙ append_assoc f (g ++ q') y };
  value = record { value = w; bytes = g; rest = q' ++ y; spelled = s; whole = append_assoc g q' y };
}
pairs_go_on x y (entry p r ps) no_entry n h = absurd (omega arith)
pairs_go_on x y (entry {a = a} {b = b} {c = p'} p r ps) (entry {a = c} {b = d} {c = q'} q s qs) n h =
    let one = same_spelling ((b ++ p') ++ x) ((d ++ q') ++ y) p q (regroup a (b ++ p') x c (d ++ q') y h) in
    let two = same_spelling (p' ++ x) (q' ++ y) r s (regroup b p' x d q' y one.rest) in
    pairs_go_on x y ps qs (omega arith) two.rest

pub key_then : {T : Table} {k e : TypeId} {v : Tree} {a : List ℕ} (y : List ℕ) → PairStandsFirst T k e (a ++ y)
    → Spells T k v a → StandsFirst T e y
key_then {T = T} {e = e} y p s =
    let u = same_spelling y p.key.rest s p.key.spelled p.key.whole in
    subst (StandsFirst T e) (sym u.rest) p.value

-- where a whole part stands, the part in it that begins somewhere stands there whole
pub enters_whole : {T : Table} {k : Kind} {s : TypeId} {v : Tree} {b q : List ℕ} (y r : List ℕ) → Enters T k q s
    → SpellsAs T k v b → q ++ r ≡ b ++ y → StandsFirst T s r
enters_whole y r (slice_element {c = f} {b = g} n qs l) (of_slice {c = c} {b = d} p ps) h =
    let u = unsigned_prefix (g ++ r) (d ++ y) n p (regroup f g r c d y h) in
    each_goes_on r y qs ps (let total = u.value in omega arith) u.rest
enters_whole y r (array_element {c = f} {b = g} n qs l) (of_array {c = c} {b = d} m p ps) h =
    let u = unsigned_prefix (g ++ r) (d ++ y) n p (regroup f g r c d y h) in
    each_goes_on r y qs ps (let total = u.value in omega arith) u.rest
enters_whole y r (next_key {c = f} {b = g} n qs l) (of_map {c = c} {b = d} p ps) h =
    let u = unsigned_prefix (g ++ r) (d ++ y) n p (regroup f g r c d y h) in
    (pairs_go_on r y qs ps (let m = u.value in omega arith) u.rest).key
enters_whole y r (next_value {c = f} {b = g} {a = a} n qs l s) (of_map {c = c} {b = d} p ps) h =
    let u = unsigned_prefix ((g ++ a) ++ r) (d ++ y) n p (regroup f (g ++ a) r c d y h) in
    key_then r (pairs_go_on (a ++ r) y qs ps (let m = u.value in omega arith) (sym (append_assoc g a r) ∙ u.rest)) s
enters_whole {T = T} y r (enters_field {types = types} {next = m} {f = f} {e = e} {a = a} {b = b} q l g n)
    (of_struct ps) h =
    let left = fields_go_on (b ++ r) y q ps (sym (append_assoc a b r) ∙ h) in
    on_field left.spelled left.whole
  where
    on_field : {fs : Fields} {d : List ℕ} → SpellsFields T types m fs d → b ++ r ≡ d ++ y → StandsFirst T e.id r
    on_field (end_of_fields k) j = absurd (let u = (unsigned_prefix r y n k j).value in omega arith)
    on_field (next_field {f = f'} {e = e'} {v = w} {a = a'} {b = b'} {c = c'} l' g' n' s' ps) j =
        let u = unsigned_prefix r ((b' ++ c') ++ y) n n' (j ∙ append_assoc a' (b' ++ c') y) in
        let one : f' ≡ f = let v = u.value in omega arith in
        let type : e' ≡ e = some_injective (sym g' ∙ ap (λ n. slice_get types n) one ∙ g) in
        record {
          value = w;
          bytes = b';
          rest = c' ++ y;
          spelled = subst (λ (e : Field). Spells T e.id w b') type s';
          whole = u.rest ∙ append_assoc b' c' y;
        }

-- the bytes begin with what is expected
pub data Meets : Expected → List ℕ → Type 0 where
  number_met : {a : Allowed} {n : ℕ} {c : List ℕ} (r : List ℕ) → Allows a n → IsUnsigned n c
      → Meets (a_number a) (c ++ r)
  raw_met : {n : ℕ} {r : List ℕ} → n ≤ length r → Meets (raw n) r

pub met : {a : Allowed} {n : ℕ} {c : List ℕ} (x r : List ℕ) → Allows a n → IsUnsigned n c → x ≡ c ++ r
    → Meets (a_number a) x
met {a = a} x r l n e = subst (Meets (a_number a)) (sym e) (number_met r l n)

pub truth_low : (b : Bool) → truth b ≤ 1
truth_low false = omega arith
truth_low true = omega arith

signed_met : {i : ℤ} {b : List ℕ} (x y : List ℕ) → IsSigned i b → x ≡ b ++ y → Meets (a_number any) x
signed_met x y (not_negative p) e = met x y tt p e
signed_met x y (negative p) e = met x y tt p e

pub pattern_met : {p : ℕ} {b : List ℕ} (x y : List ℕ) → IsPattern p b → x ≡ b ++ y → Meets (a_number any) x
pattern_met x y p e = met x y tt (pattern_unsigned p).1 e

delta_met : {T : Table} {types : List Field} {next : ℕ} {fs : Fields} {b : List ℕ} (x y : List ℕ) → next ≤ length types
    → SpellsFields T types next fs b → x ≡ b ++ y → Meets (a_number (delta (length types - next))) x
delta_met x y h (end_of_fields p) e = met x y (omega arith) p e
delta_met {types = types} x y h (next_field {f = f} {e = t} {a = a} {b = b} {c = c} l g p q ps) e =
    met x ((b ++ c) ++ y) (let k = slice_get_within types f t g in omega arith) p (e ∙ append_assoc a (b ++ c) y)

pub next_below : {T : Table} {types : List Field} {start next : ℕ} {b : List ℕ} → FieldsRun T types start next b
    → start ≤ length types → next ≤ length types
next_below no_fields l = l
next_below {types = types} (field_then {f = f} {e = e} l g n s q) h = let k = slice_get_within types f e g in
    next_below q (omega arith)

pub first_met : {T : Table} {k : Kind} {v : Tree} {b : List ℕ} (x y : List ℕ) → SpellsAs T k v b → x ≡ b ++ y
    → Meets (a_number (first_allowed k)) x
first_met x y (of_bool {x = b} p) e = met x y (truth_low b) p e
first_met x y (of_int p) e = signed_met x y p e
first_met x y (of_uint p) e = met x y tt p e
first_met x y (of_float p) e = pattern_met x y p e
first_met x y (of_complex {b = b} {c = c} p q) e = pattern_met x (c ++ y) p (e ∙ append_assoc b c y)
first_met x y (of_nil p) e = met x y refl p e
first_met x y (of_bytes {s = s} {c = c} p) e = met x (s ++ y) tt p (e ∙ append_assoc c s y)
first_met x y (of_text {s = s} {c = c} p) e = met x (s ++ y) tt p (e ∙ append_assoc c s y)
first_met x y (of_opaque {s = s} {c = c} p) e = met x (s ++ y) tt p (e ∙ append_assoc c s y)
first_met x y (of_slice {c = c} {b = b} p ps) e = met x (b ++ y) tt p (e ∙ append_assoc c b y)
first_met x y (of_array {c = c} {b = b} m p ps) e = met x (b ++ y) refl p (e ∙ append_assoc c b y)
first_met x y (of_map {c = c} {b = b} p ps) e = met x (b ++ y) tt p (e ∙ append_assoc c b y)
first_met x y (of_struct {types = types} ps) e = let z : length types - 0 ≡ length types = omega arith in
    subst (λ n. Meets (a_number (delta n)) x) z (delta_met x y (omega arith) ps e)

content_met : {n : ℕ} {b c : List ℕ} (s x y : List ℕ) → IsUnsigned n b → IsUnsigned (length s) c → b ++ x ≡ (c ++ s)
    ++ y → Meets (raw n) x
content_met {c = c} s x y p q e =
    let r = unsigned_prefix x (s ++ y) p q (e ∙ append_assoc c s y) in
    raw_met (let v = r.value in omega (arith, ap length r.rest, length-append s y))

pub at_met : {T : Table} {k : Kind} {v : Tree} {b p : List ℕ} {w : Expected} (x y : List ℕ) → ExpectsAt T k p w
    → SpellsAs T k v b → p ++ x ≡ b ++ y → Meets w x
at_met x y first s e = first_met x y s e
at_met x y (second n) (of_complex {b = b} {c = c} p q) e = let r = pattern_prefix x (c ++ y) n p (e
    ∙ append_assoc b c y) in pattern_met x y q r.rest
at_met x y (byte_content l n) (of_bytes {s = s} p) e = content_met s x y n p e
at_met x y (text_content l n) (of_text {s = s} p) e = content_met s x y n p e
at_met x y (opaque_content l n) (of_opaque {s = s} p) e = content_met s x y n p e
at_met x y (next_delta l q) (of_struct ps) e = let left = fields_go_on x y q ps e in
    delta_met x y (next_below q (omega arith)) left.spelled left.whole

-- a whole value meets whatever is expected in it
pub whole_meets : {T : Table} {t : TypeId} {d : ℕ} {v : Tree} {b p : List ℕ} {w : Expected} (x y : List ℕ)
    → Spells T t v b → Expects T t p w d → p ++ x ≡ b ++ y → Meets w x
whole_meets {T = T} {v = v} {b = b} x y (of_type {s = l} f s) (in_itself {s = k} g a) e =
    let one : l ≡ k = some_injective (sym f ∙ g) in
    at_met x y a (subst (λ (k : Shape). SpellsAs T k.kind v b) one s) e
whole_meets {T = T} {v = v} {b = b} x y (of_type {s = l} f s) (in_part {s = k} {p = p} {q = q} g n a) e =
    let one : l ≡ k = some_injective (sym f ∙ g) in
    let u = enters_whole y (p ++ x) n (subst (λ (k : Shape). SpellsAs T k.kind v b) one s) (sym (append_assoc q p x)
    ∙ e) in
    whole_meets x u.rest u.spelled a u.whole
