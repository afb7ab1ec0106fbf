-- Two places in one part, of the same bytes: they are one, or something whole stands at one of them.
use Rattle.std.proofs.Common.{◌≡◌, ℕ, ◌+◌, ◌-◌, ◌<◌, ◌≤◌, ◌⊎◌, inl, inr, List, ◌++◌, length, Some, arith, refl, sym, ap}
use Rattle.std.proofs.Common.{◌∙◌, subst, append_assoc}
use Rattle.std.proofs.lemmas.Option.{slice_get_within}
use Rattle.std.specs.Prelude.{slice_get}
use Rattle.gob_num.specs.Unsigned.{IsUnsigned}
use Rattle.gob_num.specs.Spelled.{Same}
use Rattle.gob_num.proofs.PublicLaws.{unsigned_prefix, pattern_prefix, regroup}
use Rattle.gob_types.specs.declared.id.TypeId.{TypeId}
use Rattle.gob_types.specs.declared.kind.Field.{Field}
use Rattle.gob_types.specs.declared.kind.Kind.{Kind}
use Rattle.gob_types.specs.Table.{Table}
use Rattle.gob_types.proofs.PublicLaws.{some_injective}
use Rattle.gob_value.specs.Tree.{Tree, Trees, Pairs}
use Rattle.gob_value.specs.Spelling.{Spells, SpellsEach, no_element, element, SpellsPairs, no_entry, entry}
use Rattle.gob_value.proofs.PublicLaws.{same_spelling}
use Rattle.gob_read.specs.Expected.{Expected, a_number, raw, delta}
use Rattle.gob_read.specs.Expects.{FieldsRun, no_fields, field_then, Enters, slice_element, array_element, next_key}
use Rattle.gob_read.specs.Expects.{next_value, next_field as enters_field, ExpectsAt, first, second, byte_content}
use Rattle.gob_read.specs.Expects.{text_content, opaque_content, next_delta}
use Rattle.gob_read.proofs.Grammar.Whole.{StandsFirst, PairStandsFirst, key_then, Meets, met, pattern_met}

-- of two runs of elements they are one, or one goes on with a whole value
pub each_compared : {T : Table} {e : TypeId} {vs ws : Trees} {b c : List ℕ} (x y : List ℕ) → SpellsEach T e vs b
    → SpellsEach T e ws c → b ++ x ≡ c ++ y → Same vs ws b c x y ⊎ (StandsFirst T e x ⊎ StandsFirst T e y)
each_compared x y no_element no_element h = inl (record { value = refl; bytes = refl; rest = h })
each_compared x y no_element (element {v = w} {b = c} {c = q'} q qs) h =
    inr (inl (record { value = w; bytes = c; rest = q' ++ y; spelled = q; whole = h ∙ append_assoc c q' y }))
each_compared x y (element {v = v} {b = b} {c = p'} p ps) no_element h =
    inr (inr (record { value = v; bytes = b; rest = p' ++ x; spelled = p; whole = sym h ∙ append_assoc b p' x }))
each_compared x y (element {v = v} {vs = vs} {b = b} {c = p'} p ps) (element {v = w} {vs = ws} {b = c} {c = q'} q qs)
    h =
    let r = same_spelling (p' ++ x) (q' ++ y) p q (regroup b p' x c q' y h) in
    let one : v ≡ w = r.value in
    let bs : b ≡ c = r.bytes in
    elim (each_compared x y ps qs r.rest) [
      | inl s ↦ inl (let vv : vs ≡ ws = s.value in let cs : p' ≡ q' = s.bytes in record {
        value = cc;
        bytes = cc;
        rest =
            s.rest;
      })
      | inr s ↦ inr s
    ]

-- a field's delta and value stand first
pub record NextField (T : Table) (types : List Field) (next : ℕ) (x : List ℕ) : Type 0 where
  pub f : ℕ
  pub type : Field
  pub number : List ℕ
  pub rest : List ℕ
  pub above : next ≤ f
  pub is : slice_get types f ≡ Some type
  pub spelled : IsUnsigned (f + 1 - next) number
  pub whole : x ≡ number ++ rest
  pub value : StandsFirst T type.id rest

pub runs_compared : {T : Table} {types : List Field} {s n m : ℕ} {a b : List ℕ} (x y : List ℕ) → FieldsRun T types s n a
    → FieldsRun T types s m b → a ++ x ≡ b ++ y
    → Same n m a b x y ⊎ (NextField T types n x ⊎ NextField T types m y)
runs_compared x y no_fields no_fields h = inl (record { value = refl; bytes = refl; rest = h })
runs_compared x y no_fields (field_then {f = f} {e = e} {v = v} {a = a} {b = b} {c = c} l g n s q) h =
    inr (inl (record {
      f = f;
      type = e;
      number = a;
      rest = (b ++ c) ++ y;
      above = l;
      is = g;
      spelled = n;
      whole = h ∙ append_assoc a (b ++ c) y;
      value = record { value = v; bytes = b; rest = c ++ y; spelled = s; whole = append_assoc b c y };
    }))
runs_compared x y (field_then {f = f} {e = e} {v = v} {a = a} {b = b} {c = c} l g n s q) no_fields h =
    inr (inr (record {
      f = f;
      type = e;
      number = a;
      rest = (b ++ c) ++ x;
      above = l;
      is = g;
      spelled = n;
      whole = sym h ∙ append_assoc a (b ++ c) x;
      value = record { value = v; bytes = b; rest = c ++ x; spelled = s; whole = append_assoc b c x };
    }))
runs_compared {T = T} {types = types} {m = m} x y (field_then {f = f} {e = e} {a = a} {b = b} {c = c} l g n s q)
    (field_then {f = f'} {e = e'} {v = w} {a = a'} {b = b'} {c = c'} l' g' n' s' q') h =
    let r = unsigned_prefix ((b ++ c) ++ x) ((b' ++ c') ++ y) n n' (regroup a (b ++ c) x a' (b' ++ c') y h) in
    let one : f' ≡ f = let v = r.value in omega arith in
    let type : e' ≡ e = some_injective (sym g' ∙ ap (λ n. slice_get types n) one ∙ g) in
    let u = same_spelling (c ++ x) (c' ++ y) s (subst (λ (e : Field). Spells T e.id w b') type s')
    (regroup b c x b' c' y r.rest) in
    let aa : a ≡ a' = r.bytes in let bb : b ≡ b' = u.bytes in
    elim (runs_compared x y q (subst (λ n. FieldsRun T types (n + 1) m c') one q') u.rest) [
      | inl z ↦ inl (let cs : c ≡ c' = z.bytes in record { value = z.value; bytes = cc; rest = z.rest })
      | inr z ↦ inr z
    ]

next_field_met : {T : Table} {types : List Field} {next : ℕ} {x : List ℕ} → NextField T types next x
    → Meets (a_number (delta (length types - next))) x
next_field_met {types = types} {x = x} z = met x z.rest (let k = slice_get_within types z.f z.type z.is in let l =
    z.above in omega arith) z.spelled z.whole

first_delta_met : {T : Table} {types : List Field} {next : ℕ} {b : List ℕ} (x y : List ℕ) → 0 < next
    → FieldsRun T types 0 next b → x ≡ b ++ y → Meets (a_number (delta (length types))) x
first_delta_met x y l no_fields h = absurd (omega arith)
first_delta_met {types = types} x y l (field_then {f = f} {e = e} {a = a} {b = b} {c = c} k g n s q) h =
    met x ((b ++ c) ++ y) (let m = slice_get_within types f e g in omega arith) n (h ∙ append_assoc a (b ++ c) y)

-- two places of one part, of which neither is a part in it
pub at_once : {T : Table} {k : Kind} {p q : List ℕ} {w u : Expected} (x y : List ℕ) → ExpectsAt T k p w
    → ExpectsAt T k q u → p ++ x ≡ q ++ y → Same w u p q x y ⊎ (Meets w x ⊎ Meets u y)
at_once x y first first h = inl (record { value = refl; bytes = refl; rest = h })
at_once x y first (second n) h = inr (inl (pattern_met x y n h))
at_once x y first (byte_content l n) h = inr (inl (met x y tt n h))
at_once x y first (text_content l n) h = inr (inl (met x y tt n h))
at_once x y first (opaque_content l n) h = inr (inl (met x y tt n h))
at_once x y first (next_delta l q) h = inr (inl (first_delta_met x y l q h))
at_once x y (second n) first h = inr (inr (pattern_met y x n (sym h)))
at_once x y (second n) (second m) h = let r = pattern_prefix x y n m h in
    inl (record { value = refl; bytes = r.bytes; rest = r.rest })
at_once x y (byte_content l n) first h = inr (inr (met y x tt n (sym h)))
at_once x y (byte_content l n) (byte_content k m) h = let r = unsigned_prefix x y n m h in
    inl (record { value = ap raw r.value; bytes = r.bytes; rest = r.rest })
at_once x y (text_content l n) first h = inr (inr (met y x tt n (sym h)))
at_once x y (text_content l n) (text_content k m) h = let r = unsigned_prefix x y n m h in
    inl (record { value = ap raw r.value; bytes = r.bytes; rest = r.rest })
at_once x y (opaque_content l n) first h = inr (inr (met y x tt n (sym h)))
at_once x y (opaque_content l n) (opaque_content k m) h = let r = unsigned_prefix x y n m h in
    inl (record { value = ap raw r.value; bytes = r.bytes; rest = r.rest })
at_once x y (next_delta l q) first h = inr (inr (first_delta_met y x l q (sym h)))
at_once {T = T} x y (next_delta {types = types} l q) (next_delta k r) h =
    elim (runs_compared x y q r h) [
      | inl z ↦ inl (record {
        value = ap (λ n. a_number (delta (length types - n))) z.value;
        bytes = z.bytes;
        rest =
            z.rest;
      })
      | inr z ↦ elim z [ inl a ↦ inr (inl (next_field_met a)) | inr a ↦ inr (inr (next_field_met a)) ]
    ]

pub pairs_compared : {T : Table} {k e : TypeId} {vs ws : Pairs} {b c : List ℕ} (x y : List ℕ) → SpellsPairs T k e vs b
    → SpellsPairs T k e ws c → b ++ x ≡ c ++ y
    → Same vs ws b c x y ⊎ (PairStandsFirst T k e x ⊎ PairStandsFirst T k e y)
pairs_compared x y no_entry no_entry h = inl (record { value = refl; bytes = refl; rest = h })
pairs_compared x y no_entry (entry {x = v} {v = w} {a = f} {b = g} {c = q'} q s qs) h = inr (inl (record {
  key = record { value = v; bytes = f; rest = (g ++ q') ++ y; spelled = q; whole = h ∙ append_assoc f (g ++ q') y };
  value = record { value = w; bytes = g; rest = q' ++ y; spelled = s; whole = append_assoc g q' y };
}))
pairs_compared x y (entry {x = v} {v = w} {a = f} {b = g} {c = q'} q s qs) no_entry h = inr (inr (record {
  key = record { value = v; bytes = f; rest = (g ++ q') ++ x; spelled = q; whole = sym h ∙ append_assoc f (g ++ q') x };
  value = record { value = w; bytes = g; rest = q' ++ x; spelled = s; whole = append_assoc g q' x };
}))
pairs_compared x y (entry {x = v} {v = v'} {ps = vs} {a = a} {b = b} {c = p'} p r ps)
    (entry {x = w} {v = w'} {ps = ws} {a = c} {b = d} {c = q'} q s qs) h =
    let one = same_spelling ((b ++ p') ++ x) ((d ++ q') ++ y) p q (regroup a (b ++ p') x c (d ++ q') y h) in
    let two = same_spelling (p' ++ x) (q' ++ y) r s (regroup b p' x d q' y one.rest) in
    let e1 : v ≡ w = one.value in let e2 : v' ≡ w' = two.value in let b1 : a ≡ c = one.bytes in let b2 : b ≡ d =
    two.bytes in
    elim (pairs_compared x y ps qs two.rest) [
      | inl z ↦ inl (let e3 : vs ≡ ws = z.value in let b3 : p' ≡ q' = z.bytes in record {
        value = cc;
        bytes = cc;
        rest =
            z.rest;
      })
      | inr z ↦ inr z
    ]

run_delta_met : {T : Table} {types : List Field} {next : ℕ} {a b : List ℕ} (x y : List ℕ) (f : ℕ) (e : Field)
    → FieldsRun T types 0 next a → next ≤ f → slice_get types f ≡ Some e → IsUnsigned (f + 1 - next) b → x ≡ a
    ++ (b ++ y)
    → Meets (a_number (delta (length types))) x
run_delta_met {types = types} x y f e no_fields l g n h = met x y (let k = slice_get_within types f e g in omega arith)
    n h
run_delta_met {types = types} {b = b'} x y f' e' (field_then {f = f} {e = e} {a = a} {b = b} {c = c} k g n s q) l g' n'
    h =
    met x ((b ++ c) ++ (b' ++ y)) (let m = slice_get_within types f e g in omega arith) n (h
    ∙ append_assoc a (b ++ c) (b' ++ y))

pub number_then : {T : Table} {types : List Field} {m : ℕ} {e : Field} {b : List ℕ} (y : List ℕ) (f : ℕ)
    → NextField T types m (b ++ y) → m ≤ f → slice_get types f ≡ Some e → IsUnsigned (f + 1 - m) b
    → StandsFirst T e.id y
number_then {T = T} {types = types} {e = e} y f c l g n =
    let u = unsigned_prefix y c.rest n c.spelled c.whole in
    let one : f ≡ c.f = let v = u.value in let k = c.above in omega arith in
    let type : c.type ≡ e = some_injective (sym c.is ∙ ap (λ n. slice_get types n) (sym one) ∙ g) in
    subst (StandsFirst T e.id) (sym u.rest) (subst (λ (t : Field). StandsFirst T t.id c.rest) type c.value)

pub key_here : {T : Table} {k : TypeId} {v : Tree} {a : List ℕ} (x y : List ℕ) → Spells T k v a → x ≡ a ++ y
    → StandsFirst T k x
key_here {v = v} {a = a} x y s h = record { value = v; bytes = a; rest = y; spelled = s; whole = h }

-- a place in the part itself, and a part in it
pub enters_at : {T : Table} {k : Kind} {p q : List ℕ} {w : Expected} {s : TypeId} (x y : List ℕ) → Enters T k q s
    → ExpectsAt T k p w → p ++ x ≡ q ++ y → Meets w x ⊎ StandsFirst T s y
enters_at x y (slice_element {c = c} {b = b} n ps l) first h = inl (met x (b ++ y) tt n (h ∙ append_assoc c b y))
enters_at x y (array_element {c = c} {b = b} n ps l) first h = inl (met x (b ++ y) refl n (h ∙ append_assoc c b y))
enters_at x y (next_key {c = c} {b = b} n ps l) first h = inl (met x (b ++ y) tt n (h ∙ append_assoc c b y))
enters_at x y (next_value {c = c} {b = b} {a = a} n ps l s) first h =
    inl (met x ((b ++ a) ++ y) tt n (h ∙ append_assoc c (b ++ a) y))
enters_at x y (enters_field {types = types} {f = f} {e = e} {a = a} {b = b} q l g n) first h =
    inl (run_delta_met x y f e q l g n (h ∙ append_assoc a b y))
enters_at {T = T} x y (enters_field {types = types} {next = m} {f = f} {e = e} {a = a} {b = b} q l g n)
    (next_delta {next = m'} k r) h =
    elim (runs_compared x (b ++ y) r q (h ∙ append_assoc a b y)) [
      | inl z ↦ inl (met x y (let i = slice_get_within types f e g in let v = z.value in omega arith) (let v =
          z.value in subst (λ j. IsUnsigned (f + 1 - j) b) refl n) z.rest)
      | inr z ↦ elim z [
        | inl c ↦ inl (next_field_met c)
        | inr c ↦ inr (number_then y f c l g n)
      ]
    ]

-- two parts in one part
pub enters_once : {T : Table} {k : Kind} {p q : List ℕ} {s u : TypeId} (x y : List ℕ) → Enters T k p s → Enters T k q u
    → p ++ x ≡ q ++ y → Same s u p q x y ⊎ (StandsFirst T s x ⊎ StandsFirst T u y)
enters_once x y (slice_element {c = c} {b = b} n ps l) (slice_element {c = c'} {b = b'} m qs k) h =
    let r = unsigned_prefix (b ++ x) (b' ++ y) n m (regroup c b x c' b' y h) in
    elim (each_compared x y ps qs r.rest) [
      | inl z ↦ inl (let e1 : c ≡ c' = r.bytes in let e2 : b ≡ b' = z.bytes in record {
        value = refl;
        bytes = cc;
        rest =
            z.rest;
      })
      | inr z ↦ inr z
    ]
enters_once x y (array_element {c = c} {b = b} n ps l) (array_element {c = c'} {b = b'} m qs k) h =
    let r = unsigned_prefix (b ++ x) (b' ++ y) n m (regroup c b x c' b' y h) in
    elim (each_compared x y ps qs r.rest) [
      | inl z ↦ inl (let e1 : c ≡ c' = r.bytes in let e2 : b ≡ b' = z.bytes in record {
        value = refl;
        bytes = cc;
        rest =
            z.rest;
      })
      | inr z ↦ inr z
    ]
enters_once x y (next_key {c = c} {b = b} n ps l) (next_key {c = c'} {b = b'} m qs k) h =
    let r = unsigned_prefix (b ++ x) (b' ++ y) n m (regroup c b x c' b' y h) in
    elim (pairs_compared x y ps qs r.rest) [
      | inl z ↦ inl (let e1 : c ≡ c' = r.bytes in let e2 : b ≡ b' = z.bytes in record {
        value = refl;
        bytes = cc;
        rest =
            z.rest;
      })
      | inr z ↦ inr (elim z [ inl a ↦ inl a.key | inr a ↦ inr a.key ])
    ]
enters_once x y (next_key {c = c} {b = b} n ps l) (next_value {c = c'} {b = b'} {a = a} m qs k s) h =
    let r = unsigned_prefix (b ++ x) ((b' ++ a) ++ y) n m (regroup c b x c' (b' ++ a) y h) in
    elim (pairs_compared x (a ++ y) ps qs (r.rest ∙ append_assoc b' a y)) [
      | inl z ↦ inr (inl (key_here x y s z.rest))
      | inr z ↦ inr (elim z [ inl p ↦ inl p.key | inr p ↦ inr (key_then y p s) ])
    ]
enters_once x y (next_value {c = c} {b = b} {a = a} n ps l s) (next_key {c = c'} {b = b'} m qs k) h =
    let r = unsigned_prefix ((b ++ a) ++ x) (b' ++ y) n m (regroup c (b ++ a) x c' b' y h) in
    elim (pairs_compared (a ++ x) y ps qs (sym (append_assoc b a x) ∙ r.rest)) [
      | inl z ↦ inr (inr (key_here y x s (sym z.rest)))
      | inr z ↦ inr (elim z [ inl p ↦ inl (key_then x p s) | inr p ↦ inr p.key ])
    ]
enters_once x y (next_value {c = c} {b = b} {a = a} n ps l s) (next_value {c = c'} {b = b'} {a = a'} m qs k u) h =
    let r = unsigned_prefix ((b ++ a) ++ x) ((b' ++ a') ++ y) n m (regroup c (b ++ a) x c' (b' ++ a') y h) in
    elim (pairs_compared (a ++ x) (a' ++ y) ps qs (regroup b a x b' a' y r.rest)) [
      | inl z ↦ inl (let v = same_spelling x y s u z.rest in
          let e1 : c ≡ c' = r.bytes in let e2 : b ≡ b' = z.bytes in let e3 : a ≡ a' = v.bytes in
          record { value = refl; bytes = cc; rest = v.rest })
      | inr z ↦ inr (elim z [ inl p ↦ inl (key_then x p s) | inr p ↦ inr (key_then y p u) ])
    ]
enters_once x y (enters_field {types = types} {next = n1} {f = f} {e = e} {a = a} {b = b} q l g n)
    (enters_field {next = n2} {f = f'} {e = e'} {a = a'} {b = b'} r k i m) h =
    elim (runs_compared (b ++ x) (b' ++ y) q r (regroup a b x a' b' y h)) [
      | inl z ↦ inl (
          let v = unsigned_prefix x y n m z.rest in
          let one : f ≡ f' = let t = v.value in let w = z.value in omega arith in
          let type : e ≡ e' = some_injective (sym g ∙ ap (λ n. slice_get types n) one ∙ i) in
          let e1 : a ≡ a' = z.bytes in let e2 : b ≡ b' = v.bytes in record {
            value = ap (λ (e : Field). e.id) type;
            bytes = cc;
            rest = v.rest;
          })
      | inr z ↦ inr (elim z [ inl c ↦ inl (number_then x f c l g n) | inr c ↦ inr (number_then y f' c k i m) ])
    ]
