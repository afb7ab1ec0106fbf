-- How much is held of some bytes of a body: there is one answer, and it is at most as many as the bytes.
use Rattle.std.proofs.Common.{◌≡◌, ℕ, ◌+◌, ◌-◌, ◌<◌, ◌≤◌, inl, inr, List, [], ◌∷◌, ◌++◌, length, arith, refl, sym, ap}
use Rattle.std.proofs.Common.{◌∙◌, subst, append_assoc, length-append}
use Rattle.std.specs.Prelude.{slice_get}
use Rattle.gob_num.specs.Unsigned.{IsUnsigned, short, IsUnsignedPrefix}
use Rattle.gob_num.specs.Spelled.{Same}
use Rattle.gob_num.proofs.PublicLaws.{begins_prefix, unsigned_prefix, unsigned_length, pattern_unsigned, regroup}
use Rattle.gob_types.specs.declared.id.TypeId.{TypeId}
use Rattle.gob_types.specs.declared.kind.Field.{Field}
use Rattle.gob_types.specs.declared.kind.Kind.{Kind}
use Rattle.gob_types.specs.declared.kind.Kind.TheVariants as kind
use Rattle.gob_types.specs.declared.kind.Shape.{Shape}
use Rattle.gob_types.specs.Table.{Table}
use Rattle.gob_types.proofs.PublicLaws.{some_injective}
use Rattle.gob_value.specs.Tree.{Tree, Trees, Pairs, Fields, no_field}
use Rattle.gob_value.specs.Tree as Value
use Rattle.gob_value.specs.Spelling.{Spells}
use Rattle.gob_value.proofs.PublicLaws.{same_spelling}
use Rattle.gob_read.specs.declared.builder.Stores.{Stores}
use Rattle.gob_read.specs.declared.builder.Stores.TheVariants.{PartsAndRaw, Parts, Nothing}
use Rattle.gob_read.specs.Expected.{Expected, a_number, raw, any, delta, EndsWithin, within_number, within_raw}
use Rattle.gob_read.specs.Expected.{first_allowed}
use Rattle.gob_read.specs.Expects.{FieldsRun, no_fields, field_then, Enters, slice_element, array_element, next_key}
use Rattle.gob_read.specs.Expects.{next_value, next_field, ExpectsAt, first, second, byte_content, text_content}
use Rattle.gob_read.specs.Expects.{opaque_content, next_delta, Expects, ExpectsTop}
use Rattle.gob_read.specs.Expects as expects
use Rattle.gob_read.specs.Weight.{part_count, raw_count, parts_of_all, raw_of_all, parts_of_pairs, raw_of_pairs}
use Rattle.gob_read.specs.Weight.{parts_of_fields, raw_of_fields}
use Rattle.gob_read.specs.Held.{WholeFields, no_whole_field, whole_field, PartsBefore, before_element}
use Rattle.gob_read.specs.Held.{before_array_element, before_key, before_value, before_field, EndsInItself, not_begun}
use Rattle.gob_read.specs.Held.{in_first_number, in_imaginary_part, in_bytes, in_text, in_opaque, in_delta, PartialPart}
use Rattle.gob_read.specs.Held.{in_itself, in_part, PartialBody, in_struct, in_tag, behind_tag, held_of, IsHeld}
use Rattle.gob_read.proofs.Grammar.Compare.{one_way, tail_same}
use Rattle.gob_read.proofs.Grammar.Firsts.{ends_not_met, prefix_not_number}
use Rattle.gob_read.proofs.Grammar.Once.{each_compared, runs_compared, pairs_compared, at_once, enters_at, key_here}
use Rattle.gob_read.proofs.Grammar.Once.{number_then}
use Rattle.gob_read.proofs.Events.WeightLaws.{weight_within, each_within, pairs_within}
use Rattle.gob_read.proofs.Grammar.Whole.{StandsFirst, key_then, whole_meets}

pub nothing_yet : IsUnsignedPrefix []
nothing_yet = begins_prefix {bytes = []} tt

zero_spelled : IsUnsigned 0 (0 ∷ [])
zero_spelled = short (omega arith)

some : {n : ℕ} {b : List ℕ} → IsUnsigned n b → 0 < length b
some u = (unsigned_length u).0

-- without the values and the counts

pub fields_run : {T : Table} {types : List Field} {start next : ℕ} {fs : Fields} {b : List ℕ}
    → WholeFields T types start next fs b → FieldsRun T types start next b
fields_run no_whole_field = no_fields
fields_run (whole_field l g n s q) = field_then l g n s (fields_run q)

before_enters : {T : Table} {k : Kind} {q : List ℕ} {u : TypeId} {m w : ℕ} → PartsBefore T k q u m w → Enters T k q u
before_enters (before_element n s l) = slice_element n s l
before_enters (before_array_element n s l) = array_element n s l
before_enters (before_key n s l) = next_key n s l
before_enters (before_value n s l v) = next_value n s l v
before_enters (before_field q l g n) = next_field (fields_run q) l g n

-- of the same bytes there is one list of whole fields
fields_once : {T : Table} {types : List Field} {start n m : ℕ} {fs gs : Fields} {a b : List ℕ}
    → WholeFields T types start n fs a → WholeFields T types start m gs b → a ≡ b → fs ≡ gs
fields_once no_whole_field no_whole_field h = refl
fields_once no_whole_field (whole_field {a = a} {b = b} {c = c} l g n s q) h = absurd (let z = ap length h in let k =
    some n in omega (arith, length-append a (b ++ c)))
fields_once (whole_field {a = a} {b = b} {c = c} l g n s q) no_whole_field h = absurd (let z = ap length h in let k =
    some n in omega (arith, length-append a (b ++ c)))
fields_once {T = T} {types = types} {m = m} (whole_field {f = f} {e = e} {v = v} {fs = fs} {a = a} {b = b} {c = c} l g n
    s q) (whole_field {f = f'} {e = e'} {v = w} {fs = gs} {a = a'} {b = b'} {c = c'} l' g' n' s' q') h =
    let r = unsigned_prefix (b ++ c) (b' ++ c') n n' h in
    let one : f' ≡ f = let v = r.value in omega arith in
    let type : e' ≡ e = some_injective (sym g' ∙ ap (λ n. slice_get types n) one ∙ g) in
    let u = same_spelling c c' s (subst (λ (e : Field). Spells T e.id w b') type s') r.rest in
    let value : v ≡ w = u.value in
    let others : fs ≡ gs = fields_once q (subst (λ n. WholeFields T types (n + 1) m gs c') one q') u.rest in
    ap (λ n. Value.field n v fs) (sym one) ∙ ap (λ v. Value.field f' v fs) value ∙ ap (Value.field f' w) others

-- the whole fields before a place in a struct
record FieldsWeigh (T : Table) (types : List Field) (p : List ℕ) (m w : ℕ) : Type 0 where
  pub next : ℕ
  pub fields : Fields
  pub whole : WholeFields T types 0 next fields p
  pub parts : m ≡ parts_of_fields fields
  pub raws : w ≡ raw_of_fields fields

-- what the whole parts before a place in a part itself weigh
abbrev BeforeWeighs : Table → Kind → List ℕ → ℕ → ℕ → Type 0
BeforeWeighs T (kind.Struct types) p m w = FieldsWeigh T types p m w
BeforeWeighs T _ p m w = (m ≡ 0) × (w ≡ 0)

none_before : (T : Table) (k : Kind) → BeforeWeighs T k [] 0 0
none_before T (kind.Struct types) = record {
  next = 0;
  fields = no_field;
  whole = no_whole_field;
  parts = refl;
  raws =
      refl;
}
none_before T (kind.Basic b) = (refl, refl)
none_before T (kind.Array e n) = (refl, refl)
none_before T (kind.Slice e) = (refl, refl)
none_before T (kind.Map k e) = (refl, refl)
none_before T (kind.Opaque m) = (refl, refl)

weighs_once : (T : Table) (p : List ℕ) {m n w v : ℕ} (k : Kind) → BeforeWeighs T k p m w → BeforeWeighs T k p n v
    → (m ≡ n) × (w ≡ v)
weighs_once T p (kind.Struct types) a b =
    let one = fields_once a.whole b.whole refl in
    (a.parts ∙ ap parts_of_fields one ∙ sym b.parts, a.raws ∙ ap raw_of_fields one ∙ sym b.raws)
weighs_once T p (kind.Basic b) a c = (a.0 ∙ sym c.0, a.1 ∙ sym c.1)
weighs_once T p (kind.Array e n) a c = (a.0 ∙ sym c.0, a.1 ∙ sym c.1)
weighs_once T p (kind.Slice e) a c = (a.0 ∙ sym c.0, a.1 ∙ sym c.1)
weighs_once T p (kind.Map k e) a c = (a.0 ∙ sym c.0, a.1 ∙ sym c.1)
weighs_once T p (kind.Opaque m) a c = (a.0 ∙ sym c.0, a.1 ∙ sym c.1)

-- a part is held from its first byte on
abbrev begun : List ℕ → ℕ
begun [] = 0
begun (b ∷ bs) = 1

-- raw bytes are held where raw bytes are expected
abbrev raws_in : Expected → List ℕ → ℕ
raws_in (a_number a) r = 0
raws_in (raw n) r = length r

-- the place in the part itself
record Place (T : Table) (k : Kind) (z : List ℕ) (m w : ℕ) : Type 0 where
  pub prefix : List ℕ
  pub rest : List ℕ
  pub expected : Expected
  pub at : ExpectsAt T k prefix expected
  pub ends : EndsWithin expected rest
  pub whole : z ≡ prefix ++ rest
  pub parts_before : ℕ
  pub raws_before : ℕ
  pub before : BeforeWeighs T k prefix parts_before raws_before
  pub parts : m ≡ parts_before + begun z
  pub raws : w ≡ raws_before + raws_in expected rest

begun_behind : {n : ℕ} {c : List ℕ} (r : List ℕ) → IsUnsigned n c → 1 ≡ 0 + begun (c ++ r)
begun_behind {c = []} r u = absurd (let k = some u in omega arith)
begun_behind {c = b ∷ c} r u = refl

begun_fields : {T : Table} {types : List Field} {next : ℕ} {fs : Fields} {b : List ℕ} (r : List ℕ) → 0 < next
    → WholeFields T types 0 next fs b → 1 ≡ begun (b ++ r)
begun_fields r l no_whole_field = absurd (omega arith)
begun_fields r l (whole_field {a = []} k g n s q) = absurd (let k = some n in omega arith)
begun_fields r l (whole_field {a = b ∷ a} k g n s q) = refl

place_of : {T : Table} {k : Kind} {z : List ℕ} {m w : ℕ} → EndsInItself T k z m w → Place T k z m w
place_of {T = T} (not_begun {k = k}) = record {
  prefix = [];
  rest = [];
  expected = a_number (first_allowed k);
  at = first;
  ends = within_number nothing_yet;
  whole = refl;
  parts_before = 0;
  raws_before = 0;
  before = none_before T k;
  parts = refl;
  raws = refl;
}
place_of {T = T} (in_first_number {k = k} {b = b} {r = r} f) = record {
  prefix = [];
  rest = b ∷ r;
  expected = a_number (first_allowed k);
  at = first;
  ends = within_number f;
  whole = refl;
  parts_before = 0;
  raws_before = 0;
  before = none_before T k;
  parts = refl;
  raws = refl;
}
place_of (in_imaginary_part {c = c} {r = r} p f) = record {
  prefix = c;
  rest = r;
  expected = a_number any;
  at = second p;
  ends = within_number f;
  whole = refl;
  parts_before = 0;
  raws_before = 0;
  before = (refl, refl);
  parts = begun_behind r (pattern_unsigned p).1;
  raws = refl;
}
place_of (in_bytes {n = n} {c = c} r u l) = record {
  prefix = c;
  rest = r;
  expected = raw n;
  at = byte_content (omega arith) u;
  ends = within_raw l;
  whole = refl;
  parts_before = 0;
  raws_before = 0;
  before = (refl, refl);
  parts = begun_behind r u;
  raws = omega arith;
}
place_of (in_text {n = n} {c = c} r u l) = record {
  prefix = c;
  rest = r;
  expected = raw n;
  at = text_content (omega arith) u;
  ends = within_raw l;
  whole = refl;
  parts_before = 0;
  raws_before = 0;
  before = (refl, refl);
  parts = begun_behind r u;
  raws = omega arith;
}
place_of (in_opaque {n = n} {c = c} r u l) = record {
  prefix = c;
  rest = r;
  expected = raw n;
  at = opaque_content (omega arith) u;
  ends = within_raw l;
  whole = refl;
  parts_before = 0;
  raws_before = 0;
  before = (refl, refl);
  parts = begun_behind r u;
  raws = omega arith;
}
place_of (in_delta {types = types} {next = next} {fs = fs} {b = b} {r = r} l q f) = record {
  prefix = b;
  rest = r;
  expected = a_number (delta (length types - next));
  at = next_delta l (fields_run q);
  ends = within_number f;
  whole = refl;
  parts_before = parts_of_fields fs;
  raws_before = raw_of_fields fs;
  before = record { next = next; fields = fs; whole = q; parts = refl; raws = refl };
  parts = ap (λ n. parts_of_fields fs + n) (begun_fields r l q);
  raws = omega arith;
}

same_place : {T : Table} {k : Kind} {z y : List ℕ} {m n w v : ℕ} (p : Place T k z m w) (q : Place T k y n v) → z ≡ y
    → Same p.expected q.expected p.prefix q.prefix p.rest q.rest → (m ≡ n) × (w ≡ v)
same_place {T = T} {k = k} {z = z} {y = y} p q h s =
    let before = weighs_once T q.prefix k (subst (λ f. BeforeWeighs T k f p.parts_before p.raws_before) s.bytes
    p.before)
    q.before in
    let begun_is : begun z ≡ begun y = ap begun h in
    let raws_is : raws_in p.expected p.rest ≡ raws_in q.expected q.rest = ap (λ a. raws_in a p.rest) s.value
    ∙ ap (raws_in q.expected) s.rest in
    (omega (arith, p.parts, q.parts, before.0), omega (arith, p.raws, q.raws, before.1))

itself_once : {T : Table} {k : Kind} {z y : List ℕ} {m n w v : ℕ} → EndsInItself T k z m w → EndsInItself T k y n v
    → z ≡ y → (m ≡ n) × (w ≡ v)
itself_once d e h =
    let p = place_of d in let q = place_of e in
    elim (at_once p.rest q.rest p.at q.at (sym p.whole ∙ h ∙ q.whole)) [
      | inl s ↦ same_place p q h s
      | inr z ↦ absurd (elim z [ inl a ↦ ends_not_met p.ends a | inr a ↦ ends_not_met q.ends a ])
    ]

-- where the bytes of a partial part end, something is expected of which they have a prefix
record IsWithin (T : Table) (t : TypeId) (z : List ℕ) : Type 0 where
  pub prefix : List ℕ
  pub rest : List ℕ
  pub expected : Expected
  pub depth : ℕ
  pub expects : Expects T t prefix expected depth
  pub ends : EndsWithin expected rest
  pub whole : z ≡ prefix ++ rest

within_of : {T : Table} {t : TypeId} {z : List ℕ} {m w : ℕ} → PartialPart T t z m w → IsWithin T t z
within_of (in_itself e d) =
    let p = place_of d in
    record {
      prefix = p.prefix;
      rest = p.rest;
      expected = p.expected;
      depth = 1;
      expects = expects.in_itself e p.at;
      ends = p.ends;
      whole = p.whole;
    }
within_of (in_part {q = q} e b d) =
    let p = within_of d in
    record {
      prefix = q ++ p.prefix;
      rest = p.rest;
      expected = p.expected;
      depth = _;
      expects =
          expects.in_part e (before_enters b) p.expects;
      ends = p.ends;
      whole = ap (λ z. q ++ z) p.whole
          ∙ sym (append_assoc q p.prefix p.rest);
    }

-- so no whole value stands first in them
not_first : {T : Table} {t : TypeId} {z : List ℕ} {m w : ℕ} → PartialPart T t z m w → StandsFirst T t z → ⊥
not_first d s = let p = within_of d in ends_not_met p.ends (whole_meets p.rest s.rest s.spelled p.expects (sym p.whole
    ∙ s.whole))

-- two partial parts in one part
record SamePart (u s : TypeId) (x y : List ℕ) (m n w v : ℕ) : Type 0 where
  pub type : u ≡ s
  pub rest : x ≡ y
  pub parts : m ≡ n
  pub raws : w ≡ v

same_part : {T : Table} {k : Kind} {p q : List ℕ} {u s : TypeId} {m n w v : ℕ} (x y : List ℕ) → PartsBefore T k p u m w
    → PartsBefore T k q s n v → p ++ x ≡ q ++ y → (StandsFirst T u x → ⊥) → (StandsFirst T s y → ⊥)
    → SamePart u s x y m n w v
same_part x y (before_element {c = c} {b = b} n ps l) (before_element {c = c'} {b = b'} m qs k) h not_x not_y =
    let r = unsigned_prefix (b ++ x) (b' ++ y) n m (regroup c b x c' b' y h) in
    elim (each_compared x y ps qs r.rest) [
      | inl z ↦ record {
        type = refl;
        rest = z.rest;
        parts = ap (λ vs. parts_of_all vs + 1) z.value;
        raws =
            ap raw_of_all z.value;
      }
      | inr z ↦ absurd (elim z [ inl a ↦ not_x a | inr a ↦ not_y a ])
    ]
same_part x y (before_array_element {c = c} {b = b} n ps l) (before_array_element {c = c'} {b = b'} m qs k) h not_x
    not_y =
    let r = unsigned_prefix (b ++ x) (b' ++ y) n m (regroup c b x c' b' y h) in
    elim (each_compared x y ps qs r.rest) [
      | inl z ↦ record {
        type = refl;
        rest = z.rest;
        parts = ap (λ vs. parts_of_all vs + 1) z.value;
        raws =
            ap raw_of_all z.value;
      }
      | inr z ↦ absurd (elim z [ inl a ↦ not_x a | inr a ↦ not_y a ])
    ]
same_part x y (before_key {c = c} {b = b} n ps l) (before_key {c = c'} {b = b'} m qs k) h not_x not_y =
    let r = unsigned_prefix (b ++ x) (b' ++ y) n m (regroup c b x c' b' y h) in
    elim (pairs_compared x y ps qs r.rest) [
      | inl z ↦ record {
        type = refl;
        rest = z.rest;
        parts = ap (λ ps. parts_of_pairs ps + 1) z.value;
        raws =
            ap raw_of_pairs z.value;
      }
      | inr z ↦ absurd (elim z [ inl a ↦ not_x a.key | inr a ↦ not_y a.key ])
    ]
same_part x y (before_key {c = c} {b = b} n ps l) (before_value {c = c'} {b = b'} {a = a} m qs k s) h not_x not_y =
    let r = unsigned_prefix (b ++ x) ((b' ++ a) ++ y) n m (regroup c b x c' (b' ++ a) y h) in
    absurd (elim (pairs_compared x (a ++ y) ps qs (r.rest ∙ append_assoc b' a y)) [
      | inl z ↦ not_x (key_here x y s z.rest)
      | inr z ↦ elim z [ inl p ↦ not_x p.key | inr p ↦ not_y (key_then y p s) ]
    ])
same_part x y (before_value {c = c} {b = b} {a = a} n ps l s) (before_key {c = c'} {b = b'} m qs k) h not_x not_y =
    let r = unsigned_prefix ((b ++ a) ++ x) (b' ++ y) n m (regroup c (b ++ a) x c' b' y h) in
    absurd (elim (pairs_compared (a ++ x) y ps qs (sym (append_assoc b a x) ∙ r.rest)) [
      | inl z ↦ not_y (key_here y x s (sym z.rest))
      | inr z ↦ elim z [ inl p ↦ not_x (key_then x p s) | inr p ↦ not_y p.key ]
    ])
same_part x y (before_value {x = g} {c = c} {b = b} {a = a} n ps l s) (before_value {x = j} {c = c'} {b = b'} {a = a'} m
    qs k u) h not_x not_y =
    let r = unsigned_prefix ((b ++ a) ++ x) ((b' ++ a') ++ y) n m (regroup c (b ++ a) x c' (b' ++ a') y h) in
    elim (pairs_compared (a ++ x) (a' ++ y) ps qs (regroup b a x b' a' y r.rest)) [
      | inl z ↦
          let v = same_spelling x y s u z.rest in
          let key_parts : part_count g ≡ part_count j = ap part_count v.value in
          let key_raws : raw_count g ≡ raw_count j = ap raw_count v.value in
          let pair_parts = ap parts_of_pairs z.value in
          let pair_raws = ap raw_of_pairs z.value in
          record {
            type = refl;
            rest = v.rest;
            parts = omega (arith, key_parts, pair_parts);
            raws =
                omega (arith, key_raws, pair_raws);
          }
      | inr z ↦ absurd (elim z [ inl p ↦ not_x (key_then x p s) | inr p ↦ not_y (key_then y p u) ])
    ]
same_part x y (before_field {types = types} {next = n1} {f = f} {e = e} {a = a} {b = b} q l g n)
    (before_field {next = n2} {f = f'} {e = e'} {a = a'} {b = b'} r k i m) h not_x not_y =
    elim (runs_compared (b ++ x) (b' ++ y) (fields_run q) (fields_run r) (regroup a b x a' b' y h)) [
      | inl z ↦
          let v = unsigned_prefix x y n m z.rest in
          let one : f ≡ f' = let t = v.value in let w = z.value in omega arith in
          let type : e ≡ e' = some_injective (sym g ∙ ap (λ n. slice_get types n) one ∙ i) in
          let fields = fields_once q r z.bytes in
          record {
            type = ap (λ (e : Field). e.id) type;
            rest = v.rest;
            parts = ap (λ fs. parts_of_fields fs + 1)
                fields;
            raws = ap raw_of_fields fields;
          }
      | inr z ↦ absurd (elim z [ inl c ↦ not_x (number_then x f c l g n) | inr c ↦ not_y (number_then y f' c k i m) ])
    ]

pub part_once : {T : Table} {t : TypeId} {z y : List ℕ} {m n w v : ℕ} → PartialPart T t z m w → PartialPart T t y n v
    → z ≡ y → (m ≡ n) × (w ≡ v)
part_once {T = T} {y = y} {n = n} {v = v} (in_itself {s = k} e d) (in_itself {s = l} f g) h =
    let one : l ≡ k = some_injective (sym f ∙ e) in
    itself_once d (subst (λ (k : Shape). EndsInItself T k.kind y n v) one g) h
part_once {T = T} (in_itself {s = k} e d) (in_part {u = u} {s = l} {q = q} {z = y} f b r) h =
    let one : l ≡ k = some_injective (sym f ∙ e) in
    let p = place_of d in
    absurd (elim (enters_at p.rest y (subst (λ (k : Shape). Enters T k.kind q u) one (before_enters b)) p.at
    (sym p.whole ∙ h)) [
      | inl a ↦ ends_not_met p.ends a
      | inr a ↦ not_first r a
    ])
part_once {T = T} (in_part {u = u} {s = l} {q = q} {z = z} f b r) (in_itself {s = k} e d) h =
    let one : l ≡ k = some_injective (sym f ∙ e) in
    let p = place_of d in
    absurd (elim (enters_at p.rest z (subst (λ (k : Shape). Enters T k.kind q u) one (before_enters b)) p.at
    (sym p.whole ∙ sym h)) [
      | inl a ↦ ends_not_met p.ends a
      | inr a ↦ not_first r a
    ])
part_once {T = T} (in_part {s = k} {q = q} {z = z} {m = m} {n = m'} {w = w} {v = w'} e b d)
    (in_part {u = s} {s = l} {q = q'} {z = y} {m = n} {n = n'} {w = v} {v = v'} f c g) h =
    let one : l ≡ k = some_injective (sym f ∙ e) in
    let p = same_part z y b (subst (λ (k : Shape). PartsBefore T k.kind q' s n v) one c) h (not_first d) (not_first g)
    in
    let r = part_once d (subst (λ s. PartialPart T s y n' v') (sym p.type) g) p.rest in
    (omega (arith, p.parts, r.0), omega (arith, p.raws, r.1))

pub body_once : {T : Table} {t : TypeId} {z y : List ℕ} {m n w v : ℕ} → PartialBody T t z m w → PartialBody T t y n v
    → z ≡ y → (m ≡ n) × (w ≡ v)
body_once (in_struct e i d) (in_struct f j g) h = part_once d g h
body_once (in_struct e i d) (in_tag f n r) h = one_way e i f n
body_once (in_struct e i d) (behind_tag f n g) h = one_way e i f n
body_once (in_tag e n r) (in_struct f j g) h = one_way f j e n
body_once (in_tag e n r) (in_tag f m s) h = (refl, refl)
body_once (in_tag e n r) (behind_tag {z = y} f m g) h = absurd (prefix_not_number y r zero_spelled h)
body_once (behind_tag e n d) (in_struct f j g) h = one_way f j e n
body_once (behind_tag {z = z} e n d) (in_tag f m s) h = absurd (prefix_not_number z s zero_spelled (sym h))
body_once (behind_tag e n d) (behind_tag f m g) h = part_once d g (tail_same h)

pub held_once : {T : Table} {t : TypeId} (stores : Stores) {z : List ℕ} {held other : ℕ} → IsHeld T t stores z held
    → IsHeld T t stores z other → held ≡ other
held_once stores h o =
    let same = body_once h.partial o.partial refl in
    h.held_is ∙ ap (λ m. held_of stores m h.raws) same.0 ∙ ap (held_of stores o.parts) same.1 ∙ sym o.held_is

-- at most as many parts and raw bytes came as bytes

whole_fields_few : {T : Table} {types : List Field} {start next : ℕ} {fs : Fields} {b : List ℕ}
    → WholeFields T types start next fs b → parts_of_fields fs + raw_of_fields fs ≤ length b
whole_fields_few no_whole_field = omega arith
whole_fields_few (whole_field {a = a} {b = b} {c = c} l g n s q) = omega (
  arith,
  length-append a (b ++ c),
  length-append b c,
  weight_within s,
  whole_fields_few q,
)

-- a field's delta weighs nothing
some_fields_few : {T : Table} {types : List Field} {start next : ℕ} {fs : Fields} {b : List ℕ}
    → WholeFields T types start next fs b → start < next → parts_of_fields fs + raw_of_fields fs + 1 ≤ length b
some_fields_few no_whole_field m = absurd (omega arith)
some_fields_few (whole_field {a = a} {b = b} {c = c} l g n s q) m = omega (
  arith,
  length-append a (b ++ c),
  length-append b c,
  weight_within s,
  whole_fields_few q,
  some n,
)

before_few : {T : Table} {k : Kind} {q : List ℕ} {u : TypeId} {m w : ℕ} → PartsBefore T k q u m w → m + w ≤ length q
before_few (before_element {c = c} {b = b} n s l) = omega (arith, some n, each_within s, length-append c b)
before_few (before_array_element {c = c} {b = b} n s l) = omega (arith, some n, each_within s, length-append c b)
before_few (before_key {c = c} {b = b} n s l) = omega (arith, some n, pairs_within s, length-append c b)
before_few (before_value {c = c} {b = b} {a = a} n s l v) = omega (
  arith,
  some n,
  pairs_within s,
  weight_within v,
  length-append c (b ++ a),
  length-append b a,
)
before_few (before_field {a = a} {b = b} q l g n) = omega (arith, some n, whole_fields_few q, length-append a b)

itself_few : {T : Table} {k : Kind} {z : List ℕ} {m w : ℕ} → EndsInItself T k z m w → m + w ≤ length z
itself_few not_begun = omega arith
itself_few (in_first_number f) = omega arith
itself_few (in_imaginary_part {c = c} {r = r} p f) = omega (arith, some (pattern_unsigned p).1, length-append c r)
itself_few (in_bytes {c = c} r u l) = omega (arith, some u, length-append c r)
itself_few (in_text {c = c} r u l) = omega (arith, some u, length-append c r)
itself_few (in_opaque {c = c} r u l) = omega (arith, some u, length-append c r)
itself_few (in_delta {b = b} {r = r} l q f) = omega (arith, some_fields_few q l, length-append b r)

part_few : {T : Table} {t : TypeId} {z : List ℕ} {m w : ℕ} → PartialPart T t z m w → m + w ≤ length z
part_few (in_itself e d) = itself_few d
part_few (in_part {q = q} {z = z} e b d) = omega (arith, before_few b, part_few d, length-append q z)

pub body_few : {T : Table} {t : TypeId} {z : List ℕ} {m w : ℕ} → PartialBody T t z m w → m + w ≤ length z
body_few (in_struct e i d) = part_few d
body_few (in_tag e n r) = omega arith
body_few (behind_tag e n d) = omega (arith, part_few d)

pub held_most : (stores : Stores) (m w : ℕ) → held_of stores m w ≤ m + w
held_most PartsAndRaw m w = omega arith
held_most Parts m w = omega arith
held_most Nothing m w = omega arith

pub held_few : {T : Table} {t : TypeId} (stores : Stores) {z : List ℕ} {held : ℕ} → IsHeld T t stores z held
    → held ≤ length z
held_few stores h = omega (arith, h.held_is, held_most stores h.parts h.raws, body_few h.partial)

-- where something is expected, so many came

run_fields : {T : Table} {types : List Field} {start next : ℕ} {b : List ℕ} → FieldsRun T types start next b
    → (fs : Fields) × WholeFields T types start next fs b
run_fields no_fields = (no_field, no_whole_field)
run_fields (field_then {f = f} {v = v} l g n s q) = let r = run_fields q in
    (Value.field f v r.0, whole_field l g n s r.1)

pub record Came (Holds : ℕ → ℕ → Type 0) : Type 0 where
  pub parts : ℕ
  pub raws : ℕ
  pub holds : Holds parts raws

number_came : {T : Table} (k : Kind) (r : List ℕ) → IsUnsignedPrefix r → Came (EndsInItself T k r)
number_came k [] f = record { parts = 0; raws = 0; holds = not_begun }
number_came k (b ∷ r) f = record { parts = 1; raws = 0; holds = in_first_number f }

itself_came : {T : Table} {k : Kind} {p r : List ℕ} {a : Expected} → ExpectsAt T k p a → EndsWithin a r
    → Came (EndsInItself T k (p ++ r))
itself_came {k = k} {r = r} first (within_number f) = number_came k r f
itself_came (second p) (within_number f) = record { parts = 1; raws = 0; holds = in_imaginary_part p f }
itself_came {r = r} (byte_content l n) (within_raw m) = record { parts = 1; raws = length r; holds = in_bytes r n m }
itself_came {r = r} (text_content l n) (within_raw m) = record { parts = 1; raws = length r; holds = in_text r n m }
itself_came {r = r} (opaque_content l n) (within_raw m) = record { parts = 1; raws = length r; holds = in_opaque r n m }
itself_came (next_delta l q) (within_number f) = let w = run_fields q in record {
  parts = _;
  raws = _;
  holds =
      in_delta l w.1 f;
}

before_came : {T : Table} {k : Kind} {q : List ℕ} {u : TypeId} → Enters T k q u → Came (PartsBefore T k q u)
before_came (slice_element n s l) = record { parts = _; raws = _; holds = before_element n s l }
before_came (array_element n s l) = record { parts = _; raws = _; holds = before_array_element n s l }
before_came (next_key n s l) = record { parts = _; raws = _; holds = before_key n s l }
before_came (next_value n s l v) = record { parts = _; raws = _; holds = before_value n s l v }
before_came (next_field q l g n) = let w = run_fields q in record {
  parts = _;
  raws = _;
  holds =
      before_field w.1 l g n;
}

part_came : {T : Table} {t : TypeId} {p r : List ℕ} {a : Expected} {d : ℕ} → Expects T t p a d → EndsWithin a r
    → Came (PartialPart T t (p ++ r))
part_came (expects.in_itself e a) w = let c = itself_came a w in record {
  parts = c.parts;
  raws = c.raws;
  holds =
      in_itself e c.holds;
}
part_came {T = T} {t = t} {r = r} (expects.in_part {p = p} {q = q} e n a) w =
    let b = before_came n in
    let c = part_came a w in
    record {
      parts = b.parts + c.parts;
      raws = b.raws + c.raws;
      holds =
          subst (λ z. PartialPart T t z (b.parts + c.parts) (b.raws + c.raws)) (sym (append_assoc q p r))
          (in_part e b.holds c.holds);
    }

pub body_came : {T : Table} {t : TypeId} {p r : List ℕ} {a : Expected} {d : ℕ} → ExpectsTop T t p a d → EndsWithin a r
    → Came (PartialBody T t (p ++ r))
body_came (expects.in_struct e i a) w = let c = part_came a w in record {
  parts = c.parts;
  raws = c.raws;
  holds =
      in_struct e i c.holds;
}
body_came (expects.at_tag e n) (within_number f) = record { parts = 0; raws = 0; holds = in_tag e n f }
body_came (expects.behind_tag e n a) w = let c = part_came a w in record {
  parts = c.parts;
  raws = c.raws;
  holds =
      behind_tag e n c.holds;
}
