-- Values that are known to stand in a body, and their parts.
use Rattle.std.proofs.Common.{◌≡◌, ℕ, ℤ, ◌+◌, ◌-◌, ◌<◌, ◌≤◌, Bool, List, ◌++◌, length, take, drop, Some, arith, refl}
use Rattle.std.proofs.Common.{sym, ap, ◌∙◌, subst}
use Rattle.std.proofs.Common.{true, false, None, append_assoc, length-append, length-drop}
use Rattle.std.proofs.lemmas.List.{drop-drop}
use Rattle.std.proofs.Math.Seq.{take-append_seam, drop-append_seam}
use Rattle.std.specs.Prelude.{slice_get}
use Rattle.gob_num.specs.Unsigned.{IsUnsigned}
use Rattle.gob_num.specs.Signed.{IsSigned}
use Rattle.gob_num.specs.Pattern.{IsPattern}
use Rattle.gob_num.specs.Place.{IsOnlyNumberAt, NoNumberStandsAt}
use Rattle.gob_num.proofs.PublicLaws.{number_stands, pattern_unsigned, signed_unsigned, unsigned_prefix}
use Rattle.gob_types.specs.declared.id.TypeId.{TypeId}
use Rattle.gob_types.specs.declared.basic.Basic.{Basic}
use Rattle.gob_types.specs.declared.basic.Basic.TheVariants as basic
use Rattle.gob_types.specs.declared.kind.Field.{Field}
use Rattle.gob_types.specs.declared.kind.Marshal.{Marshal}
use Rattle.gob_types.specs.declared.kind.Kind.TheVariants as kind
use Rattle.gob_types.specs.declared.kind.Shape.{Shape}
use Rattle.gob_types.specs.Table.{Table, shape_of}
use Rattle.gob_types.proofs.PublicLaws.{some_injective}
use Rattle.gob_value.specs.Tree.{Tree, Trees, Pairs, Fields, tree, pair, no_field, field, depth, tree_count, pair_count}
use Rattle.gob_value.specs.Spelling.{truth, Spells, SpellsAs, SpellsEach, SpellsPairs, SpellsFields, of_type, of_bool}
use Rattle.gob_value.specs.Spelling.{of_int, of_uint}
use Rattle.gob_value.specs.Spelling.{of_float, of_complex, of_nil, of_bytes, of_text, of_opaque, of_slice, of_array}
use Rattle.gob_value.specs.Spelling.{of_map, of_struct}
use Rattle.gob_value.specs.Spelling.{no_element, element, no_entry, entry, end_of_fields, next_field}
use Rattle.gob_value.specs.Top.{SpellsTop, at_once, tagged}
use Rattle.gob_value.specs.Machine.Begins.{BeginsThisNumber, HoldsBetween}
use Rattle.gob_walk.specs.Standing.{BeginsThese}
use Rattle.gob_walk.specs.Standing.{HoldsKind, HoldsValue, BeginsElements, BeginsEntries, BeginsEntry}
use Rattle.gob_walk.specs.Standing.{BeginsPresent, IsNextField, NumberFrom}

-- ---- numbers and bytes
pub number_known : {body : List ℕ} {number at end : ℕ} → at ≤ length body → IsOnlyNumberAt body at number end
    → NumberFrom body at number end
number_known {body = body} {at = at} l only n rest p =
    let b = p.bytes in
    let same = only n (at + length b) (number_stands rest l p.spelled p.whole) in (
      same.0,
      ap (λ k. drop k body) same.1 ∙ sym (drop-drop (length b) at body) ∙ ap (drop (length b)) p.whole
          ∙ drop-append_seam b rest,
    )

-- a number that was found is the only one
pub number_found : {body : List ℕ} {n at end : ℕ} → HoldsBetween (BeginsThisNumber n) body at end
    → NumberFrom body at n end
number_found p m rest q =
    let b = p.begins in
    let same = unsigned_prefix _ rest b.spelled q.spelled (sym b.whole ∙ q.whole) in
    (same.value, same.rest)

pub no_number_begins : {body : List ℕ} {at : ℕ} → at ≤ length body → NoNumberStandsAt body at → (n : ℕ) (rest : List ℕ)
    → ¬ BeginsThisNumber n (drop at body) rest
no_number_begins {at = at} l none n rest p = none n (at + length p.bytes) (number_stands rest l p.spelled p.whole)

-- bytes that stand behind their count are these
abbrev pub BytesFrom : (body : List ℕ) → (at : ℕ) → (bytes : List ℕ) → (end : ℕ) → Type 0
BytesFrom body at bytes end = (raw rest : List ℕ) → BeginsThese raw (drop at body) rest
    → (bytes ≡ raw) × (drop end body ≡ rest)

raw_behind : {raw rest : List ℕ} {count : ℕ} (body : List ℕ) (at begin : ℕ) → NumberFrom body at count begin
    → BeginsThese raw (drop at body) rest → (count ≡ length raw) × (drop begin body ≡ raw ++ rest)
raw_behind {raw = raw} {rest = rest} body at begin f p = f (length raw) (raw ++ rest) (record {
  bytes = p.count;
  spelled = p.counted;
  whole = p.whole ∙ append_assoc p.count raw rest;
})

pub bytes_found : {bytes : List ℕ} {count end : ℕ} (body : List ℕ) (at begin : ℕ) → NumberFrom body at count begin
    → bytes ≡ take count (drop begin body) → end ≡ begin + count → BytesFrom body at bytes end
bytes_found {count = count} {end = end} body at begin f taken up raw rest p =
    let n = raw_behind body at begin f p in (
      taken ∙ ap (λ k. take k (drop begin body)) n.0 ∙ ap (λ y. take (length raw) y) n.1 ∙ take-append_seam raw rest,
      ap (λ k. drop k body) up ∙ sym (drop-drop count begin body) ∙ ap (λ k. drop k (drop begin body)) n.0
          ∙ ap (λ y. drop (length raw) y) n.1 ∙ drop-append_seam raw rest,
    )

-- there are as many as are counted
pub bytes_enough : {raw rest : List ℕ} {count : ℕ} (body : List ℕ) (at begin : ℕ) → begin ≤ length body
    → NumberFrom body at count begin
    → BeginsThese raw (drop at body) rest → length body < begin + count → ⊥
bytes_enough {raw = raw} {rest = rest} body at begin l f p less =
    let n = raw_behind body at begin f p in
    omega (arith, n.0, ap length n.1, length-drop begin body, length-append raw rest)

-- ---- values without parts
pub bool_parts : {T : Table} {v : Tree} {b : List ℕ} → SpellsAs T (kind.Basic basic.Bool) v b
    → ((x : Bool) × (v ≡ Tree.bool x) × IsUnsigned (truth x) b)
bool_parts (of_bool {x = x} p) = (x, refl, p)

pub int_parts : {T : Table} {v : Tree} {b : List ℕ} → SpellsAs T (kind.Basic basic.Int) v b
    → ((i : ℤ) × (v ≡ Tree.int i) × IsSigned i b)
int_parts (of_int {i = i} p) = (i, refl, p)

pub uint_parts : {T : Table} {v : Tree} {b : List ℕ} → SpellsAs T (kind.Basic basic.Uint) v b
    → ((n : ℕ) × (v ≡ Tree.uint n) × IsUnsigned n b)
uint_parts (of_uint {n = n} p) = (n, refl, p)

pub float_parts : {T : Table} {v : Tree} {b : List ℕ} → SpellsAs T (kind.Basic basic.Float) v b
    → ((p : ℕ) × (v ≡ Tree.float p) × IsPattern p b)
float_parts (of_float {p = p} q) = (p, refl, q)

pub record ComplexIn (v : Tree) (b : List ℕ) : Type 0 where
  pub real : ℕ
  pub imaginary : ℕ
  pub first : List ℕ
  pub second : List ℕ
  pub same : v ≡ Tree.complex real imaginary
  pub whole : b ≡ first ++ second
  pub reals : IsPattern real first
  pub imaginaries : IsPattern imaginary second

pub complex_parts : {T : Table} {v : Tree} {b : List ℕ} → SpellsAs T (kind.Basic basic.Complex) v b → ComplexIn v b
complex_parts (of_complex {p = p} {q = q} {b = b} {c = c} f g) = record {
  real = p;
  imaginary = q;
  first = b;
  second = c;
  same = refl;
  whole = refl;
  reals = f;
  imaginaries = g;
}

pub nil_parts : {T : Table} {v : Tree} {b : List ℕ} → SpellsAs T (kind.Basic basic.Interface) v b
    → ((v ≡ Tree.nil) × IsUnsigned 0 b)
nil_parts (of_nil p) = (refl, p)

-- a value of a basic type begins with a number
pub number_first : {T : Table} {k : Basic} {v : Tree} {piece rest : List ℕ} → HoldsKind T (kind.Basic k) v piece rest
    → (n : ℕ) × (r : List ℕ) × BeginsThisNumber n piece r
number_first {T = T} {rest = rest} h = first h.spelled h.whole
  where
    first : {k : Basic} {v : Tree} {b piece : List ℕ} → SpellsAs T (kind.Basic k) v b → piece ≡ b ++ rest
        → (n : ℕ) × (r : List ℕ) × BeginsThisNumber n piece r
    first (of_bool {x = x} p) w = (truth x, rest, record { bytes = _; spelled = p; whole = w })
    first (of_int p) w = let u = signed_unsigned p in (u.0, rest, record { bytes = _; spelled = u.1; whole = w })
    first (of_uint {n = n} p) w = (n, rest, record { bytes = _; spelled = p; whole = w })
    first (of_float p) w = let u = pattern_unsigned p in (u.0, rest, record { bytes = _; spelled = u.1; whole = w })
    first (of_complex {b = b} {c = c} p q) w = let u = pattern_unsigned p in
        (u.0, c ++ rest, record { bytes = b; spelled = u.1; whole = w ∙ append_assoc b c rest })
    first (of_nil p) w = (0, rest, record { bytes = _; spelled = p; whole = w })
    first (of_bytes {s = s} {c = c} p) w =
        (length s, s ++ rest, record { bytes = c; spelled = p; whole = w ∙ append_assoc c s rest })
    first (of_text {s = s} {c = c} p) w =
        (length s, s ++ rest, record { bytes = c; spelled = p; whole = w ∙ append_assoc c s rest })

-- bytes behind their count
pub record RawIn (means : List ℕ → Tree) (v : Tree) (b : List ℕ) : Type 0 where
  pub raw : List ℕ
  pub count : List ℕ
  pub same : v ≡ means raw
  pub whole : b ≡ count ++ raw
  pub counted : IsUnsigned (length raw) count

pub bytes_parts : {T : Table} {v : Tree} {b : List ℕ} → SpellsAs T (kind.Basic basic.Bytes) v b → RawIn Tree.bytes v b
bytes_parts (of_bytes {s = s} {c = c} p) = record { raw = s; count = c; same = refl; whole = refl; counted = p }

pub text_parts : {T : Table} {v : Tree} {b : List ℕ} → SpellsAs T (kind.Basic basic.Str) v b → RawIn Tree.text v b
text_parts (of_text {s = s} {c = c} p) = record { raw = s; count = c; same = refl; whole = refl; counted = p }

pub opaque_parts : {T : Table} {m : Marshal} {v : Tree} {b : List ℕ} → SpellsAs T (kind.Opaque m) v b
    → RawIn Tree.opaque v b
opaque_parts (of_opaque {s = s} {c = c} p) = record { raw = s; count = c; same = refl; whole = refl; counted = p }

pub these_begin : {means : List ℕ → Tree} {v : Tree} {b piece rest : List ℕ} (r : RawIn means v b) → piece ≡ b ++ rest
    → BeginsThese r.raw piece rest
these_begin {rest = rest} r whole = record {
  count = r.count;
  counted = r.counted;
  whole = whole ∙ ap (λ b. b ++ rest) r.whole;
}

-- so does an opaque value
pub count_first : {T : Table} {m : Marshal} {v : Tree} {piece rest : List ℕ} → HoldsKind T (kind.Opaque m) v piece rest
    → (n : ℕ) × (r : List ℕ) × BeginsThisNumber n piece r
count_first {rest = rest} h =
    let p = these_begin (opaque_parts h.spelled) h.whole in
    let raw = (opaque_parts h.spelled).raw in (
      length raw,
      raw ++ rest,
      record {
        bytes = p.count;
        spelled = p.counted;
        whole = p.whole
            ∙ append_assoc p.count raw rest;
      },
    )

-- the number of a bool, and that of nothing
pub bool_small : {T : Table} {v : Tree} {rest : List ℕ} {n : ℕ} (body : List ℕ) (at end : ℕ) → NumberFrom body at n end
    → HoldsKind T (kind.Basic basic.Bool) v (drop at body) rest → n ≤ 1
bool_small {rest = rest} body at end found b =
    let x = bool_parts b.spelled in
    let one = found (truth x.0) rest (record { bytes = b.bytes; spelled = x.2; whole = b.whole }) in
    subst (λ k. k ≤ 1) (sym one.0) (truth_small x.0)
  where
    truth_small : (x : Bool) → truth x ≤ 1
    truth_small true = omega arith
    truth_small false = omega arith

pub nil_zero : {T : Table} {v : Tree} {rest : List ℕ} {n : ℕ} (body : List ℕ) (at end : ℕ) → NumberFrom body at n end
    → HoldsKind T (kind.Basic basic.Interface) v (drop at body) rest → n ≡ 0
nil_zero {rest = rest} body at end found b =
    let x = nil_parts b.spelled in
    (found 0 rest (record { bytes = b.bytes; spelled = x.1; whole = b.whole })).0

-- behind a complex number's real part stands the imaginary one
pub second_number : {T : Table} {v : Tree} {rest : List ℕ} {m : ℕ} (body : List ℕ) (at behind : ℕ)
    → NumberFrom body at m behind → HoldsKind T (kind.Basic basic.Complex) v (drop at body) rest
    → (n : ℕ) × BeginsThisNumber n (drop behind body) rest
second_number {rest = rest} body at behind found b =
    let x = complex_parts b.spelled in
    let u = pattern_unsigned x.reals in
    let w = pattern_unsigned x.imaginaries in
    let one = found u.0 (x.second ++ rest) (record {
      bytes = x.first;
      spelled = u.1;
      whole = b.whole ∙ ap (λ l. l ++ rest) x.whole ∙ append_assoc x.first x.second rest;
    }) in
    (w.0, record { bytes = x.second; spelled = w.1; whole = one.1 })

-- ---- values with parts
pub value_as : {T : Table} {t : TypeId} {limit : ℕ} {v : Tree} {piece rest : List ℕ} (s : Shape) → shape_of T t ≡ Some s
    → HoldsValue T t limit v piece rest → HoldsKind T s.kind v piece rest
value_as {T = T} {v = v} s f p = spelled_as s f p.bytes p.whole p.spelled
  where
    spelled_as : {T : Table} {t : TypeId} {v : Tree} {piece rest : List ℕ} (s : Shape) → shape_of T t ≡ Some s
        → (b : List ℕ) → piece ≡ b ++ rest → Spells T t v b → HoldsKind T s.kind v piece rest
    spelled_as {T = T} {v = v} s f b whole (of_type {s = r} g q) =
        let same : r ≡ s = some_injective (sym g ∙ f) in
        record { bytes = b; spelled = subst (λ (r : Shape). SpellsAs T r.kind v b) same q; whole = whole }

pub record ListIn (T : Table) (e : TypeId) (v : Tree) (b : List ℕ) : Type 0 where
  pub values : Trees
  pub count : List ℕ
  pub rest : List ℕ
  pub same : v ≡ Tree.many values
  pub counted : IsUnsigned (tree_count values) count
  pub each : SpellsEach T e values rest
  pub whole : b ≡ count ++ rest

pub slice_parts : {T : Table} {e : TypeId} {v : Tree} {b : List ℕ} → SpellsAs T (kind.Slice e) v b → ListIn T e v b
slice_parts (of_slice {vs = vs} {c = c} {b = b} p q) = record {
  values = vs;
  count = c;
  rest = b;
  same = refl;
  counted = p;
  each = q;
  whole = refl;
}

-- an array's count is its type's length
pub array_counts : {T : Table} {e : TypeId} {n : ℕ} {v : Tree} {b piece : List ℕ} (rest : List ℕ)
    → SpellsAs T (kind.Array e n) v b
    → piece ≡ b ++ rest → (behind : List ℕ) × BeginsThisNumber n piece behind
array_counts rest (of_array {c = c} {b = b} m p q) whole =
    (b ++ rest, record { bytes = c; spelled = p; whole = whole ∙ append_assoc c b rest })

pub array_parts : {T : Table} {e : TypeId} {n : ℕ} {v : Tree} {b : List ℕ} → SpellsAs T (kind.Array e n) v b
    → ListIn T e v b
array_parts (of_array {vs = vs} {c = c} {b = b} n p q) = record {
  values = vs;
  count = c;
  rest = b;
  same = refl;
  counted = subst (λ k. IsUnsigned k c) (sym n) p;
  each = q;
  whole = refl;
}

-- the piece begins with the count of these elements, and then with them
pub record BeginsList (T : Table) (e : TypeId) (limit : ℕ) (vs : Trees) (piece rest : List ℕ) : Type 0 where
  pub behind : List ℕ
  pub counted : BeginsThisNumber (tree_count vs) piece behind
  pub elements : BeginsElements T e limit vs behind rest

pub list_begins : {T : Table} {e : TypeId} {v : Tree} {b piece rest : List ℕ} (limit : ℕ) (l : ListIn T e v b)
    → depth v ≤ limit → piece ≡ b ++ rest → BeginsList T e (limit - 1) l.values piece rest
list_begins {rest = rest} limit l deep whole =
    let same = ap depth l.same in
    record {
      behind = l.rest ++ rest;
      counted = record {
        bytes = l.count;
        spelled = l.counted;
        whole = whole ∙ ap (λ b. b ++ rest) l.whole ∙ append_assoc l.count l.rest rest;
      };
      elements = record { bytes = l.rest; spelled = l.each; within = omega arith; whole = refl };
    }

pub record MapIn (T : Table) (k e : TypeId) (v : Tree) (b : List ℕ) : Type 0 where
  pub pairs : Pairs
  pub count : List ℕ
  pub rest : List ℕ
  pub same : v ≡ Tree.pairs pairs
  pub counted : IsUnsigned (pair_count pairs) count
  pub each : SpellsPairs T k e pairs rest
  pub whole : b ≡ count ++ rest

pub map_parts : {T : Table} {k e : TypeId} {v : Tree} {b : List ℕ} → SpellsAs T (kind.Map k e) v b → MapIn T k e v b
map_parts (of_map {ps = ps} {c = c} {b = b} p q) = record {
  pairs = ps;
  count = c;
  rest = b;
  same = refl;
  counted = p;
  each = q;
  whole = refl;
}

-- a map begins here: its count, and the entries behind it
pub record BeginsMap (T : Table) (k e : TypeId) (limit : ℕ) (ps : Pairs) (piece rest : List ℕ) : Type 0 where
  pub behind : List ℕ
  pub counted : BeginsThisNumber (pair_count ps) piece behind
  pub entries : BeginsEntries T k e limit ps behind rest

pub map_begins : {T : Table} {k e : TypeId} {v : Tree} {b piece rest : List ℕ} (limit : ℕ) (m : MapIn T k e v b)
    → depth v ≤ limit → piece ≡ b ++ rest → BeginsMap T k e (limit - 1) m.pairs piece rest
map_begins {rest = rest} limit m deep whole =
    let same = ap depth m.same in
    record {
      behind = m.rest ++ rest;
      counted = record {
        bytes = m.count;
        spelled = m.counted;
        whole = whole ∙ ap (λ b. b ++ rest) m.whole ∙ append_assoc m.count m.rest rest;
      };
      entries = record { bytes = m.rest; spelled = m.each; within = omega arith; whole = refl };
    }

pub struct_parts : {T : Table} {types : List Field} {v : Tree} {b : List ℕ} → SpellsAs T (kind.Struct types) v b
    → ((fs : Fields) × (v ≡ Tree.fields fs) × SpellsFields T types 0 fs b)
struct_parts (of_struct {fs = fs} p) = (fs, refl, p)

-- a value's type has a shape
pub shape_there : {T : Table} {t : TypeId} {limit : ℕ} {v : Tree} {piece rest : List ℕ}
    → HoldsValue T t limit v piece rest
    → shape_of T t ≡ None → ⊥
shape_there p none = shape_of_spelled p.spelled none
  where
    shape_of_spelled : {T : Table} {t : TypeId} {v : Tree} {b : List ℕ} → Spells T t v b → shape_of T t ≡ None → ⊥
    shape_of_spelled (of_type f q) none = cc

-- the count of a list, of an array and of a map
module _ {T : Table} {t : TypeId} {limit : ℕ} {v : Tree} {piece rest : List ℕ} (s : Shape) (f : shape_of T t ≡ Some s)
    (b : HoldsValue T t limit v piece rest) where
  pub list_count : (e : TypeId) → s.kind ≡ kind.Slice e → (n : ℕ) × (r : List ℕ) × BeginsThisNumber n piece r
  list_count e is =
      let w = value_as s f b in
      let l = list_begins limit (slice_parts (subst (λ k. SpellsAs T k v w.bytes) is w.spelled)) b.within w.whole in
      (_, l.behind, l.counted)

  pub array_count : (e : TypeId) (m : ℕ) → s.kind ≡ kind.Array e m → (r : List ℕ) × BeginsThisNumber m piece r
  array_count e m is =
      let w = value_as s f b in array_counts rest (subst (λ k. SpellsAs T k v w.bytes) is w.spelled) w.whole

  pub map_count : (k e : TypeId) → s.kind ≡ kind.Map k e → (n : ℕ) × (r : List ℕ) × BeginsThisNumber n piece r
  map_count k e is =
      let w = value_as s f b in
      let m = map_begins limit (map_parts (subst (λ j. SpellsAs T j v w.bytes) is w.spelled)) b.within w.whole in
      (_, m.behind, m.counted)

-- ---- the next part
pub record NextElement (T : Table) (e : TypeId) (limit : ℕ) (vs : Trees) (piece rest : List ℕ) : Type 0 where
  pub first : Tree
  pub others : Trees
  pub behind : List ℕ
  pub same : vs ≡ tree first others
  pub value : HoldsValue T e limit first piece behind
  pub left : BeginsElements T e limit others behind rest

next_spelled : {T : Table} {e : TypeId} {vs : Trees} {b piece rest : List ℕ} (limit : ℕ) → SpellsEach T e vs b
    → BeginsElements T e limit vs piece rest → piece ≡ b ++ rest → 0 < tree_count vs
    → NextElement T e limit vs piece rest
next_spelled limit no_element p whole some = absurd (omega (arith, some))
next_spelled {rest = rest} limit (element {v = v} {vs = vs} {b = b} {c = c} f q) p whole some =
    let deep = p.within in
    record {
      first = v;
      others = vs;
      behind = c ++ rest;
      same = refl;
      value = record { bytes = b; spelled = f; within = omega arith; whole = whole ∙ append_assoc b c rest };
      left = record { bytes = c; spelled = q; within = omega arith; whole = refl };
    }

pub next_element : {T : Table} {e : TypeId} {limit : ℕ} {vs : Trees} {piece rest : List ℕ}
    → BeginsElements T e limit vs piece rest → 0 < tree_count vs → NextElement T e limit vs piece rest
next_element {limit = limit} p some = next_spelled limit p.spelled p p.whole some

pub element_shape : {T : Table} {e : TypeId} {limit : ℕ} {vs : Trees} {piece rest : List ℕ}
    → BeginsElements T e limit vs piece rest → 0 < tree_count vs → shape_of T e ≡ None → ⊥
element_shape p some none = shape_there (next_element p some).value none

pub record NextEntry (T : Table) (k e : TypeId) (limit : ℕ) (ps : Pairs) (piece rest : List ℕ) : Type 0 where
  pub key : Tree
  pub value : Tree
  pub others : Pairs
  pub behind : List ℕ
  pub same : ps ≡ pair key value others
  pub entry : BeginsEntry T k e limit key value piece behind
  pub left : BeginsEntries T k e limit others behind rest

entry_spelled : {T : Table} {k e : TypeId} {ps : Pairs} {b piece rest : List ℕ} (limit : ℕ) → SpellsPairs T k e ps b
    → BeginsEntries T k e limit ps piece rest → piece ≡ b ++ rest → 0 < pair_count ps
    → NextEntry T k e limit ps piece rest
entry_spelled limit no_entry p whole some = absurd (omega (arith, some))
entry_spelled {rest = rest} limit (entry {x = x} {v = v} {ps = ps} {a = a} {b = b} {c = c} f g q) p whole some =
    let deep = p.within in
    record {
      key = x;
      value = v;
      others = ps;
      behind = c ++ rest;
      same = refl;
      entry = record {
        behind = b ++ (c ++ rest);
        key = record {
          bytes = a;
          spelled = f;
          within = omega arith;
          whole = whole ∙ append_assoc a (b ++ c) rest ∙ ap (λ l. a ++ l) (append_assoc b c rest);
        };
        element = record { bytes = b; spelled = g; within = omega arith; whole = refl };
      };
      left = record { bytes = c; spelled = q; within = omega arith; whole = refl };
    }

pub next_entry : {T : Table} {k e : TypeId} {limit : ℕ} {ps : Pairs} {piece rest : List ℕ}
    → BeginsEntries T k e limit ps piece rest → 0 < pair_count ps → NextEntry T k e limit ps piece rest
next_entry {limit = limit} p some = entry_spelled limit p.spelled p p.whole some

pub entry_shapes : {T : Table} {k e : TypeId} {limit : ℕ} {ps : Pairs} {piece rest : List ℕ}
    → BeginsEntries T k e limit ps piece rest → 0 < pair_count ps
    → (shape_of T k ≡ None → ⊥) × (shape_of T e ≡ None → ⊥)
entry_shapes p some =
    let one = (next_entry p some).entry in (λ none. shape_there one.key none, λ none. shape_there one.element none)

-- the next field, or the end of the fields
pub record NextPresent (T : Table) (types : List Field) (next limit delta f : ℕ) (e : Field) (fs : Fields)
    (piece rest : List ℕ) : Type 0 where
  pub value : Tree
  pub others : Fields
  pub behind : List ℕ
  pub after : List ℕ
  pub same : fs ≡ field f value others
  pub counted : BeginsThisNumber delta piece behind
  pub begins : HoldsValue T e.id limit value behind after
  pub left : BeginsPresent T types (f + 1) limit others after rest

pub some_field : {T : Table} {types : List Field} {next limit delta f : ℕ} {fs : Fields} {b rest : List ℕ} {e : Field}
    (body : List ℕ) (at end : ℕ) → SpellsFields T types next fs b → BeginsPresent T types next limit fs (drop at body)
    rest
    → drop at body ≡ b ++ rest → NumberFrom body at delta end → IsNextField types next delta f e
    → NextPresent T types next limit delta f e fs (drop at body) rest
some_field {rest = rest} body at end (end_of_fields {b = b} p) q whole n is =
    let none = n 0 rest (record { bytes = b; spelled = p; whole = whole }) in
    let given = is.0 in
    absurd (omega (arith, none.0))
some_field {T = T} {types = types} {next = next} {limit = limit} {delta = delta} {f = f} {rest = rest} {e = e} body at
    end
    (next_field {f = g} {e = d} {v = v} {fs = fs} {a = a} {b = b} {c = c} up here p s r) q whole n is =
    let all : drop at body ≡ a ++ (b ++ (c ++ rest)) =
    whole ∙ append_assoc a (b ++ c) rest ∙ ap (λ l. a ++ l) (append_assoc b c rest) in
    let one = n (g + 1 - next) (b ++ (c ++ rest)) (record { bytes = a; spelled = p; whole = all }) in
    let number : g ≡ f = omega (arith, one.0, is.1) in
    let same : d ≡ e = some_injective (sym here ∙ ap (λ k. slice_get types k) number ∙ is.2) in
    let deep = q.within in
    record {
      value = v;
      others = fs;
      behind = b ++ (c ++ rest);
      after = c ++ rest;
      same = ap (λ k. field k v fs) number;
      counted = record { bytes = a; spelled = subst (λ k. IsUnsigned k a) (sym one.0) p; whole = all };
      begins = record {
        bytes = b;
        spelled = subst (λ (d : Field). Spells T d.id v b) same s;
        within = omega arith;
        whole = refl;
      };
      left = record {
        bytes = c;
        spelled = subst (λ k. SpellsFields T types (k + 1) fs c) number r;
        within = omega arith;
        whole = refl;
      };
    }

-- where fields stand, a number does
pub delta_first : {T : Table} {types : List Field} {next : ℕ} {fs : Fields} {b piece : List ℕ} (rest : List ℕ)
    → SpellsFields T types next fs b → piece ≡ b ++ rest → (n : ℕ) × (r : List ℕ) × BeginsThisNumber n piece r
delta_first rest (end_of_fields {b = b} p) whole = (0, rest, record { bytes = b; spelled = p; whole = whole })
delta_first rest (next_field {a = a} {b = b} {c = c} up here p s r) whole =
    (_, (b ++ c) ++ rest, record { bytes = a; spelled = p; whole = whole ∙ append_assoc a (b ++ c) rest })

-- where fields stand, their end does or a field
pub field_or_end : {T : Table} {types : List Field} {next delta : ℕ} {fs : Fields} {b rest : List ℕ} (body : List ℕ)
    (at end : ℕ) → SpellsFields T types next fs b → drop at body ≡ b ++ rest → NumberFrom body at delta end
    → ((f : ℕ) (e : Field) → ¬ IsNextField types next delta f e) → (delta ≡ 0) × (fs ≡ no_field)
    × (drop end body ≡ rest)
field_or_end {rest = rest} body at end (end_of_fields {b = b} p) whole n none =
    let here = n 0 rest (record { bytes = b; spelled = p; whole = whole }) in
    (here.0, refl, here.1)
field_or_end {next = next} {rest = rest} body at end (next_field {f = g} {e = d} {a = a} {b = b} {c = c} up here p s r)
    whole n none =
    let one = n (g + 1 - next) (b ++ (c ++ rest)) (record {
      bytes = a;
      spelled = p;
      whole = whole ∙ append_assoc a (b ++ c) rest ∙ ap (λ l. a ++ l) (append_assoc b c rest);
    }) in
    absurd (none g d (omega (arith, one.0), omega (arith, one.0), here))

-- ---- the value of an item
pub no_shape_top : {T : Table} {t : TypeId} {v : Tree} {body : List ℕ} → shape_of T t ≡ None → SpellsTop T t v body → ⊥
no_shape_top f (at_once g struct p) = cc
no_shape_top f (tagged g other p) = cc
