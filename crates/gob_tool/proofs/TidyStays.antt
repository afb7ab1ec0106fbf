-- The tidy form of what a stream says stays the same when the table grows, and can be written where it stood.
use Rattle.std.proofs.Common.{◌≡◌, ℕ, ℤ, negsuc, zero, suc, ◌+◌, ◌≤◌, inl, inr, List, ◌++◌, length, Option}
use Rattle.std.proofs.Common.{arith, ap, sym, subst, ◌∙◌, append_assoc, length-append}
use Rattle.std.proofs.lemmas.Bool.{cases_lt}
use Rattle.gob_num.specs.Signed.{IsSigned}
use Rattle.gob_num.specs.Unsigned.{IsUnsigned, short, long}
use Rattle.gob_num.proofs.PublicLaws.{big_endian_below, signed_unique, unsigned_length}
use Rattle.gob_types.specs.declared.id.TypeId.{TypeId}
use Rattle.gob_types.specs.declared.kind.Field.{Field}
use Rattle.gob_types.specs.declared.kind.Kind.{Kind}
use Rattle.gob_types.specs.declared.kind.Shape.{Shape}
use Rattle.gob_types.specs.Base.{base_table, wire_type}
use Rattle.gob_types.specs.Table.{Table}
use Rattle.gob_types.proofs.PublicLaws.{Keeps, ready_on}
use Rattle.gob_value.specs.Spelling as spelling
use Rattle.gob_value.specs.Spelling.{Spells, SpellsAs, SpellsEach, SpellsPairs, SpellsFields}
use Rattle.gob_value.specs.Tidy.{Tidies, of_type, TidiesAs, of_basic, of_opaque, of_slice, of_array, of_map, of_struct}
use Rattle.gob_value.specs.Tidy.{TidiesEach, no_element, element, TidiesPairs, no_entry, entry, TidiesFields, no_more}
use Rattle.gob_value.specs.Tidy.{dropped, kept}
use Rattle.gob_value.specs.Top.{IsStruct, SpellsTop, at_once, tagged}
use Rattle.gob_value.specs.Tree.{Tree, Trees, Pairs, Fields, depth, trees_depth, pairs_depth, fields_depth}
use Rattle.gob_value.proofs.PublicLaws.{said_stays, described_alike}
use Rattle.gob_value.proofs.PublicLaws.{spelled_no_longer}
use Rattle.gob_value.proofs.PublicLaws.{spells_back}
use Rattle.gob_value.proofs.PublicLaws.{tidy_form, one_tidy, no_deeper as tidy_no_deeper}
use Rattle.gob_stream.specs.Body.{Body, definition, value}
use Rattle.gob_stream.specs.Bounds.{Bounds}
use Rattle.gob_stream.specs.Item.{StreamItem, defines, puts}
use Rattle.gob_stream.specs.Stream.{IsItem, counted}
use Rattle.gob_stream.proofs.PublicLaws.{FieldsAll, IsFlat, PartsAll, ShapeAll, field_all, wire_ready}
use Rattle.gob_tool.specs.Rewriting.{content, content_type, with_content}
use Rattle.gob_tool.specs.Machine.Rewritten.{IsNumbered, IsTidyItem, SpellsItem, spells_definition, spells_value}
use Rattle.gob_tool.proofs.LinesStay.{body_keeps}

mutual
  pub tidies_on : {T U : Table} {t : TypeId} {v w : Tree} → Keeps T U → Tidies T t v w → Tidies U t v w
  tidies_on s (of_type e p) = of_type (s.shape _ _ e) (tidies_as_on s p)

  tidies_as_on : {T U : Table} {k : Kind} {v w : Tree} → Keeps T U → TidiesAs T k v w → TidiesAs U k v w
  tidies_as_on s (of_basic n) = of_basic n
  tidies_as_on s (of_opaque n) = of_opaque n
  tidies_as_on s (of_slice ps) = of_slice (tidies_each_on s ps)
  tidies_as_on s (of_array ps) = of_array (tidies_each_on s ps)
  tidies_as_on s (of_map ps) = of_map (tidies_pairs_on s ps)
  tidies_as_on s (of_struct ps) = of_struct (tidies_fields_on s ps)

  tidies_each_on : {T U : Table} {e : TypeId} {vs ws : Trees} → Keeps T U → TidiesEach T e vs ws → TidiesEach U e vs ws
  tidies_each_on s no_element = no_element
  tidies_each_on s (element p ps) = element (tidies_on s p) (tidies_each_on s ps)

  tidies_pairs_on : {T U : Table} {k e : TypeId} {ps qs : Pairs} → Keeps T U → TidiesPairs T k e ps qs
      → TidiesPairs U k e ps qs
  tidies_pairs_on s no_entry = no_entry
  tidies_pairs_on s (entry p q ps) = entry (tidies_on s p) (tidies_on s q) (tidies_pairs_on s ps)

  tidies_fields_on : {T U : Table} {types : List Field} {fs gs : Fields} → Keeps T U → TidiesFields T types fs gs
      → TidiesFields U types fs gs
  tidies_fields_on s no_more = no_more
  tidies_fields_on s (dropped at e d ps) = dropped at (s.shape _ _ e) d (tidies_fields_on s ps)
  tidies_fields_on s (kept at e d p ps) = kept at (s.shape _ _ e) d (tidies_as_on s p) (tidies_fields_on s ps)

-- what fits has one tidy form, which is that by a larger table
pub tidies_back : {T U : Table} {t : TypeId} {v w : Tree} {b : List ℕ} → Keeps T U → Spells T t v b → Tidies U t v w
    → Tidies T t v w
tidies_back {T = T} {t = t} {v = v} s q p =
    let f = tidy_form q in
    subst (λ (x : Tree). Tidies T t v x) (one_tidy (tidies_on s f.tidies) p) f.tidies

-- ---- types whose values are no deeper than a number
mutual
  flat : {T : Table} {t : TypeId} {v : Tree} {b : List ℕ} (n : ℕ) → IsFlat T n t → Spells T t v b → depth v ≤ n
  flat zero none p = absurd none
  flat {T = T} (suc n) all (spelling.of_type e p) =
      flat_as n (subst (λ (o : Option Shape). ShapeAll (IsFlat T n) o) e all) p

  flat_as : {T : Table} {k : Kind} {v : Tree} {b : List ℕ} (n : ℕ) → PartsAll (IsFlat T n) k → SpellsAs T k v b
      → depth v ≤ suc n
  flat_as n all (spelling.of_bool p) = omega arith
  flat_as n all (spelling.of_int p) = omega arith
  flat_as n all (spelling.of_uint p) = omega arith
  flat_as n all (spelling.of_float p) = omega arith
  flat_as n all (spelling.of_complex p q) = omega arith
  flat_as n all (spelling.of_nil p) = omega arith
  flat_as n all (spelling.of_bytes p) = omega arith
  flat_as n all (spelling.of_text p) = omega arith
  flat_as n all (spelling.of_opaque p) = omega arith
  flat_as n all (spelling.of_slice p ps) = let d = flat_each n all ps in omega (arith, d)
  flat_as n all (spelling.of_array m p ps) = let d = flat_each n all ps in omega (arith, d)
  flat_as n all (spelling.of_map p ps) = let d = flat_pairs n all.0 all.1 ps in omega (arith, d)
  flat_as n all (spelling.of_struct ps) = let d = flat_fields n all ps in omega (arith, d)

  flat_each : {T : Table} {e : TypeId} {vs : Trees} {b : List ℕ} (n : ℕ) → IsFlat T n e → SpellsEach T e vs b
      → trees_depth vs ≤ n
  flat_each n all spelling.no_element = omega arith
  flat_each n all (spelling.element p ps) = let d = flat n all p in let ds = flat_each n all ps in omega (arith, d, ds)

  flat_pairs : {T : Table} {k e : TypeId} {ps : Pairs} {b : List ℕ} (n : ℕ) → IsFlat T n k → IsFlat T n e
      → SpellsPairs T k e ps b → pairs_depth ps ≤ n
  flat_pairs n keys all spelling.no_entry = omega arith
  flat_pairs n keys all (spelling.entry p q ps) =
      let c = flat n keys p in let d = flat n all q in let ds = flat_pairs n keys all ps in omega (arith, c, d, ds)

  flat_fields : {T : Table} {types : List Field} {next : ℕ} {fs : Fields} {b : List ℕ} (n : ℕ)
      → FieldsAll (IsFlat T n) types → SpellsFields T types next fs b → fields_depth fs ≤ n
  flat_fields n all (spelling.end_of_fields p) = omega arith
  flat_fields {T = T} {types = types} n all (spelling.next_field {f = f} l at p q ps) =
      let d = flat n (field_all (IsFlat T n) types f all at) q in let ds = flat_fields n all ps in omega (arith, d, ds)

two_leaves : Unit {0} × (Unit {0} × Unit {0})
two_leaves = (tt, (tt, tt))

-- by the fields of wireType: ArrayT, SliceT, StructT, MapT, and three opaque types
wire_flat : IsFlat base_table 5 wire_type
wire_flat = (
  (two_leaves, two_leaves),
  (
    (two_leaves, (tt, tt)),
    (
      (two_leaves, (two_leaves, tt)),
      (
        (two_leaves, two_leaves),
        ((two_leaves, tt), ((two_leaves, tt), ((two_leaves, tt), tt))),
      ),
    ),
  ),
)

-- a description is no deeper than 5
pub description_depth : {T : Table} {v : Tree} {b : List ℕ} → Keeps base_table T → Spells T wire_type v b → depth v ≤ 5
description_depth s p = flat 5 wire_flat (spells_back s wire_ready p)

-- ---- the item of the tidy form
-- a number's spelling is no longer than that of a greater one
no_longer_number : {m n : ℕ} {a b : List ℕ} → IsUnsigned m a → IsUnsigned n b → m ≤ n → length a ≤ length b
no_longer_number (short p) q l = let some = unsigned_length q in omega (arith, some.0)
no_longer_number (long r) (short q) l = let large = r.large in absurd (omega arith)
no_longer_number (long {digits = ds} r) (long {digits = es} q) l =
    elim (cases_lt (length es) (length ds)) [
      | inl less ↦ let some = r.least (length es) less in let v = q.value in
          absurd (omega (arith, some, big_endian_below es q.bytes))
      | inr most ↦ omega (arith, most)
    ]

-- it stands where it does, or before
stands_there : {L : Bounds} {T V : Table} {i : StreamItem} {c b text : List ℕ} {number : ℤ} (offset low : ℕ)
    (d : List ℕ) → IsUnsigned (length d) c → length d ≤ L.item → offset + length (c ++ d) ≤ L.stream → low ≤ offset
    → (h : IsNumbered number b text) → length (h.before.name ++ b) ≤ length d
    → Body base_table L T i (h.before.name ++ b) V
    → IsItem base_table L T low i text V × (length text ≤ length (c ++ d))
stands_there {L = L} {T = T} {V = V} {i = i} {c = c} {b = b} offset low d u l s before h less body =
    let count = no_longer_number h.before.counts u less in
    let whole = h.whole ∙ ap (λ (z : List ℕ). z ++ b) h.before.whole
    ∙ append_assoc h.before.count h.before.name b in
    let size = length-append h.before.count (h.before.name ++ b) in (
      subst (λ (z : List ℕ). IsItem base_table L T low i z V) (sym whole)
          (counted h.before.counts (omega arith) (omega (arith, size, length-append c d)) body),
      omega (arith, ap length whole, size, length-append c d),
    )

-- the tidy form of a value at the top
top_no_longer : {T : Table} {t : TypeId} {v w : Tree} {b c : List ℕ} → SpellsTop T t v b → SpellsTop T t w c
    → Tidies T t v w → length c ≤ length b
top_no_longer (at_once e s q) (at_once e' s' q') p = spelled_no_longer p q q'
top_no_longer (tagged e s q) (tagged e' s' q') p = let l = spelled_no_longer p q q' in omega (arith, l)
top_no_longer (at_once {s = r} e s q) (tagged {s = r'} e' s' q') p =
    let same : r ≡ r' = cc in absurd (s' (subst (λ (x : Shape). IsStruct x.kind) same s))
top_no_longer (tagged {s = r} e s q) (at_once {s = r'} e' s' q') p =
    let same : r' ≡ r = cc in absurd (s (subst (λ (x : Shape). IsStruct x.kind) same s'))

-- an item's tidy form can stand where the item does, or before, and is no longer
pub record FormStands (L : Bounds) (T V : Table) (low : ℕ) (i : StreamItem) (text bytes : List ℕ) : Type 0 where
  pub form : Tree
  pub tidies : Tidies V (content_type i) (content i) form
  pub counted : IsItem base_table L T low (with_content i form) text V
  pub no_longer : length text ≤ length bytes

pub form_stands : {L : Bounds} {T V : Table} {i : StreamItem} {offset : ℕ} {bytes text : List ℕ} (low : ℕ)
    → Keeps base_table T → IsItem base_table L T offset i bytes V → IsTidyItem V i text → low ≤ offset
    → FormStands L T V low i text bytes
form_stands {L = L} {T = T} {offset = offset} {text = text} low base
    (counted {c = c} u l s (value {t = t} {v = v} {a = a} {b = b} may deep n k)) tidy before =
    by tidy.form tidy.tidies tidy.spelled
  where
    by : (form : Tree) → Tidies T t v form → SpellsItem T (puts t form) text
        → FormStands L T T low (puts t v) text (c ++ (a ++ b))
    by form p (spells_value {b = top} spells h) =
        let name = signed_unique h.before.names n in
        let less = tidy_no_deeper p in
        let short = top_no_longer k spells p in
        let there = stands_there offset low (a ++ b) u l s before h
        (omega (arith, ap length name, short, length-append a b, length-append h.before.name top))
        (value may (omega (arith, deep, less)) h.before.names spells) in
        record { form = form; tidies = p; counted = there.0; no_longer = there.1 }
form_stands {L = L} {T = T} {V = V} {offset = offset} {text = text} low base
    (counted {c = c} u l s (definition {id = id} {n = k} {v = v} {a = a} {b = b} may deep describes e n spelled)) tidy
    before = by tidy.form tidy.tidies tidy.spelled
  where
    keeps : Keeps T V
    keeps = body_keeps (definition may deep describes e n spelled)

    by : (form : Tree) → Tidies V wire_type v form → SpellsItem V (defines id form) text
        → FormStands L T V low (defines id v) text (c ++ (a ++ b))
    by form p (spells_definition {n = m} {b = content} e' spells h) =
        let number : m ≡ k = omega arith in
        let name = signed_unique (subst (λ x. IsSigned (negsuc x) h.before.name) number h.before.names) n in
        let here = spells_back keeps (ready_on base wire_ready) spells in
        let tidied = tidies_back keeps spelled p in
        let based = spells_back base wire_ready spelled in
        let alike = described_alike (said_stays based (tidies_back base based tidied)) describes in
        let less = tidy_no_deeper tidied in
        let short = spelled_no_longer tidied spelled here in
        let there = stands_there offset low (a ++ b) u l s before h
        (omega (arith, ap length name, short, length-append a b, length-append h.before.name content))
        (definition may (omega (arith, deep, less)) alike e' h.before.names here) in
        record { form = form; tidies = p; counted = there.0; no_longer = there.1 }
