-- Where two types match, a value of the first is received as one value alone.
use Rattle.std.proofs.Common.{◌≡◌, ℕ, suc, ◌≤◌, List, Contains, Some, arith, refl, sym, ap, ◌∙◌, subst}
use Rattle.std.specs.Prelude.{slice_get}
use Rattle.gob_types.specs.declared.basic.Basic.{Basic}
use Rattle.gob_types.specs.declared.id.TypeId.{TypeId}
use Rattle.gob_types.specs.declared.kind.Field.{Field}
use Rattle.gob_types.specs.declared.kind.Kind.{Kind}
use Rattle.gob_types.specs.declared.kind.Kind.TheVariants as kind
use Rattle.gob_types.specs.declared.kind.Marshal.{Marshal}
use Rattle.gob_types.specs.declared.kind.Shape.{Shape}
use Rattle.gob_types.specs.Table.{Table}
use Rattle.gob_types.proofs.PublicLaws.{some_injective}
use Rattle.gob_value.specs.Spelling.{Spells, SpellsAs, SpellsEach, SpellsPairs, SpellsFields}
use Rattle.gob_value.specs.Spelling as spelling
use Rattle.gob_value.specs.Tree.{Tree, Trees, tree, Pairs, pair, Fields, field}
use Rattle.gob_value.specs.Tree as Value
use Rattle.gob_match.specs.declared.pair.TypePair.{TypePair}
use Rattle.gob_match.specs.declared.step.TypeStep.TheVariants as step
use Rattle.gob_match.specs.Matching.{KindsMatch, structs, IsClosed}
use Rattle.gob_match.specs.Pairs.{RepeatsName, element_of_arrays, element_of_slices, key_of_maps, element_of_maps}
use Rattle.gob_match.specs.Pairs.{field_of_structs}
use Rattle.gob_match.specs.Pairs as pairs
use Rattle.gob_match.specs.Received.{IsPresent, first, later, HasPresent, Receives, of_types, ReceivesAs, of_basics}
use Rattle.gob_match.specs.Received.{of_opaques, of_arrays, of_slices, of_maps, of_structs, ReceivesEach, no_element}
use Rattle.gob_match.specs.Received.{element, ReceivesPairs, no_entry, entry, ReceivesFields, no_more, absent, received}
use Rattle.gob_match.proofs.ConversionLaws.{one_number}
use Rattle.gob_match.proofs.HaveLaws.{AreNamed}
use Rattle.gob_match.proofs.ReceiveSteps.{present_fits}

-- a field that is present has at least the number that is next
pub present_from : {T : Table} {types : List Field} {f : ℕ} {v : Tree} {fs : Fields} {next : ℕ} {b : List ℕ}
    → SpellsFields T types next fs b → IsPresent f v fs → next ≤ f
present_from (spelling.next_field l at a p ps) first = l
present_from (spelling.next_field l at a p ps) (later h) = let n = present_from ps h in omega arith
present_from (spelling.end_of_fields e) h = elim h [ ]

-- and one value
one_present : {T : Table} {types : List Field} {f g : ℕ} {v w : Tree} {fs : Fields} {next : ℕ} {b : List ℕ}
    → SpellsFields T types next fs b → IsPresent f v fs → IsPresent g w fs → f ≡ g → v ≡ w
one_present (spelling.next_field l at a p ps) first first e = refl
one_present (spelling.next_field l at a p ps) first (later h) e = let n = present_from ps h in absurd (omega arith)
one_present (spelling.next_field l at a p ps) (later k) first e = let n = present_from ps k in absurd (omega arith)
one_present (spelling.next_field l at a p ps) (later k) (later h) e = one_present ps k h e
one_present (spelling.end_of_fields z) h k e = elim h [ ]

-- the value that is present under a name, where no name is repeated
pub record SamePresent (t r : TypeId) (v x : Tree) : Type 0 where
  pub types : t ≡ r
  pub values : v ≡ x

same_present : {T : Table} {types : List Field} {fs : Fields} {next : ℕ} {b : List ℕ} {name : List ℕ} {t r : TypeId}
    {v x : Tree} → ¬ RepeatsName types → SpellsFields T types next fs b → HasPresent types fs name t v
    → HasPresent types fs name r x
    → SamePresent t r v x
same_present {types = types} {fs = fs} {x = x} d s g h =
    let n = one_number d g.there h.there (g.named ∙ sym h.named) in
    record {
      types = sym g.typed ∙ ap (λ (e : Field). e.id) (some_injective (sym g.there ∙ ap (slice_get types) n ∙ h.there))
          ∙ h.typed;
      values = one_present s g.present h.present n;
    }

-- what is received at kinds that are known
module _ {T U : Table} where
  of_basic : {b c : Basic} {v x : Tree} → ReceivesAs T U (kind.Basic b) (kind.Basic c) v x → x ≡ v
  of_basic of_basics = refl

  of_opaque : {m n : Marshal} {v x : Tree} → ReceivesAs T U (kind.Opaque m) (kind.Opaque n) v x → x ≡ v
  of_opaque of_opaques = refl

  of_array : {e f : TypeId} {m n : ℕ} {vs : Trees} {x : Tree}
      → ReceivesAs T U (kind.Array e m) (kind.Array f n) (Value.many vs) x → (xs : Trees) × (x ≡ Value.many xs)
      × ReceivesEach T U e f vs xs
  of_array (of_arrays {ws = xs} r) = (xs, refl, r)

  of_slice : {e f : TypeId} {vs : Trees} {x : Tree} → ReceivesAs T U (kind.Slice e) (kind.Slice f) (Value.many vs) x
      → (xs : Trees) × (x ≡ Value.many xs) × ReceivesEach T U e f vs xs
  of_slice (of_slices {ws = xs} r) = (xs, refl, r)

  of_map : {k l e f : TypeId} {ps : Pairs} {x : Tree} → ReceivesAs T U (kind.Map k e) (kind.Map l f) (Value.pairs ps) x
      → (xs : Pairs) × (x ≡ Value.pairs xs) × ReceivesPairs T U k l e f ps xs
  of_map (of_maps {qs = xs} r) = (xs, refl, r)

  of_struct : {types wanted : List Field} {fs : Fields} {x : Tree}
      → ReceivesAs T U (kind.Struct types) (kind.Struct wanted) (Value.fields fs) x → (xs : Fields)
      × (x ≡ Value.fields xs) × ReceivesFields T U types fs 0 wanted xs
  of_struct (of_structs {gs = xs} r) = (xs, refl, r)

module _ {T U : Table} {ps : List TypePair} (closed : IsClosed T U ps) where
  mutual
    pub one : {t u : TypeId} {v w x : Tree} {b : List ℕ} → Spells T t v b → Contains ps (pairs.of_types t u)
        → Receives T U t u v w → Receives T U t u v x → w ≡ x
    one {t = t} {u = u} {v = v} {x = x} {b = b} (spelling.of_type {s = s} e h) there (of_types {s = i} {r = j} si rj p)
        (of_types {s = k} {r = l} sk rl q) =
        let m = closed.match (pairs.of_types t u) there in
        let to_i : s ≡ i = some_injective (sym e ∙ si) in
        let to_k : k ≡ i = some_injective (sym sk ∙ si) in
        let to_j : l ≡ j = some_injective (sym rl ∙ rj) in
        one_as (subst (λ (s : Shape). SpellsAs T s.kind v b) to_i h)
        (subst (λ (y : Shape). KindsMatch y.kind j.kind) (some_injective (sym m.shapes.stream ∙ si))
        (subst (λ (y : Shape). KindsMatch m.stream.kind y.kind) (some_injective (sym m.shapes.wanted ∙ rj))
        m.match))
        (λ y z n. closed.named (pairs.of_types t u) z y there
        (record { stream = i; wanted = j; shapes = record { stream = si; wanted = rj }; named = n }))
        p
        (subst (λ (y : Shape). ReceivesAs T U y.kind j.kind v x) to_k
        (subst (λ (y : Shape). ReceivesAs T U k.kind y.kind v x) to_j q))

    one_as : {k l : Kind} {v w x : Tree} {b : List ℕ} → SpellsAs T k v b → KindsMatch k l → AreNamed ps k l
        → ReceivesAs T U k l v w → ReceivesAs T U k l v x → w ≡ x
    one_as h m n of_basics q = sym (of_basic q)
    one_as h m n of_opaques q = sym (of_opaque q)
    one_as (spelling.of_array c o hs) m n (of_arrays p) q = let r = of_array q in ap Value.many
        (one_each hs (n step.Element _ element_of_arrays) p r.2) ∙ sym r.1
    one_as (spelling.of_slice c hs) m n (of_slices p) q = let r = of_slice q in ap Value.many
        (one_each hs (n step.Element _ element_of_slices) p r.2) ∙ sym r.1
    one_as (spelling.of_map c hs) m n (of_maps p) q = let r = of_map q in ap Value.pairs
        (one_pairs hs (n step.Key _ key_of_maps) (n step.Element _ element_of_maps) p r.2) ∙ sym r.1
    one_as (spelling.of_struct hs) (structs d c) n (of_structs p) q =
        let r = of_struct q in
        ap Value.fields (one_fields d.in_stream hs
        (λ f k e g at there same. n (step.Named g.name) _
        (field_of_structs (record { number = f; field = e; there = at; named = same; typed = refl })
        (record { number = k; field = g; there = there; named = refl; typed = refl }))) p r.2)
        ∙ sym r.1

    one_each : {e f : TypeId} {vs ws xs : Trees} {b : List ℕ} → SpellsEach T e vs b → Contains ps (pairs.of_types e f)
        → ReceivesEach T U e f vs ws → ReceivesEach T U e f vs xs → ws ≡ xs
    one_each hs there no_element no_element = refl
    one_each (spelling.element h hs) there (element p qs) (element r rs) = let a = one h there p r in let b = one_each
        hs there qs rs in cc

    one_pairs : {k l e f : TypeId} {es ws xs : Pairs} {b : List ℕ} → SpellsPairs T k e es b
        → Contains ps (pairs.of_types k l) → Contains ps (pairs.of_types e f) → ReceivesPairs T U k l e f es ws
        → ReceivesPairs T U k l e f es xs
        → ws ≡ xs
    one_pairs hs key elem no_entry no_entry = refl
    one_pairs (spelling.entry g h hs) key elem (entry o p qs) (entry r s ts) = let a = one g key o r in let b = one h
        elem p s in let c = one_pairs hs key elem qs ts in cc

    one_fields : {types : List Field} {fs : Fields} {b : List ℕ} {n : ℕ} {wanted : List Field} {ws xs : Fields}
        → ¬ RepeatsName types → SpellsFields T types 0 fs b
        → ((f k : ℕ) (e g : Field) → slice_get types f ≡ Some e → slice_get wanted k ≡ Some g → e.name ≡ g.name
        → Contains ps (pairs.of_types e.id g.id)) → ReceivesFields T U types fs n wanted ws
        → ReceivesFields T U types fs n wanted xs
        → ws ≡ xs
    one_fields d hs lead no_more no_more = refl
    one_fields d hs lead (absent a p) (absent c q) = one_fields d hs
        (λ f k e g at there same. lead f (suc k) e g at there same) p q
    one_fields d hs lead (absent a p) (received r g q) = absurd (a _ _ r)
    one_fields d hs lead (received r g p) (absent a q) = absurd (a _ _ r)
    one_fields {n = n} d hs lead (received {t = t} {v = v} {w = w} r g p)
        (received {g = h} {t = s} {v = y} {w = z} o i q) =
        let same = same_present d hs r o in
        let f = present_fits hs r.present r.there in
        let a : w ≡ z = one (subst (λ t. Spells T t v f.bytes) r.typed f.spelled)
        (subst (λ t. Contains ps (pairs.of_types t h.id)) r.typed (lead r.number 0 r.type h r.there refl r.named))
        g
        (subst (λ t. Receives T U t h.id v z) (sym same.types)
        (subst (λ v. Receives T U s h.id v z) (sym same.values) i)) in
        let b = one_fields d hs (λ f k e g at there same. lead f (suc k) e g at there same) p q in
        cc
