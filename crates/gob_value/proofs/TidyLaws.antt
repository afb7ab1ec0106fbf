-- The tidy form of a value that fits its type: there is one, it is one alone, its own tidy form, and no deeper.
use Rattle.std.proofs.Common.{◌≡◌, ℕ, zero, pos, ◌≤◌, ◌⊎◌, inl, inr, false, List, [], Some}
use Rattle.std.proofs.Common.{arith, refl, sym, ap, ◌∙◌, subst}
use Rattle.std.specs.Prelude.{slice_get}
use Rattle.gob_types.specs.declared.id.TypeId.{TypeId}
use Rattle.gob_types.specs.declared.kind.Field.{Field}
use Rattle.gob_types.specs.declared.kind.Kind.{Kind}
use Rattle.gob_types.specs.declared.kind.Kind.TheVariants as kind
use Rattle.gob_types.specs.declared.kind.Shape.{Shape}
use Rattle.gob_types.specs.Table.{Table, shape_of}
use Rattle.gob_types.proofs.PublicLaws.{some_injective}
use Rattle.gob_value.specs.Tree.{Tree, Trees, no_tree, tree, Pairs, no_pair, pair, Fields, no_field, field, depth}
use Rattle.gob_value.specs.Tree.{trees_depth, pairs_depth, fields_depth}
use Rattle.gob_value.specs.Tree as Value
use Rattle.gob_value.specs.Spelling as spelling
use Rattle.gob_value.specs.Spelling.{Spells, SpellsAs, SpellsEach, SpellsPairs, SpellsFields}
use Rattle.gob_value.specs.Tidy.{IsZero, IsDropped, zero_basic, empty_slice, Tidies, of_type, TidiesAs, of_basic}
use Rattle.gob_value.specs.Tidy.{of_opaque, of_slice, of_array, of_map, of_struct, TidiesEach, no_element, element}
use Rattle.gob_value.specs.Tidy.{TidiesPairs, no_entry, entry, TidiesFields, no_more, dropped, kept, HasTidyForm}
use Rattle.gob_value.specs.Tidy as tidy

-- ---- whether a field is dropped can be told

abbrev Told : Type 0 → Type 0
Told P = P ⊎ (¬ P)

zero_told : (v : Tree) → Told (IsZero v)
zero_told (Value.bool false) = inl tidy.of_bool
zero_told (Value.int (pos zero)) = inl tidy.of_int
zero_told (Value.uint zero) = inl tidy.of_uint
zero_told (Value.float zero) = inl tidy.of_float
zero_told (Value.complex zero zero) = inl tidy.of_complex
zero_told (Value.bytes []) = inl tidy.of_bytes
zero_told (Value.text []) = inl tidy.of_text
zero_told _ = inr (λ z. elim z [ ])

dropped_told : (k : Kind) (v : Tree) → Told (IsDropped k v)
dropped_told (kind.Basic b) v = elim (zero_told v) [ inl z ↦ inl (zero_basic z) | inr n ↦ inr (λ d. n (zero d)) ]
  where
    zero : {v : Tree} → IsDropped (kind.Basic b) v → IsZero v
    zero (zero_basic z) = z
dropped_told (kind.Slice e) (Value.many no_tree) = inl empty_slice
dropped_told _ _ = inr (λ d. elim d [ ])

-- ---- a value that fits has a tidy form

mutual
  pub tidy_form : {T : Table} {t : TypeId} {v : Tree} {b : List ℕ} → Spells T t v b → HasTidyForm (Tidies T t v)
  tidy_form (spelling.of_type e p) = let r = tidy_form_as p in record { tidy = r.tidy; tidies = of_type e r.tidies }

  tidy_form_as : {T : Table} {k : Kind} {v : Tree} {b : List ℕ} → SpellsAs T k v b → HasTidyForm (TidiesAs T k v)
  tidy_form_as {v = v} (spelling.of_opaque p) = record { tidy = v; tidies = of_opaque (λ h. h) }
  tidy_form_as (spelling.of_slice p ps) = let r = tidy_forms ps in record
      { tidy = Value.many r.tidy; tidies = of_slice r.tidies }
  tidy_form_as (spelling.of_array m p ps) = let r = tidy_forms ps in record
      { tidy = Value.many r.tidy; tidies = of_array r.tidies }
  tidy_form_as (spelling.of_map p ps) = let r = tidy_pairs ps in record
      { tidy = Value.pairs r.tidy; tidies = of_map r.tidies }
  tidy_form_as (spelling.of_struct ps) = let r = tidy_fields ps in record
      { tidy = Value.fields r.tidy; tidies = of_struct r.tidies }
  tidy_form_as {v = v} _ = record { tidy = v; tidies = of_basic (λ h. h) }

  tidy_forms : {T : Table} {e : TypeId} {vs : Trees} {b : List ℕ} → SpellsEach T e vs b
      → HasTidyForm (TidiesEach T e vs)
  tidy_forms spelling.no_element = record { tidy = no_tree; tidies = no_element }
  tidy_forms (spelling.element p ps) = let r = tidy_form p in let rs = tidy_forms ps in record
      { tidy = tree r.tidy rs.tidy; tidies = element r.tidies rs.tidies }

  tidy_pairs : {T : Table} {k e : TypeId} {ps : Pairs} {b : List ℕ} → SpellsPairs T k e ps b
      → HasTidyForm (TidiesPairs T k e ps)
  tidy_pairs spelling.no_entry = record { tidy = no_pair; tidies = no_entry }
  tidy_pairs (spelling.entry p q ps) =
      let r = tidy_form p in let s = tidy_form q in let rs = tidy_pairs ps in
      record { tidy = pair r.tidy s.tidy rs.tidy; tidies = entry r.tidies s.tidies rs.tidies }

  tidy_fields : {T : Table} {types : List Field} {next : ℕ} {fs : Fields} {b : List ℕ} → SpellsFields T types next fs b
      → HasTidyForm (TidiesFields T types fs)
  tidy_fields (spelling.end_of_fields p) = record { tidy = no_field; tidies = no_more }
  tidy_fields {fs = field f v fs} (spelling.next_field l m p (spelling.of_type {s = s} e q) ps) =
      let r = tidy_form_as q in let rs = tidy_fields ps in
      elim (dropped_told s.kind v) [
        | inl d ↦ record { tidy = rs.tidy; tidies = dropped m e d rs.tidies }
        | inr n ↦ record { tidy = field f r.tidy rs.tidy; tidies = kept m e n r.tidies rs.tidies }
      ]

-- ---- the tidy form is one value alone

-- a field has one shape
pub same_shape : (T : Table) (types : List Field) (f : ℕ) {e g : Field} {s r : Shape} → slice_get types f ≡ Some e
    → slice_get types f ≡ Some g → shape_of T e.id ≡ Some s → shape_of T g.id ≡ Some r → r ≡ s
same_shape T types f {e = e} {g = g} m n p q = let one : g ≡ e = some_injective (sym n ∙ m) in some_injective
    (sym q ∙ ap (λ (e : Field). shape_of T e.id) one ∙ p)

mutual
  pub one_tidy : {T : Table} {t : TypeId} {v w x : Tree} → Tidies T t v w → Tidies T t v x → w ≡ x
  one_tidy {T = T} {v = v} {x = x} (of_type e p) (of_type f q) = one_tidy_as p
      (subst (λ (s : Shape). TidiesAs T s.kind v x) (some_injective (sym f ∙ e)) q)

  one_tidy_as : {T : Table} {k : Kind} {v w x : Tree} → TidiesAs T k v w → TidiesAs T k v x → w ≡ x
  one_tidy_as (of_basic n) (of_basic m) = refl
  one_tidy_as (of_opaque n) (of_opaque m) = refl
  one_tidy_as (of_slice ps) (of_slice qs) = ap Value.many (one_tidy_each ps qs)
  one_tidy_as (of_array ps) (of_array qs) = ap Value.many (one_tidy_each ps qs)
  one_tidy_as (of_map ps) (of_map qs) = ap Value.pairs (one_tidy_pairs ps qs)
  one_tidy_as (of_struct ps) (of_struct qs) = ap Value.fields (one_tidy_fields ps qs)

  one_tidy_each : {T : Table} {e : TypeId} {vs ws xs : Trees} → TidiesEach T e vs ws → TidiesEach T e vs xs → ws ≡ xs
  one_tidy_each no_element no_element = refl
  one_tidy_each (element p ps) (element q qs) = let h = one_tidy p q in let t = one_tidy_each ps qs in cc

  one_tidy_pairs : {T : Table} {k e : TypeId} {ps qs rs : Pairs} → TidiesPairs T k e ps qs → TidiesPairs T k e ps rs
      → qs ≡ rs
  one_tidy_pairs no_entry no_entry = refl
  one_tidy_pairs (entry p o ps) (entry q r qs) = let g = one_tidy p q in let h = one_tidy o r in let t = one_tidy_pairs
      ps qs in cc

  one_tidy_fields : {T : Table} {types : List Field} {fs gs hs : Fields} → TidiesFields T types fs gs
      → TidiesFields T types fs hs → gs ≡ hs
  one_tidy_fields no_more no_more = refl
  one_tidy_fields (dropped m p d ps) (dropped n q c qs) = one_tidy_fields ps qs
  one_tidy_fields {T = T} {types = types} {fs = field f v fs} (dropped m p d ps) (kept n q c w qs) = absurd
      (c (subst (λ (s : Shape). IsDropped s.kind v) (sym (same_shape T types f m n p q)) d))
  one_tidy_fields {T = T} {types = types} {fs = field f v fs} (kept m p c w ps) (dropped n q d qs) = absurd
      (c (subst (λ (s : Shape). IsDropped s.kind v) (same_shape T types f m n p q) d))
  one_tidy_fields {T = T} {types = types} {fs = field f v fs} (kept m p c o ps) (kept {w = x} n q d r qs) =
      let h = one_tidy_as o (subst (λ (s : Shape). TidiesAs T s.kind v x) (same_shape T types f m n p q) r) in
      let t = one_tidy_fields ps qs in cc

-- ---- it is its own tidy form

-- a field that is kept is one to keep when it is tidy
pub dropped_before : {T : Table} {k : Kind} {v w : Tree} → TidiesAs T k v w → IsDropped k w → IsDropped k v
dropped_before (of_basic n) d = d
dropped_before (of_opaque n) d = d
dropped_before (of_slice no_element) d = d
dropped_before _ d = elim d [ ]

mutual
  pub tidy_again : {T : Table} {t : TypeId} {v w : Tree} → Tidies T t v w → Tidies T t w w
  tidy_again (of_type e p) = of_type e (tidy_again_as p)

  tidy_again_as : {T : Table} {k : Kind} {v w : Tree} → TidiesAs T k v w → TidiesAs T k w w
  tidy_again_as (of_basic n) = of_basic n
  tidy_again_as (of_opaque n) = of_opaque n
  tidy_again_as (of_slice ps) = of_slice (tidy_again_each ps)
  tidy_again_as (of_array ps) = of_array (tidy_again_each ps)
  tidy_again_as (of_map ps) = of_map (tidy_again_pairs ps)
  tidy_again_as (of_struct ps) = of_struct (tidy_again_fields ps)

  tidy_again_each : {T : Table} {e : TypeId} {vs ws : Trees} → TidiesEach T e vs ws → TidiesEach T e ws ws
  tidy_again_each no_element = no_element
  tidy_again_each (element p ps) = element (tidy_again p) (tidy_again_each ps)

  tidy_again_pairs : {T : Table} {k e : TypeId} {ps qs : Pairs} → TidiesPairs T k e ps qs → TidiesPairs T k e qs qs
  tidy_again_pairs no_entry = no_entry
  tidy_again_pairs (entry p q ps) = entry (tidy_again p) (tidy_again q) (tidy_again_pairs ps)

  tidy_again_fields : {T : Table} {types : List Field} {fs gs : Fields} → TidiesFields T types fs gs
      → TidiesFields T types gs gs
  tidy_again_fields no_more = no_more
  tidy_again_fields (dropped m e d ps) = tidy_again_fields ps
  tidy_again_fields (kept m e n p ps) = kept m e (λ d. n (dropped_before p d)) (tidy_again_as p) (tidy_again_fields ps)

-- ---- and no deeper

mutual
  pub no_deeper : {T : Table} {t : TypeId} {v w : Tree} → Tidies T t v w → depth w ≤ depth v
  no_deeper (of_type e p) = no_deeper_as p

  no_deeper_as : {T : Table} {k : Kind} {v w : Tree} → TidiesAs T k v w → depth w ≤ depth v
  no_deeper_as (of_basic n) = omega arith
  no_deeper_as (of_opaque n) = omega arith
  no_deeper_as (of_slice ps) = omega (arith, each_no_deeper ps)
  no_deeper_as (of_array ps) = omega (arith, each_no_deeper ps)
  no_deeper_as (of_map ps) = omega (arith, pairs_no_deeper ps)
  no_deeper_as (of_struct ps) = omega (arith, fields_no_deeper ps)

  each_no_deeper : {T : Table} {e : TypeId} {vs ws : Trees} → TidiesEach T e vs ws → trees_depth ws ≤ trees_depth vs
  each_no_deeper no_element = omega arith
  each_no_deeper (element p ps) = omega (arith, no_deeper p, each_no_deeper ps)

  pairs_no_deeper : {T : Table} {k e : TypeId} {ps qs : Pairs} → TidiesPairs T k e ps qs
      → pairs_depth qs ≤ pairs_depth ps
  pairs_no_deeper no_entry = omega arith
  pairs_no_deeper (entry p q ps) = omega (arith, no_deeper p, no_deeper q, pairs_no_deeper ps)

  fields_no_deeper : {T : Table} {types : List Field} {fs gs : Fields} → TidiesFields T types fs gs
      → fields_depth gs ≤ fields_depth fs
  fields_no_deeper no_more = omega arith
  fields_no_deeper (dropped m e d ps) = omega (arith, fields_no_deeper ps)
  fields_no_deeper (kept m e n p ps) = omega (arith, no_deeper_as p, fields_no_deeper ps)
