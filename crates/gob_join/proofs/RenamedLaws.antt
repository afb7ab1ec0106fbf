-- What is spelled of a type is spelled of the one that stands for it.
use Rattle.std.proofs.Common.{◌≡◌, ℕ, zero, suc, List, Some, refl, sym, subst, ◌∙◌}
use Rattle.std.specs.Prelude.{slice_get}
use Rattle.gob_types.specs.declared.id.TypeId.{TypeId}
use Rattle.gob_types.specs.declared.kind.Field.{Field}
use Rattle.gob_types.specs.declared.kind.Kind.{Kind}
use Rattle.gob_types.specs.declared.kind.Shape.{Shape}
use Rattle.gob_types.specs.Table.{Table}
use Rattle.gob_types.proofs.PublicLaws.{some_injective}
use Rattle.gob_value.specs.Tree.{Tree, Trees, Pairs, Fields}
use Rattle.gob_value.specs.Spelling.{Spells, of_type, SpellsAs, of_bool, of_int, of_uint, of_float, of_complex, of_nil}
use Rattle.gob_value.specs.Spelling.{of_bytes, of_text, of_opaque, of_slice, of_array, of_map, of_struct, SpellsEach}
use Rattle.gob_value.specs.Spelling.{no_element, element, SpellsPairs, no_entry, entry, SpellsFields, end_of_fields}
use Rattle.gob_value.specs.Spelling.{next_field}
use Rattle.gob_value.specs.Top.{IsStruct, SpellsTop, at_once, tagged}
use Rattle.gob_join.specs.Renaming.{AreRenamedFields, no_field, field_then, IsRenamedField, IsRenamedKind, IsRenaming}
use Rattle.gob_join.specs.Renaming as renamed
use Rattle.gob_join.specs.Renaming.{NewId, StandsFor}

-- the field that stands at the place of another
record FieldThere (R : NewId) (gs : List Field) (place : ℕ) (f : Field) : Type 0 where
  pub field : Field
  pub there : slice_get gs place ≡ Some field
  pub is : IsRenamedField R f field

field_there : {R : NewId} {fs gs : List Field} (place : ℕ) {f : Field} → AreRenamedFields R fs gs
    → slice_get fs place ≡ Some f → FieldThere R gs place f
field_there place no_field e = absurd (cc e)
field_there {R = R} zero (field_then {g = g} h hs) e =
    record { field = g; there = refl; is = subst (λ f. IsRenamedField R f g) (some_injective e) h }
field_there (suc place) (field_then h hs) e =
    let r = field_there place hs e in record { field = r.field; there = r.there; is = r.is }

mutual
  pub spells_renamed : {R : NewId} {T U : Table} {t u : TypeId} {v : Tree} {b : List ℕ} → IsRenaming R T U
      → R t ≡ Some u → Spells T t v b → Spells U u v b
  spells_renamed {R = R} {u = u} r e (of_type {t = t} {s = s} {v = v} {b = b} f p) =
      let st : StandsFor R _ _ t u = r.each t u e in
      let same : st.shape ≡ s = some_injective (sym st.found ∙ f) in
      of_type st.stands (as_renamed r (subst (λ (s : Shape). IsRenamedKind R s.kind st.new.kind) same
      st.renamed.kind) p)

  as_renamed : {R : NewId} {T U : Table} {k l : Kind} {v : Tree} {b : List ℕ} → IsRenaming R T U
      → IsRenamedKind R k l → SpellsAs T k v b → SpellsAs U l v b
  as_renamed r renamed.of_basic (of_bool p) = of_bool p
  as_renamed r renamed.of_basic (of_int p) = of_int p
  as_renamed r renamed.of_basic (of_uint p) = of_uint p
  as_renamed r renamed.of_basic (of_float p) = of_float p
  as_renamed r renamed.of_basic (of_complex p q) = of_complex p q
  as_renamed r renamed.of_basic (of_nil p) = of_nil p
  as_renamed r renamed.of_basic (of_bytes p) = of_bytes p
  as_renamed r renamed.of_basic (of_text p) = of_text p
  as_renamed r renamed.of_opaque (of_opaque p) = of_opaque p
  as_renamed r (renamed.of_slice e) (of_slice p ps) = of_slice p (each_renamed r e ps)
  as_renamed r (renamed.of_array e) (of_array n p ps) = of_array n p (each_renamed r e ps)
  as_renamed r (renamed.of_map d e) (of_map p ps) = of_map p (pairs_renamed r d e ps)
  as_renamed r (renamed.of_struct fs) (of_struct ps) = of_struct (fields_renamed r fs ps)

  each_renamed : {R : NewId} {T U : Table} {e u : TypeId} {vs : Trees} {b : List ℕ} → IsRenaming R T U
      → R e ≡ Some u → SpellsEach T e vs b → SpellsEach U u vs b
  each_renamed r e no_element = no_element
  each_renamed r e (element p ps) = element (spells_renamed r e p) (each_renamed r e ps)

  pairs_renamed : {R : NewId} {T U : Table} {k l e u : TypeId} {ps : Pairs} {b : List ℕ} → IsRenaming R T U
      → R k ≡ Some l → R e ≡ Some u → SpellsPairs T k e ps b → SpellsPairs U l u ps b
  pairs_renamed r d e no_entry = no_entry
  pairs_renamed r d e (entry p q ps) = entry (spells_renamed r d p) (spells_renamed r e q) (pairs_renamed r d e ps)

  fields_renamed : {R : NewId} {T U : Table} {types new : List Field} {next : ℕ} {fs : Fields} {b : List ℕ}
      → IsRenaming R T U → AreRenamedFields R types new → SpellsFields T types next fs b → SpellsFields U new next fs b
  fields_renamed r a (end_of_fields p) = end_of_fields p
  fields_renamed r a (next_field {f = f} l m p q ps) =
      let there = field_there f a m in
      next_field l there.there p (spells_renamed r there.is.type q) (fields_renamed r a ps)

-- the values of both kinds are structs, or of neither
struct_renamed : {R : NewId} {k l : Kind} → IsRenamedKind R k l → IsStruct k → IsStruct l
struct_renamed (renamed.of_struct fs) i = tt
struct_renamed renamed.of_basic i = i
struct_renamed renamed.of_opaque i = i
struct_renamed (renamed.of_slice e) i = i
struct_renamed (renamed.of_array e) i = i
struct_renamed (renamed.of_map d e) i = i

no_struct_renamed : {R : NewId} {k l : Kind} → IsRenamedKind R k l → IsStruct l → IsStruct k
no_struct_renamed (renamed.of_struct fs) i = tt
no_struct_renamed renamed.of_basic i = i
no_struct_renamed renamed.of_opaque i = i
no_struct_renamed (renamed.of_slice e) i = i
no_struct_renamed (renamed.of_array e) i = i
no_struct_renamed (renamed.of_map d e) i = i

pub top_renamed : {R : NewId} {T U : Table} {t u : TypeId} {v : Tree} {b : List ℕ} → IsRenaming R T U
    → R t ≡ Some u → SpellsTop T t v b → SpellsTop U u v b
top_renamed {R = R} {u = u} r e (at_once {t = t} {s = s} f i p) =
    let st : StandsFor R _ _ t u = r.each t u e in
    let same : st.shape ≡ s = some_injective (sym st.found ∙ f) in
    at_once st.stands (struct_renamed st.renamed.kind (subst (λ (s : Shape). IsStruct s.kind) (sym same) i))
    (spells_renamed r e p)
top_renamed {R = R} {u = u} r e (tagged {t = t} {s = s} f n p) =
    let st : StandsFor R _ _ t u = r.each t u e in
    let same : st.shape ≡ s = some_injective (sym st.found ∙ f) in
    tagged st.stands (λ i. n (subst (λ (s : Shape). IsStruct s.kind) same (no_struct_renamed st.renamed.kind i)))
    (spells_renamed r e p)
