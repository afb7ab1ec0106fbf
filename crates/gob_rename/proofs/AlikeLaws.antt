-- Tables whose shapes differ in the names of fields alone: a value has the same bytes by both.
use Rattle.std.proofs.Common.{◌≡◌, ℕ, List, Some, refl, sym, ◌∙◌, subst}
use Rattle.std.specs.Prelude.{slice_get}
use Rattle.gob_types.specs.declared.id.TypeId.{TypeId}
use Rattle.gob_types.specs.declared.kind.Field.{Field}
use Rattle.gob_types.specs.declared.kind.Kind.{Kind}
use Rattle.gob_types.specs.declared.kind.Kind.TheVariants as kind
use Rattle.gob_types.specs.declared.kind.Shape.{Shape}
use Rattle.gob_types.specs.Table.{Table, shape_of}
use Rattle.gob_types.specs.Ready.{Names, Leads, here, onward, HasRank, plain, filled}
use Rattle.gob_types.specs.Ready.{IsFilledArray, IsReady}
use Rattle.gob_value.specs.Tree.{Tree, Trees, Pairs, Fields}
use Rattle.gob_value.specs.Spelling.{Spells, of_type, SpellsAs, of_bool, of_int, of_uint, of_float, of_complex, of_nil}
use Rattle.gob_value.specs.Spelling.{of_bytes, of_text, of_opaque, of_slice, of_array, of_map, of_struct, SpellsEach}
use Rattle.gob_value.specs.Spelling.{no_element, element, SpellsPairs, no_entry, entry, SpellsFields, end_of_fields}
use Rattle.gob_value.specs.Spelling.{next_field}
use Rattle.gob_value.specs.Top.{IsStruct, SpellsTop, at_once, tagged}

-- each field of the first has one of its type in the second, of the same number
pub record FieldsFollow (fields others : List Field) : Type 0 where
  pub each : (number : ℕ) (f : Field) → slice_get fields number ≡ Some f
      → (g : Field) × (slice_get others number ≡ Some g) × (g.id ≡ f.id)

-- the kinds are one, or structs of such fields
pub data KindFollows : Kind → Kind → Type 0 where
  one_kind : {k : Kind} → KindFollows k k
  structs : {fs gs : List Field} → FieldsFollow fs gs → KindFollows (kind.Struct fs) (kind.Struct gs)

-- a shape of the type in the second table
pub record ShapeFollows (U : Table) (t : TypeId) (k : Kind) : Type 0 where
  pub shape : Shape
  pub there : shape_of U t ≡ Some shape
  pub kinds : KindFollows k shape.kind

-- each type of the first table has a shape in the second that follows its own
pub record Follows (T U : Table) : Type 0 where
  pub each : (t : TypeId) (s : Shape) → shape_of T t ≡ Some s → ShapeFollows U t s.kind

-- ---- the types that are reached
pub named_follows : {k l : Kind} (w : TypeId) → KindFollows k l → Names k w → Names l w
named_follows w one_kind n = n
named_follows w (structs f) n =
    let g = f.each n.number n.field n.there in
    record { number = n.number; field = g.0; there = g.1; type = g.2 ∙ n.type }

leads_follow : {T U : Table} {n : ℕ} {t u : TypeId} → Follows T U → Leads T n t u → Leads U n t u
leads_follow f here = here
leads_follow f (onward {t = t} {w = w} {s = s} e n l) =
    let g = f.each t s e in onward g.there (named_follows w g.kinds n) (leads_follow f l)

unfilled_follows : {k l : Kind} → KindFollows k l → ¬ IsFilledArray k → ¬ IsFilledArray l
unfilled_follows one_kind n = n
unfilled_follows (structs f) n = n

array_follows : {k l : Kind} {e : TypeId} {n : ℕ} → KindFollows k l → k ≡ kind.Array e n → l ≡ kind.Array e n
array_follows one_kind e = e
array_follows (structs f) e = absurd (cc e)

rank_follows : {T U : Table} {r : ℕ} {t : TypeId} → Follows T U → HasRank T r t → HasRank U r t
rank_follows f (plain {t = t} {s = s} e p) =
    let g = f.each t s e in plain g.there (unfilled_follows g.kinds p)
rank_follows f (filled {t = t} {s = s} e k p h) =
    let g = f.each t s e in filled g.there (array_follows g.kinds k) p (rank_follows f h)

pub ready_follows : {T U : Table} {t : TypeId} → Follows T U → Follows U T → IsReady T t → IsReady U t
ready_follows f back r u h =
    let b = r u (record { steps = h.steps; leads = leads_follow back h.leads }) in
    let g = f.each u b.0.0 b.0.1 in
    ((g.shape, g.there), record { rank = b.1.rank; has = rank_follows f b.1.has })

-- ---- spellings
same_fields : (fields : List Field) → FieldsFollow fields fields
same_fields fields = record { each = λ number f there. (f, there, refl) }

mutual
  pub spells_follow : {T U : Table} {t : TypeId} {v : Tree} {b : List ℕ} → Follows T U → Spells T t v b → Spells U t v b
  spells_follow f (of_type {t = t} {s = s} e p) = let g = f.each t s e in of_type g.there (as_follows f g.kinds p)

  as_follows : {T U : Table} {k l : Kind} {v : Tree} {b : List ℕ} → Follows T U → KindFollows k l → SpellsAs T k v b
      → SpellsAs U l v b
  as_follows f one_kind (of_bool p) = of_bool p
  as_follows f one_kind (of_int p) = of_int p
  as_follows f one_kind (of_uint p) = of_uint p
  as_follows f one_kind (of_float p) = of_float p
  as_follows f one_kind (of_complex p q) = of_complex p q
  as_follows f one_kind (of_nil p) = of_nil p
  as_follows f one_kind (of_bytes p) = of_bytes p
  as_follows f one_kind (of_text p) = of_text p
  as_follows f one_kind (of_opaque p) = of_opaque p
  as_follows f one_kind (of_slice p ps) = of_slice p (each_follows f ps)
  as_follows f one_kind (of_array n p ps) = of_array n p (each_follows f ps)
  as_follows f one_kind (of_map p ps) = of_map p (pairs_follow f ps)
  as_follows f one_kind (of_struct {types = types} ps) = of_struct (fields_follow f (same_fields types) ps)
  as_follows f (structs g) (of_struct ps) = of_struct (fields_follow f g ps)

  each_follows : {T U : Table} {e : TypeId} {vs : Trees} {b : List ℕ} → Follows T U → SpellsEach T e vs b
      → SpellsEach U e vs b
  each_follows f no_element = no_element
  each_follows f (element p ps) = element (spells_follow f p) (each_follows f ps)

  pairs_follow : {T U : Table} {k e : TypeId} {ps : Pairs} {b : List ℕ} → Follows T U → SpellsPairs T k e ps b
      → SpellsPairs U k e ps b
  pairs_follow f no_entry = no_entry
  pairs_follow f (entry p q ps) = entry (spells_follow f p) (spells_follow f q) (pairs_follow f ps)

  fields_follow : {T U : Table} {types others : List Field} {next : ℕ} {fs : Fields} {b : List ℕ} → Follows T U
      → FieldsFollow types others → SpellsFields T types next fs b → SpellsFields U others next fs b
  fields_follow f g (end_of_fields p) = end_of_fields p
  fields_follow {U = U} f g (next_field {f = number} {e = e} {v = v} {b = b} l m p q ps) =
      let h = g.each number e m in
      next_field l h.1 p (subst (λ (t : TypeId). Spells U t v b) (sym h.2) (spells_follow f q)) (fields_follow f g ps)

struct_follows : {k l : Kind} → KindFollows k l → IsStruct k → IsStruct l
struct_follows one_kind i = i
struct_follows (structs f) i = tt

no_struct_follows : {k l : Kind} → KindFollows k l → ¬ IsStruct k → ¬ IsStruct l
no_struct_follows one_kind n = n
no_struct_follows (structs f) n = n

pub top_follows : {T U : Table} {t : TypeId} {v : Tree} {b : List ℕ} → Follows T U → SpellsTop T t v b
    → SpellsTop U t v b
top_follows f (at_once {t = t} {s = s} e i p) =
    let g = f.each t s e in at_once g.there (struct_follows g.kinds i) (spells_follow f p)
top_follows f (tagged {t = t} {s = s} e n p) =
    let g = f.each t s e in tagged g.there (no_struct_follows g.kinds n) (spells_follow f p)
