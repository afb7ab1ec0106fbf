-- What is spelled stays spelled when the table grows, and a ready type gets no other spellings.
use Rattle.std.proofs.Common.{ℕ, inl, inr, List, refl}
use Rattle.gob_types.specs.declared.id.TypeId.{TypeId}
use Rattle.gob_types.specs.declared.kind.Field.{Field}
use Rattle.gob_types.specs.declared.kind.Kind.{Kind}
use Rattle.gob_types.specs.declared.kind.Kind.TheVariants as kind
use Rattle.gob_types.specs.Table.{Table}
use Rattle.gob_types.specs.Ready.{Names, IsReady}
use Rattle.gob_types.proofs.PublicLaws.{Keeps, shape_back, names_ready}
use Rattle.gob_value.specs.Tree.{Tree, Trees, Pairs, Fields}
use Rattle.gob_value.specs.Spelling.{Spells, of_type, SpellsAs, of_bool, of_int, of_uint, of_float, of_complex, of_nil}
use Rattle.gob_value.specs.Spelling.{of_bytes, of_text, of_opaque, of_slice, of_array, of_map, of_struct, SpellsEach}
use Rattle.gob_value.specs.Spelling.{no_element, element, SpellsPairs, no_entry, entry, SpellsFields, end_of_fields}
use Rattle.gob_value.specs.Spelling.{next_field}
use Rattle.gob_value.specs.Top.{SpellsTop, at_once, tagged}

mutual
  -- a spelling is one in the larger table
  pub spells_on : {T U : Table} {t : TypeId} {v : Tree} {b : List ℕ} → Keeps T U → Spells T t v b → Spells U t v b
  spells_on s (of_type e p) = of_type (s.shape _ _ e) (as_on s p)

  pub as_on : {T U : Table} {k : Kind} {v : Tree} {b : List ℕ} → Keeps T U → SpellsAs T k v b → SpellsAs U k v b
  as_on s (of_bool p) = of_bool p
  as_on s (of_int p) = of_int p
  as_on s (of_uint p) = of_uint p
  as_on s (of_float p) = of_float p
  as_on s (of_complex p q) = of_complex p q
  as_on s (of_nil p) = of_nil p
  as_on s (of_bytes p) = of_bytes p
  as_on s (of_text p) = of_text p
  as_on s (of_opaque p) = of_opaque p
  as_on s (of_slice p ps) = of_slice p (each_on s ps)
  as_on s (of_array n p ps) = of_array n p (each_on s ps)
  as_on s (of_map p ps) = of_map p (pairs_on s ps)
  as_on s (of_struct ps) = of_struct (fields_on s ps)

  pub each_on : {T U : Table} {e : TypeId} {vs : Trees} {b : List ℕ} → Keeps T U → SpellsEach T e vs b
      → SpellsEach U e vs b
  each_on s no_element = no_element
  each_on s (element p ps) = element (spells_on s p) (each_on s ps)

  pub pairs_on : {T U : Table} {k e : TypeId} {ps : Pairs} {b : List ℕ} → Keeps T U → SpellsPairs T k e ps b
      → SpellsPairs U k e ps b
  pairs_on s no_entry = no_entry
  pairs_on s (entry p q ps) = entry (spells_on s p) (spells_on s q) (pairs_on s ps)

  pub fields_on : {T U : Table} {types : List Field} {next : ℕ} {fs : Fields} {b : List ℕ} → Keeps T U
      → SpellsFields T types next fs b → SpellsFields U types next fs b
  fields_on s (end_of_fields p) = end_of_fields p
  fields_on s (next_field l m p q ps) = next_field l m p (spells_on s q) (fields_on s ps)

-- each type that the shape names is ready
pub record AllReady (T : Table) (k : Kind) : Type 0 where
  pub each : (w : TypeId) → Names k w → IsReady T w

mutual
  -- and one of a ready type there is one here
  pub spells_back : {T U : Table} {t : TypeId} {v : Tree} {b : List ℕ} → Keeps T U → IsReady T t → Spells U t v b
      → Spells T t v b
  spells_back s r (of_type e p) =
      let f = shape_back s r e in
      of_type f (as_back s (record { each = λ w n. names_ready r f n }) p)

  pub as_back : {T U : Table} {k : Kind} {v : Tree} {b : List ℕ} → Keeps T U → AllReady T k → SpellsAs U k v b
      → SpellsAs T k v b
  as_back s r (of_bool p) = of_bool p
  as_back s r (of_int p) = of_int p
  as_back s r (of_uint p) = of_uint p
  as_back s r (of_float p) = of_float p
  as_back s r (of_complex p q) = of_complex p q
  as_back s r (of_nil p) = of_nil p
  as_back s r (of_bytes p) = of_bytes p
  as_back s r (of_text p) = of_text p
  as_back s r (of_opaque p) = of_opaque p
  as_back s r (of_slice {e = e} p ps) = of_slice p (each_back s (r.each e refl) ps)
  as_back s r (of_array {e = e} n p ps) = of_array n p (each_back s (r.each e refl) ps)
  as_back s r (of_map {k = k} {e = e} p ps) = of_map p (pairs_back s (r.each k (inl refl)) (r.each e (inr refl)) ps)
  as_back s r (of_struct ps) = of_struct (fields_back s r ps)

  pub each_back : {T U : Table} {e : TypeId} {vs : Trees} {b : List ℕ} → Keeps T U → IsReady T e → SpellsEach U e vs b
      → SpellsEach T e vs b
  each_back s r no_element = no_element
  each_back s r (element p ps) = element (spells_back s r p) (each_back s r ps)

  pub pairs_back : {T U : Table} {k e : TypeId} {ps : Pairs} {b : List ℕ} → Keeps T U → IsReady T k → IsReady T e
      → SpellsPairs U k e ps b → SpellsPairs T k e ps b
  pairs_back s r q no_entry = no_entry
  pairs_back s r q (entry p o ps) = entry (spells_back s r p) (spells_back s q o) (pairs_back s r q ps)

  pub fields_back : {T U : Table} {types : List Field} {next : ℕ} {fs : Fields} {b : List ℕ} → Keeps T U
      → AllReady T (kind.Struct types) → SpellsFields U types next fs b → SpellsFields T types next fs b
  fields_back s r (end_of_fields p) = end_of_fields p
  fields_back s r (next_field {f = f} {e = e} l m p q ps) =
      next_field l m p (spells_back s (r.each e.id (record { number = f; field = e; there = m; type = refl })) q)
      (fields_back s r ps)

-- top-level spellings stay in a table that keeps the types
pub top_on : {T U : Table} {t : TypeId} {v : Tree} {b : List ℕ} → Keeps T U → SpellsTop T t v b → SpellsTop U t v b
top_on s (at_once e i p) = at_once (s.shape _ _ e) i (spells_on s p)
top_on s (tagged e n p) = tagged (s.shape _ _ e) n (spells_on s p)

pub top_back : {T U : Table} {t : TypeId} {v : Tree} {b : List ℕ} → Keeps T U → IsReady T t → SpellsTop U t v b
    → SpellsTop T t v b
top_back s r (at_once e i p) = at_once (shape_back s r e) i (spells_back s r p)
top_back s r (tagged e n p) = tagged (shape_back s r e) n (spells_back s r p)
