-- What is written for a value spells it at each type that the value fits.
use Rattle.std.proofs.Common.{ℕ, ◌≤◌, List, sym, subst}
use Rattle.std.proofs.Math.Nat.{le_trans}
use Rattle.gob_num.specs.Unsigned.{IsUnsigned}
use Rattle.gob_types.specs.declared.id.TypeId.{TypeId}
use Rattle.gob_types.specs.declared.basic.Basic.TheVariants as basic
use Rattle.gob_types.specs.declared.kind.Field.{Field}
use Rattle.gob_types.specs.declared.kind.Kind.{Kind}
use Rattle.gob_types.specs.declared.kind.Kind.TheVariants as kind
use Rattle.gob_types.specs.declared.kind.Marshal.{Marshal}
use Rattle.gob_types.specs.Table.{Table}
use Rattle.gob_value.specs.Tree.{Tree, Trees, Pairs, Fields, depth}
use Rattle.gob_value.specs.Tree as Value
use Rattle.gob_value.specs.Spelling.{Spells, of_type, SpellsAs, of_bool, of_int, of_uint, of_float, of_complex, of_nil}
use Rattle.gob_value.specs.Spelling.{of_bytes, of_text, of_opaque, of_slice, of_array, of_map, of_struct, SpellsEach}
use Rattle.gob_value.specs.Spelling.{no_element, element, SpellsPairs, no_entry, entry, SpellsFields, end_of_fields}
use Rattle.gob_value.specs.Spelling.{next_field}
use Rattle.gob_value.specs.Within.{FitsWithin, IsSpelledWithin}
use Rattle.gob_value.specs.Written.{WrittenBytes, counted, Written, WrittenEach, WrittenPairs, WrittenFields}
use Rattle.gob_value.specs.Written as written

bytes_as : {T : Table} {s b : List ℕ} → WrittenBytes s b → SpellsAs T (kind.Basic basic.Bytes) (Value.bytes s) b
bytes_as (counted p) = of_bytes p

text_as : {T : Table} {s b : List ℕ} → WrittenBytes s b → SpellsAs T (kind.Basic basic.Str) (Value.text s) b
text_as (counted p) = of_text p

opaque_as : {T : Table} {m : Marshal} {s b : List ℕ} → WrittenBytes s b → SpellsAs T (kind.Opaque m) (Value.opaque s) b
opaque_as (counted p) = of_opaque p

mutual
  -- a value that fits is spelled by what is written for it
  pub written_spells : {T : Table} {t : TypeId} {v : Tree} {b c : List ℕ} → Spells T t v c → Written v b
      → Spells T t v b
  written_spells (of_type e q) p = of_type e (written_as q p)

  pub written_as : {T : Table} {k : Kind} {v : Tree} {b c : List ℕ} → SpellsAs T k v c → Written v b → SpellsAs T k v b
  written_as (of_bool q) (written.of_bool p) = of_bool p
  written_as (of_int q) (written.of_int p) = of_int p
  written_as (of_uint q) (written.of_uint p) = of_uint p
  written_as (of_float q) (written.of_float p) = of_float p
  written_as (of_complex q r) (written.of_complex p o) = of_complex p o
  written_as (of_nil q) (written.of_nil p) = of_nil p
  written_as (of_bytes q) (written.of_bytes p) = bytes_as p
  written_as (of_text q) (written.of_text p) = text_as p
  written_as (of_opaque q) (written.of_opaque p) = opaque_as p
  written_as (of_slice q qs) (written.of_many p ps) = of_slice p (written_each qs ps)
  written_as (of_array m q qs) (written.of_many {c = c} p ps) = of_array m (subst (λ n. IsUnsigned n c) m p)
      (written_each qs ps)
  written_as (of_map q qs) (written.of_pairs p ps) = of_map p (written_pairs qs ps)
  written_as (of_struct qs) (written.of_fields ps) = of_struct (written_fields qs ps)

  written_each : {T : Table} {e : TypeId} {vs : Trees} {b c : List ℕ} → SpellsEach T e vs c → WrittenEach vs b
      → SpellsEach T e vs b
  written_each no_element written.no_element = no_element
  written_each (element q qs) (written.element p ps) = element (written_spells q p) (written_each qs ps)

  written_pairs : {T : Table} {k e : TypeId} {es : Pairs} {b c : List ℕ} → SpellsPairs T k e es c → WrittenPairs es b
      → SpellsPairs T k e es b
  written_pairs no_entry written.no_entry = no_entry
  written_pairs (entry q r qs) (written.entry p o ps) = entry (written_spells q p) (written_spells r o)
      (written_pairs qs ps)

  written_fields : {T : Table} {types : List Field} {next : ℕ} {fs : Fields} {b c : List ℕ}
      → SpellsFields T types next fs c → WrittenFields next fs b → SpellsFields T types next fs b
  written_fields (end_of_fields q) (written.end_of_fields p) = end_of_fields p
  written_fields (next_field l m q r qs) (written.next_field n p o ps) = next_field l m p (written_spells r o)
      (written_fields qs ps)

mutual
  -- a spelling is what is written
  pub spells_written : {T : Table} {t : TypeId} {v : Tree} {b : List ℕ} → Spells T t v b → Written v b
  spells_written (of_type e q) = as_written q

  pub as_written : {T : Table} {k : Kind} {v : Tree} {b : List ℕ} → SpellsAs T k v b → Written v b
  as_written (of_bool p) = written.of_bool p
  as_written (of_int p) = written.of_int p
  as_written (of_uint p) = written.of_uint p
  as_written (of_float p) = written.of_float p
  as_written (of_complex p q) = written.of_complex p q
  as_written (of_nil p) = written.of_nil p
  as_written (of_bytes p) = written.of_bytes (counted p)
  as_written (of_text p) = written.of_text (counted p)
  as_written (of_opaque p) = written.of_opaque (counted p)
  as_written (of_slice p ps) = written.of_many p (each_written ps)
  as_written (of_array {c = c} m p ps) = written.of_many (subst (λ n. IsUnsigned n c) (sym m) p) (each_written ps)
  as_written (of_map p ps) = written.of_pairs p (pairs_written ps)
  as_written (of_struct ps) = written.of_fields (fields_written ps)

  each_written : {T : Table} {e : TypeId} {vs : Trees} {b : List ℕ} → SpellsEach T e vs b → WrittenEach vs b
  each_written no_element = written.no_element
  each_written (element p ps) = written.element (spells_written p) (each_written ps)

  pairs_written : {T : Table} {k e : TypeId} {es : Pairs} {b : List ℕ} → SpellsPairs T k e es b → WrittenPairs es b
  pairs_written no_entry = written.no_entry
  pairs_written (entry p q ps) = written.entry (spells_written p) (spells_written q) (pairs_written ps)

  fields_written : {T : Table} {types : List Field} {next : ℕ} {fs : Fields} {b : List ℕ}
      → SpellsFields T types next fs b → WrittenFields next fs b
  fields_written (end_of_fields p) = written.end_of_fields p
  fields_written (next_field l m p q ps) = written.next_field l p (spells_written q) (fields_written ps)

-- a value that fits some type can be written
pub fits_writable : {T : Table} {t : TypeId} {limit : ℕ} {v : Tree} → FitsWithin T t limit v → limit ≤ 1000
    → IsSpelledWithin Written depth 1000 v
fits_writable f l = record { bytes = f.bytes; spelled = spells_written f.spelled; within = le_trans f.within l }
