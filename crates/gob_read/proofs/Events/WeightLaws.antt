-- A value's weight is at most the length of its spelling: each part costs a byte at least, each raw byte costs one.
use Rattle.std.proofs.Common.{ℕ, ℤ, ◌+◌, ◌<◌, ◌≤◌, List, ◌++◌, length, arith, length-append}
use Rattle.gob_num.specs.Unsigned.{IsUnsigned}
use Rattle.gob_num.specs.Signed.{IsSigned, not_negative, negative}
use Rattle.gob_num.specs.Pattern.{IsPattern}
use Rattle.gob_num.proofs.PublicLaws.{unsigned_length}
use Rattle.gob_types.specs.declared.id.TypeId.{TypeId}
use Rattle.gob_types.specs.declared.kind.Field.{Field}
use Rattle.gob_types.specs.declared.kind.Kind.{Kind}
use Rattle.gob_types.specs.Table.{Table}
use Rattle.gob_value.specs.Tree.{Tree, Trees, Pairs, Fields}
use Rattle.gob_value.specs.Spelling.{Spells, of_type, SpellsAs, of_bool, of_int, of_uint, of_float, of_complex, of_nil}
use Rattle.gob_value.specs.Spelling.{of_bytes, of_text, of_opaque, of_slice, of_array, of_map, of_struct, SpellsEach}
use Rattle.gob_value.specs.Spelling.{no_element, element, SpellsPairs, no_entry, entry, SpellsFields, end_of_fields}
use Rattle.gob_value.specs.Spelling.{next_field}
use Rattle.gob_value.specs.Top.{SpellsTop, at_once, tagged}
use Rattle.gob_read.specs.Weight.{parts_of_all, parts_of_pairs, parts_of_fields, raw_of_all, raw_of_pairs}
use Rattle.gob_read.specs.Weight.{raw_of_fields, weight}

some : {n : ℕ} {b : List ℕ} → IsUnsigned n b → 0 < length b
some u = (unsigned_length u).0

some_signed : {i : ℤ} {b : List ℕ} → IsSigned i b → 0 < length b
some_signed (not_negative u) = some u
some_signed (negative u) = some u

some_pattern : {p : ℕ} {b : List ℕ} → IsPattern p b → 0 < length b
some_pattern s = some s.spelled

mutual
  pub weight_within : {T : Table} {t : TypeId} {v : Tree} {b : List ℕ} → Spells T t v b → weight v ≤ length b
  weight_within (of_type k s) = weight_as s

  weight_as : {T : Table} {k : Kind} {v : Tree} {b : List ℕ} → SpellsAs T k v b → weight v ≤ length b
  weight_as (of_bool u) = omega (arith, some u)
  weight_as (of_int i) = omega (arith, some_signed i)
  weight_as (of_uint u) = omega (arith, some u)
  weight_as (of_float p) = omega (arith, some_pattern p)
  weight_as (of_complex {b = b} {c = c} p q) = omega (arith, some_pattern p, length-append b c)
  weight_as (of_nil u) = omega (arith, some u)
  weight_as (of_bytes {s = s} {c = c} u) = omega (arith, some u, length-append c s)
  weight_as (of_text {s = s} {c = c} u) = omega (arith, some u, length-append c s)
  weight_as (of_opaque {s = s} {c = c} u) = omega (arith, some u, length-append c s)
  weight_as (of_slice {c = c} {b = b} u s) = omega (arith, some u, each_within s, length-append c b)
  weight_as (of_array {c = c} {b = b} m u s) = omega (arith, some u, each_within s, length-append c b)
  weight_as (of_map {c = c} {b = b} u s) = omega (arith, some u, pairs_within s, length-append c b)
  weight_as (of_struct s) = omega (arith, fields_within s)

  pub each_within : {T : Table} {e : TypeId} {vs : Trees} {b : List ℕ} → SpellsEach T e vs b
      → parts_of_all vs + raw_of_all vs ≤ length b
  each_within no_element = omega arith
  each_within (element {b = b} {c = c} s r) = omega (arith, weight_within s, each_within r, length-append b c)

  pub pairs_within : {T : Table} {k e : TypeId} {ps : Pairs} {b : List ℕ} → SpellsPairs T k e ps b
      → parts_of_pairs ps + raw_of_pairs ps ≤ length b
  pairs_within no_entry = omega arith
  pairs_within (entry {a = a} {b = b} {c = c} s r p) = omega (
    arith,
    weight_within s,
    weight_within r,
    pairs_within p,
    length-append a (b ++ c),
    length-append b c,
  )

  -- and the 0 at the end
  fields_within : {T : Table} {types : List Field} {next : ℕ} {fs : Fields} {b : List ℕ}
      → SpellsFields T types next fs b → parts_of_fields fs + raw_of_fields fs + 1 ≤ length b
  fields_within (end_of_fields u) = omega (arith, some u)
  fields_within (next_field {a = a} {b = b} {c = c} l g u s r) = omega (
    arith,
    weight_within s,
    fields_within r,
    length-append a (b ++ c),
    length-append b c,
  )

-- with the tag of a value that is no struct
pub weight_within_top : {T : Table} {t : TypeId} {v : Tree} {b : List ℕ} → SpellsTop T t v b → weight v ≤ length b
weight_within_top (at_once k i s) = weight_within s
weight_within_top (tagged k i s) = omega (arith, weight_within s)
