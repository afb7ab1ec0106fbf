-- A spelling consists of bytes exactly where the byte strings in its value do.
use Rattle.std.proofs.Common.{ℕ, ◌<◌, List, [], ◌++◌, arith}
use Rattle.std.specs.Prelude.{◌↔◌}
use Rattle.gob_num.specs.Unsigned.{AreBytes}
use Rattle.gob_num.proofs.PublicLaws.{unsigned_bytes, signed_unsigned, pattern_unsigned, bytes-append, bytes_prefix}
use Rattle.gob_num.proofs.PublicLaws.{bytes_rest}
use Rattle.gob_types.specs.declared.id.TypeId.{TypeId}
use Rattle.gob_types.specs.declared.kind.Field.{Field}
use Rattle.gob_types.specs.declared.kind.Kind.{Kind}
use Rattle.gob_types.specs.Table.{Table}
use Rattle.gob_value.specs.Tree.{Tree, Trees, Pairs, Fields}
use Rattle.gob_value.specs.Bytes.{HoldsBytes, AllHoldBytes, PairsHoldBytes, FieldsHoldBytes}
use Rattle.gob_value.specs.Spelling.{Spells, of_type, SpellsAs, of_bool, of_int, of_uint, of_float, of_complex, of_nil}
use Rattle.gob_value.specs.Spelling.{of_bytes, of_text, of_opaque, of_slice, of_array, of_map, of_struct, SpellsEach}
use Rattle.gob_value.specs.Spelling.{no_element, element, SpellsPairs, no_entry, entry, SpellsFields, end_of_fields}
use Rattle.gob_value.specs.Spelling.{next_field}
use Rattle.gob_value.specs.Top.{SpellsTop, at_once, tagged}

-- these are bytes anyway
surely : (b : List ℕ) → AreBytes b → AreBytes b ↔ Unit {0}
surely b p = (λ _. tt, λ _. p)

-- so are those before
behind : (c b : List ℕ) {P : Type 0} → AreBytes c → AreBytes b ↔ P → AreBytes (c ++ b) ↔ P
behind c b p e = (λ q. e.0 (bytes_rest c b q), λ q. bytes-append c b p (e.1 q))

itself : (s : List ℕ) → AreBytes s ↔ AreBytes s
itself s = (λ p. p, λ p. p)

both : (b c : List ℕ) {P Q : Type 0} → AreBytes b ↔ P → AreBytes c ↔ Q → AreBytes (b ++ c) ↔ (P × Q)
both b c d e = (λ q. (d.0 (bytes_prefix b c q), e.0 (bytes_rest b c q)), λ q. bytes-append b c (d.1 q.0) (e.1 q.1))

three : (a b c : List ℕ) {P Q R : Type 0} → AreBytes a ↔ P → AreBytes b ↔ Q → AreBytes c ↔ R → AreBytes (a ++ (b ++ c))
    ↔ (P × Q × R)
three a b c d e f =
    let g = both b c e f in (
      λ q. let r = g.0 (bytes_rest a (b ++ c) q) in (d.0 (bytes_prefix a (b ++ c) q), r.0, r.1),
      λ q. bytes-append a
          (b ++ c) (d.1 q.0) (g.1 (q.1, q.2)),
    )

mutual
  pub spelled_bytes : {T : Table} {t : TypeId} {v : Tree} {b : List ℕ} → Spells T t v b → AreBytes b ↔ HoldsBytes v
  spelled_bytes (of_type e p) = bytes_as p

  bytes_as : {T : Table} {k : Kind} {v : Tree} {b : List ℕ} → SpellsAs T k v b → AreBytes b ↔ HoldsBytes v
  bytes_as (of_bool {b = b} p) = surely b (unsigned_bytes p)
  bytes_as (of_int {b = b} p) = surely b (unsigned_bytes (signed_unsigned p).1)
  bytes_as (of_uint {b = b} p) = surely b (unsigned_bytes p)
  bytes_as (of_float {b = b} p) = surely b (unsigned_bytes (pattern_unsigned p).1)
  bytes_as (of_complex {b = b} {c = c} p q) = surely (b ++ c)
      (bytes-append b c (unsigned_bytes (pattern_unsigned p).1) (unsigned_bytes (pattern_unsigned q).1))
  bytes_as (of_nil {b = b} p) = surely b (unsigned_bytes p)
  bytes_as (of_bytes {s = s} {c = c} p) = behind c s (unsigned_bytes p) (itself s)
  bytes_as (of_text {s = s} {c = c} p) = behind c s (unsigned_bytes p) (itself s)
  bytes_as (of_opaque {s = s} {c = c} p) = behind c s (unsigned_bytes p) (itself s)
  bytes_as (of_slice {c = c} {b = b} p ps) = behind c b (unsigned_bytes p) (bytes_each ps)
  bytes_as (of_array {c = c} {b = b} n p ps) = behind c b (unsigned_bytes p) (bytes_each ps)
  bytes_as (of_map {c = c} {b = b} p ps) = behind c b (unsigned_bytes p) (bytes_pairs ps)
  bytes_as (of_struct ps) = bytes_fields ps

  bytes_each : {T : Table} {e : TypeId} {vs : Trees} {b : List ℕ} → SpellsEach T e vs b → AreBytes b ↔ AllHoldBytes vs
  bytes_each no_element = surely [] tt
  bytes_each (element {b = b} {c = c} p ps) = both b c (spelled_bytes p) (bytes_each ps)

  bytes_pairs : {T : Table} {k e : TypeId} {ps : Pairs} {b : List ℕ} → SpellsPairs T k e ps b → AreBytes b
      ↔ PairsHoldBytes ps
  bytes_pairs no_entry = surely [] tt
  bytes_pairs (entry {a = a} {b = b} {c = c} p q ps) = three a b c (spelled_bytes p) (spelled_bytes q) (bytes_pairs ps)

  bytes_fields : {T : Table} {types : List Field} {next : ℕ} {fs : Fields} {b : List ℕ} → SpellsFields T types next fs b
      → AreBytes b ↔ FieldsHoldBytes fs
  bytes_fields (end_of_fields {b = b} p) = surely b (unsigned_bytes p)
  bytes_fields (next_field {a = a} {b = b} {c = c} l m p q ps) = behind a (b ++ c) (unsigned_bytes p)
      (both b c (spelled_bytes q) (bytes_fields ps))

pub top_bytes : {T : Table} {t : TypeId} {v : Tree} {b : List ℕ} → SpellsTop T t v b → AreBytes b ↔ HoldsBytes v
top_bytes (at_once e i p) = spelled_bytes p
top_bytes (tagged {b = b} e i p) =
    let q = spelled_bytes p in let small : 0 < 256 = omega arith in (λ r. q.0 r.1, λ r. (small, q.1 r))
