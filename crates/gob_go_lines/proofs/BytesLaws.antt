-- What JSON says consists of bytes.
use Rattle.std.proofs.Common.{◌≡◌, Bool, ℕ, ◌<◌, ℤ, List, [], ◌∷◌, ◌++◌, Some, arith, refl}
use Rattle.serde_json.specs.Data.{Data}
use Rattle.gob_num.specs.Unsigned.{AreBytes}
use Rattle.gob_num.specs.Signed.{IsSigned, not_negative, negative}
use Rattle.gob_num.proofs.PublicLaws.{bytes-append, unsigned_bytes}
use Rattle.gob_types.specs.declared.id.TypeId.{TypeId}
use Rattle.gob_types.specs.declared.kind.Field.{Field}
use Rattle.gob_types.specs.declared.kind.Kind.{Kind}
use Rattle.gob_types.specs.Table.{Table}
use Rattle.gob_value.proofs.BytesLaws.{spelled_bytes}
use Rattle.gob_go.specs.Machine.WholeFilled.{IsOfKind}
use Rattle.gob_go.proofs.WholeFilledSteps.{spelled_as}
use Rattle.gob_go_lines.specs.Says.{Says, of_type, SaysAs, of_basic, of_opaque, of_slice, of_array, of_map, of_struct}
use Rattle.gob_go_lines.specs.Says.{of_held, SaysTop, at_once, tagged, SaysEach, no_element, element, SaysPairs}
use Rattle.gob_go_lines.specs.Says.{no_entry, entry, SaysFields, end_of_fields, next_field}

signed_bytes : {i : ℤ} {b : List ℕ} → IsSigned i b → AreBytes b
signed_bytes (not_negative p) = unsigned_bytes p
signed_bytes (negative p) = unsigned_bytes p

mutual
  part_bytes : {T : Table} {H : Bool} {u : TypeId} {limit : ℕ} {j : Data} {b : List ℕ} → Says T H u limit j b
      → AreBytes b
  part_bytes {u = u} (of_type {s = s} found some h) = kind_bytes u (s, found, refl) h

  kind_bytes : {T : Table} {H : Bool} {k : Kind} {limit : ℕ} {j : Data} {b : List ℕ} (u : TypeId) → IsOfKind T u k
      → SaysAs T H k limit j b → AreBytes b
  kind_bytes u is (of_basic p o is_json) = (spelled_bytes (spelled_as {u = u} is p)).1 o
  kind_bytes u is (of_opaque {c = c} s o p) = bytes-append c s (unsigned_bytes p) o
  kind_bytes u is (of_slice {c = c} {b = b} p h) = bytes-append c b (unsigned_bytes p) (each_bytes h)
  kind_bytes u is (of_array {c = c} {b = b} same p h) = bytes-append c b (unsigned_bytes p) (each_bytes h)
  kind_bytes u is (of_map {c = c} {b = b} p h) = bytes-append c b (unsigned_bytes p) (entries_bytes h)
  kind_bytes u is (of_struct h) = fields_bytes h
  kind_bytes u is (of_held {a = a} {n = n} {c = c} {b = b} name in_go o more p may q i h r) =
      bytes-append a (name ++ (n ++ (c ++ b))) (unsigned_bytes p)
      (bytes-append name (n ++ (c ++ b)) o
      (bytes-append n (c ++ b) (signed_bytes q) (bytes-append c b (unsigned_bytes r) (top_bytes h))))

  pub top_bytes : {T : Table} {H : Bool} {t : TypeId} {limit : ℕ} {j : Data} {b : List ℕ} → SaysTop T H t limit j b
      → AreBytes b
  top_bytes (at_once found is h) = part_bytes h
  top_bytes (tagged found isnt h) = (omega arith, part_bytes h)

  each_bytes : {T : Table} {H : Bool} {e : TypeId} {limit : ℕ} {js : List Data} {b : List ℕ} → SaysEach T H e limit js b
      → AreBytes b
  each_bytes no_element = tt
  each_bytes (element {b = b} {c = c} h k) = bytes-append b c (part_bytes h) (each_bytes k)

  entries_bytes : {T : Table} {H : Bool} {k e : TypeId} {limit : ℕ} {js : List Data} {b : List ℕ}
      → SaysPairs T H k e limit js b
      → AreBytes b
  entries_bytes no_entry = tt
  entries_bytes (entry {a = a} {b = b} {c = c} g h k) =
      bytes-append a (b ++ c) (part_bytes g) (bytes-append b c (part_bytes h) (entries_bytes k))

  fields_bytes : {T : Table} {H : Bool} {types : List Field} {next limit : ℕ} {js : List Data} {b : List ℕ}
      → SaysFields T H types next limit js b → AreBytes b
  fields_bytes (end_of_fields p) = unsigned_bytes p
  fields_bytes (next_field {a = a} {b = b} {c = c} order here p q h k) =
      bytes-append a (b ++ c) (unsigned_bytes p) (bytes-append b c (part_bytes h) (fields_bytes k))
