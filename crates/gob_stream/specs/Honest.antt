-- The place of a refusal is honest in a stream: where what stands behind a type number is refused, what the bytes
-- behind it begin, those before the place and those that show the refusal. (docs/FORMAT.md, Refusals: the place of a
-- refusal is honest.)
use Rattle.std.specs.Prelude.{◌≡◌, ℕ, pos, negsuc, ◌+◌, ◌-◌, ◌≤◌, List, ◌++◌, length, Result, Ok, Err}
use Rattle.gob_num.specs.Unsigned.{IsUnsigned}
use Rattle.gob_num.specs.Signed.{IsSigned}
use Rattle.gob_types.specs.declared.id.TypeId.{TypeId}
use Rattle.gob_types.specs.Table.{Table}
use Rattle.gob_types.specs.Base.{base_table, wire_type}
use Rattle.gob_read.specs.Refusal as body
use Rattle.gob_read.specs.Honest as body_honest
use Rattle.gob_stream.specs.declared.fault.Refusal.{Refusal}
use Rattle.gob_stream.specs.declared.fault.Fault.{Fault}
use Rattle.gob_stream.specs.declared.fault.Fault.TheVariants as fault
use Rattle.gob_stream.specs.Bounds.{Bounds}
use Rattle.gob_stream.specs.Item.{StreamItem}
use Rattle.gob_stream.specs.Stream.{Stream}
use Rattle.gob_stream.specs.Outcome.{Outcome, refused}

-- the bytes are the number behind which a value of the type stands: that of the type itself, or of a definition
pub data SpellsTypeNumber : TypeId → List ℕ → Type 0 where
  of_value : {t : TypeId} {a : List ℕ} → IsSigned (pos t.0) a → SpellsTypeNumber t a
  of_definition : {n : ℕ} {a : List ℕ} → IsSigned (negsuc n) a → SpellsTypeNumber wire_type a

-- the bytes are the stream of the items, and behind it the count and the type number of an item, and z of what follows
-- these
pub record HasTypeNumber (L : Bounds) (bytes : List ℕ) (items : List StreamItem) (T : Table) (t : TypeId) (z : List ℕ) :
    Type 0 where
  pub prefix : List ℕ
  pub count : List ℕ
  pub number : List ℕ
  pub size : ℕ
  pub stream : Stream base_table L items prefix T
  pub counted : IsUnsigned size count
  pub numbered : SpellsTypeNumber t number
  pub whole : bytes ≡ prefix ++ (count ++ (number ++ z))

-- where that begins
abbrev pub value_at : {L : Bounds} {bytes : List ℕ} {items : List StreamItem} {T : Table} {t : TypeId} {z : List ℕ}
    → HasTypeNumber L bytes items T t z → ℕ
value_at h = length h.prefix + length h.count + length h.number

-- the refusal, counted from there
abbrev pub from : ℕ → Refusal → body.Refusal
from start R = record { place = R.place - start; seen = R.seen - start; reason = R.reason }

-- what is refused behind a type number is refused honestly
pub record IsHonest (L : Bounds) (bytes : List ℕ) (items : List StreamItem) (R : Refusal) : Type 0 where
  pub each : (T : Table) (t : TypeId) (z : List ℕ) (h : HasTypeNumber L bytes items T t z) → value_at h ≤ R.place
      → body_honest.IsHonestBody T t L.depth z (from (value_at h) R)

-- the refusal of each outcome is honest
abbrev pub OutcomesAreHonest : Type 0
OutcomesAreHonest = (L : Bounds) (bytes : List ℕ) (items : List StreamItem) (R : Refusal)
    → Outcome base_table L bytes items (refused R) → IsHonest L bytes items R

-- what a call answers: this holds of the refusal, if there is one
abbrev pub OfRefusal : {A : Type 0} → (Refusal → Type 0) → Result A Fault → Type 0
OfRefusal why (Ok _) = Unit {0}
OfRefusal why (Err (fault.Refused R)) = why R
OfRefusal why (Err fault.Read) = Unit {0}
OfRefusal why (Err fault.Memory) = Unit {0}
OfRefusal why (Err fault.Failed) = Unit {0}
