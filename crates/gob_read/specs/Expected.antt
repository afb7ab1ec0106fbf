-- What the next bytes of a value are: a number, of which not all may be allowed, or so many raw bytes.
-- (Go's encoding/gob documentation, Encoding Details; docs/FORMAT.md, Refusals.)
use Rattle.std.specs.Prelude.{◌≡◌, ℕ, ◌<◌, ◌≤◌, List, length}
use Rattle.gob_num.specs.Unsigned.{IsUnsignedPrefix}
use Rattle.gob_types.specs.declared.basic.Basic.TheVariants as basic
use Rattle.gob_types.specs.declared.kind.Kind.{Kind}
use Rattle.gob_types.specs.declared.kind.Kind.TheVariants as kind
use Rattle.gob_types.specs.declared.reason.Reason.{Reason}
use Rattle.gob_types.specs.declared.reason.Reason.TheVariants as reason

-- which numbers are allowed
pub data Allowed : Type 0 where
  any : Allowed
  tag : Allowed
  truth_value : Allowed
  array_count : ℕ → Allowed
  delta : ℕ → Allowed
  nil : Allowed

pub data Expected : Type 0 where
  a_number : Allowed → Expected
  raw : ℕ → Expected

abbrev pub Allows : Allowed → ℕ → Type 0
Allows any n = Unit {0}
Allows tag n = n ≡ 0
Allows truth_value n = n ≤ 1
Allows (array_count len) n = n ≡ len
Allows (delta most) n = n ≤ most
Allows nil n = n ≡ 0

-- the reason for a number that isn't allowed (of `any` there is none such)
abbrev pub reason_of : Allowed → Reason
reason_of any = reason.BadHead
reason_of tag = reason.SingleTag
reason_of truth_value = reason.Bool
reason_of (array_count len) = reason.ArrayCount
reason_of (delta most) = reason.FieldNumber
reason_of nil = reason.InterfaceValue

-- the first number of a kind: a truth value, a count, the first delta, ..
abbrev pub first_allowed : Kind → Allowed
first_allowed (kind.Basic basic.Bool) = truth_value
first_allowed (kind.Basic basic.Interface) = nil
first_allowed (kind.Basic _) = any
first_allowed (kind.Array elem len) = array_count len
first_allowed (kind.Slice elem) = any
first_allowed (kind.Struct fields) = delta (length fields)
first_allowed (kind.Map key elem) = any
first_allowed (kind.Opaque marshal) = any

-- the bytes end before what is expected does
pub data EndsWithin : Expected → List ℕ → Type 0 where
  within_number : {a : Allowed} {r : List ℕ} → IsUnsignedPrefix r → EndsWithin (a_number a) r
  within_raw : {n : ℕ} {r : List ℕ} → length r < n → EndsWithin (raw n) r
