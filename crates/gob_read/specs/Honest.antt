-- The place of a refusal is honest: what the bytes before it begin, and those that show it.
-- (docs/FORMAT.md, Refusals: the place of a refusal is honest.)
use Rattle.std.specs.Prelude.{◌≡◌, ℕ, List, take}
use Rattle.gob_types.specs.declared.id.TypeId.{TypeId}
use Rattle.gob_types.specs.declared.reason.Reason.TheVariants as reason
use Rattle.gob_types.specs.Table.{Table}
use Rattle.gob_types.specs.Ready.{IsReady}
use Rattle.gob_read.specs.Refusal.{Refusal}
use Rattle.gob_read.specs.First.{IsFirst}
use Rattle.gob_read.specs.Begins.{BeginsValue, BeginsNone, BeginsOnlyDeep}
use Rattle.gob_read.specs.Laws.{IsOfNumber, HasCountedArrays}

-- z is what is there of a value of the type and its tag, whose parts may be no deeper than the limit
pub record IsHonestBody (T : Table) (t : TypeId) (limit : ℕ) (z : List ℕ) (R : Refusal) : Type 0 where
  -- where a number is refused, the bytes before it begin a value, and those up to its end begin none
  pub number : IsOfNumber R.reason → BeginsValue T t (take R.place z) × BeginsNone T t (take R.seen z)
  -- where a part is too deep, the bytes before it begin a value, and only values that are too deep
  pub deep : R.reason ≡ reason.TooDeep → BeginsValue T t (take R.place z) × BeginsOnlyDeep T t limit (take R.place z)

-- the refusal that is given is honest
abbrev pub FirstIsHonest : Type 0
FirstIsHonest = (T : Table) (t : TypeId) (limit announced : ℕ) (z : List ℕ) (R : Refusal) → HasCountedArrays T
    → IsReady T t → IsFirst T t limit announced z R → IsHonestBody T t limit z R
