-- A skeleton and which of its nils are filled, by numbers. For private clauses.
use Rattle.std.specs.Prelude.{◌≡◌, ◌+◌, ◌-◌, ◌<◌, ◌≤◌, ℕ, suc, List, [], ◌∷◌, ◌++◌, length, take, drop, Option}
use Rattle.std.specs.Prelude.{None, Some}
use Rattle.gob_num.specs.Unsigned.{IsUnsigned}
use Rattle.gob_types.specs.declared.id.TypeId.{TypeId}
use Rattle.gob_types.specs.Table.{Table}
use Rattle.gob_value.specs.Tree.{Tree}
use Rattle.gob_value.specs.Top.{SpellsTop}
use Rattle.gob_read.specs.Calls.Builders.{check_building}
use Rattle.gob_read.specs.Calls.UnderWay.{HasReadBody}
use Rattle.gob_read.specs.Calls.UpToNil.{NoNilBegun}
use Rattle.gob_read.specs.declared.check_builder.CheckBuilder.{CheckBuilder}
use Rattle.gob_read.specs.declared.check_builder.Counts.{Counts}
use Rattle.gob_read.specs.declared.reader.BodyReader.{BodyReader}
use Rattle.gob_filled_match.specs.Received.{IsBeforeNil}
use Rattle.gob_filled_match.specs.declared.taking.FilledNil.{FilledNil}
use Rattle.gob_filled_match.specs.declared.taking.Skeleton.{Skeleton}

-- behind the bytes `done` of a skeleton, what is left of it is the second bytes, without the numbers at these nils
pub data HasNumbers (Before : List ℕ → Type 0) : (done left : List ℕ) → List FilledNil → List ℕ → Type 0 where
  none_left : {done left : List ℕ} → HasNumbers Before done left [] left
  number_next : {nil : FilledNil} {nils : List FilledNil} {done left a ms : List ℕ} (c : List ℕ) → Before (done ++ c)
      → nil.place ≡ length (done ++ c) → IsUnsigned nil.number a
      → HasNumbers Before (done ++ (c ++ 0 ∷ [])) left nils ms
      → HasNumbers Before done (c ++ 0 ∷ left) (nil ∷ nils) (c ++ (a ++ ms))

-- the skeleton spells a value of the type, and with its numbers these bytes
pub record TakesNumbers (U : Table) (u : TypeId) (skeleton : Skeleton) (numbered : List ℕ) : Type 0 where
  pub value : Tree
  pub spelled : SpellsTop U u value skeleton.bytes.items
  pub numbers : HasNumbers (IsBeforeNil U u) [] skeleton.bytes.items skeleton.nils.items numbered

-- ---- under way

-- the reader has read the bytes of the skeleton so far, with which the numbered ones come up to this place
pub record StandsInNumbers (U : Table) (u : TypeId) (numbered : List ℕ) (at : ℕ)
    (reader : BodyReader CheckBuilder Counts) (skeleton : Skeleton) : Type 0 where
  pub read : HasReadBody check_building U u 65536 (length skeleton.bytes.items + (length numbered - at)) reader
      skeleton.bytes.items
  pub clear : NoNilBegun U reader
  pub inside : at ≤ length numbered
  pub short : length skeleton.bytes.items ≤ at

abbrev pub StandsSomewhere : Table → (numbered : List ℕ) → (at : ℕ) → BodyReader CheckBuilder Counts → Skeleton → Type 0
StandsSomewhere U numbered at reader skeleton = (u : TypeId) × StandsInNumbers U u numbered at reader skeleton

-- from this place of the numbered bytes up to the other, these bytes came to the skeleton, and these nils
pub record GoesOn (U : Table) (u : TypeId) (numbered : List ℕ) (at behind : ℕ) (old new : Skeleton) : Type 0 where
  pub more : List ℕ
  pub more_nils : List FilledNil
  pub bytes : new.bytes.items ≡ old.bytes.items ++ more
  pub nils : new.nils.items ≡ old.nils.items ++ more_nils
  pub numbers : (left : List ℕ) (nils : List FilledNil)
      → HasNumbers (IsBeforeNil U u) new.bytes.items left nils (drop behind numbered)
      → HasNumbers (IsBeforeNil U u) old.bytes.items (more ++ left) (more_nils ++ nils) (drop at numbered)

-- so up to the end of both, where the skeleton spells a value of the type
pub record EndsSkeleton (U : Table) (u : TypeId) (numbered : List ℕ) (at : ℕ) (old new : Skeleton) : Type 0 where
  pub more : List ℕ
  pub more_nils : List FilledNil
  pub bytes : new.bytes.items ≡ old.bytes.items ++ more
  pub nils : new.nils.items ≡ old.nils.items ++ more_nils
  pub numbers : HasNumbers (IsBeforeNil U u) old.bytes.items more more_nils (drop at numbered)
  pub value : Tree
  pub spelled : SpellsTop U u value new.bytes.items

-- wherever it stood
abbrev pub TakesAll : Table → (numbered : List ℕ) → (at : ℕ) → BodyReader CheckBuilder Counts → (old new : Skeleton)
    → Type 0
TakesAll U numbered at reader old new = (u : TypeId) → StandsInNumbers U u numbered at reader old
    → EndsSkeleton U u numbered at old new

pub record TakesOn (U : Table) (u : TypeId) (numbered : List ℕ) (at behind : ℕ) (old new : Skeleton)
    (reader : BodyReader CheckBuilder Counts) : Type 0 where
  pub on : GoesOn U u numbered at behind old new
  pub stands : StandsInNumbers U u numbered behind reader new

abbrev pub TakesSo : Table → TypeId → (numbered : List ℕ) → (at : ℕ) → (old new : Skeleton)
    → BodyReader CheckBuilder Counts → Option ℕ → Type 0
TakesSo U u numbered at old new reader None = EndsSkeleton U u numbered at old new
TakesSo U u numbered at old new reader (Some behind) = TakesOn U u numbered at behind old new reader

abbrev pub TakesNil : Table → (numbered : List ℕ) → (at : ℕ) → (reader reader' : BodyReader CheckBuilder Counts)
    → (old new : Skeleton) → Option ℕ → Type 0
TakesNil U numbered at reader reader' old new found = (u : TypeId) → StandsInNumbers U u numbered at reader old
    → TakesSo U u numbered at old new reader' found

-- a nil at the place is filled with what has the number, or with nothing where that is 0
pub data AddsNil (place : ℕ) : ℕ → (old new : List FilledNil) → Type 0 where
  adds_none : {old : List FilledNil} → AddsNil place 0 old old
  adds_filled : {k : ℕ} {old : List FilledNil}
      → AddsNil place (suc k) old (old ++ record { place = place; number = suc k } ∷ [])

-- these bytes up to a nil and the number that stands there were taken, with nil in its place
pub record TakesNumber (numbered : List ℕ) (at used behind : ℕ) (old new : Skeleton) : Type 0 where
  pub number : ℕ
  pub spelled : List ℕ
  pub is : IsUnsigned number spelled
  pub rest : drop at numbered ≡ take used (drop at numbered) ++ (spelled ++ drop behind numbered)
  pub onward : at + used < behind
  pub inside : behind ≤ length numbered
  pub bytes : new.bytes.items ≡ old.bytes.items ++ (take used (drop at numbered) ++ 0 ∷ [])
  pub nils : AddsNil (length (old.bytes.items ++ take used (drop at numbered))) number old.nils.items new.nils.items
