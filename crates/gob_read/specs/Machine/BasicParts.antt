-- Parts of a basic type that stand whole in a piece, and are spelled by one number or by a count of bytes and the
-- bytes.
-- It describes the reader's stack.
use Rattle.std.specs.Prelude.{◌≡◌, ℕ, ◌+◌, ◌^◌, ◌<◌, ◌≤◌, List, [], ◌∷◌, length, take, drop, Option, Some, None}
use Rattle.std.specs.Prelude.{slice_get}
use Rattle.gob_types.specs.declared.id.TypeId.{TypeId}
use Rattle.gob_types.specs.declared.basic.Basic.{Basic}
use Rattle.gob_types.specs.declared.kind.Field.{Field}
use Rattle.gob_types.specs.declared.kind.Kind.TheVariants as kind
use Rattle.gob_types.specs.Table.{Table}
use Rattle.gob_read.specs.Event.{Event, number, raw_start, raw_more, leave, field}
use Rattle.gob_read.specs.Building.{TakesEvent}
use Rattle.gob_read.specs.Machine.Kinds.{IsScalar, IsRawKind}
use Rattle.gob_read.specs.Machine.Frames as Frames
use Rattle.gob_read.specs.Machine.Frames.{item_of}
use Rattle.gob_read.specs.Machine.Steps.{CanBegin, CanGoOn, StepGoesOn}
use Rattle.gob_read.specs.Machine.Running.{TakesMore, Steps, TakesSome}
use Rattle.gob_read.specs.declared.frame.Frame.{Frame}
use Rattle.gob_read.specs.declared.frame.Frame.TheVariants as frame
use Rattle.gob_read.specs.declared.next.Moved.{Moved}
use Rattle.gob_read.specs.declared.next.Moved.TheVariants.{ToNext}
use Rattle.gob_read.specs.declared.next.Next.TheVariants.{Number}
use Rattle.gob_read.specs.declared.next.NextNumber.TheVariants.{Part}
use Rattle.gob_read.specs.declared.event.RawKind.{RawKind}
use Rattle.gob_read.specs.declared.state.State.{State}
use Rattle.gob_read.specs.declared.run.Run.{Run}
use Rattle.gob_read.specs.declared.run.Advance.{Advance}
use Rattle.gob_read.specs.declared.basic_parts.Entered.{Entered}

-- a part of the basic type begins with this number, and these bytes stand behind it
pub record MayTakeBasic {X O : Type 0} (received : X → List Event → Type 0) (state : State X O) (basic : Basic) (n : ℕ)
    (more : List ℕ) : Type 0 where
  pub begins : CanBegin received state (λ k. k ≡ kind.Basic basic) n
  pub small : length begins.before + length begins.bytes + length more < 2 ^ 64

-- only the builder is another
pub record IsStateKept {X O : Type 0} (old new : State X O) : Type 0 where
  pub stack : new.stack ≡ old.stack
  pub expected : new.expected ≡ old.expected

-- the builder was told of the part that has this number and so many of the bytes behind it, or nothing was done
pub data TakesBasicEvents {X O : Type 0} (received : X → List Event → Type 0) (old new : State X O) (basic : Basic)
    (n : ℕ) (more : List ℕ) : Option ℕ → Type 0 where
  told_nothing : new ≡ old → TakesBasicEvents received old new basic n more None
  told_number : {a used : ℕ} → used ≡ 0 → IsScalar (kind.Basic basic) n basic a
      → TakesEvent received old.builder new.builder (number basic a 0) → IsStateKept old new
      → TakesBasicEvents received old new basic n more (Some used)
  told_bytes : {x : RawKind} {one two : X} {used : ℕ} → used ≡ n → IsRawKind (kind.Basic basic) x → 0 < n
      → n ≤ length more → TakesEvent received old.builder one (raw_start x)
      → TakesEvent received one two (raw_more (take n more))
      → TakesEvent received two new.builder leave → IsStateKept old new → TakesBasicEvents received old new basic n more
      (Some used)

-- the innermost open part is a struct of the type, of which a field before this one is read
abbrev pub IsInFields : TypeId → ℕ → List Frame → Type 0
IsInFields u next fs = slice_get fs 0 ≡ Some (frame.Fields u next)

-- the innermost open part is a list of elements of the type, of which so many are to come behind the one that is read
abbrev pub IsInList : TypeId → ℕ → List Frame → Type 0
IsInList e left fs = slice_get fs 0 ≡ Some (frame.Many e left)

-- it is a map of keys and elements, of which so many pairs are to come behind the one whose key is read
abbrev pub IsInMap : TypeId → TypeId → ℕ → List Frame → Type 0
IsInMap k e left fs = slice_get fs 0 ≡ Some (frame.Key k e left)

-- behind the part that is read, the innermost open part is this one
pub record IsFollowedBy (next : Frame) (fs : List Frame) : Type 0 where
  pub frame : Frame
  pub innermost : slice_get fs 0 ≡ Some frame
  pub goes_on : Frames.FrameGoesOn frame next

-- the reader has stepped over the bytes, and the next item begins behind them
pub record PassesParts (T : Table) {X O : Type 0} (received : X → List Event → Type 0) (old new : Run X O)
    (bytes : List ℕ) : Type 0 where
  pub more : TakesMore old new (length bytes)
  pub steps : Steps T received old new bytes ToNext
  pub fresh : new.start ≡ new.taken

-- the part was taken with so many bytes, and behind it the innermost open part is this one, or nothing was done
pub data TakesBasicPart (T : Table) {X O : Type 0} (received : X → List Event → Type 0) (old new : Run X O)
    (next : Frame) (rest : List ℕ) : ℕ → Type 0 where
  not_taken : new ≡ old → TakesBasicPart T received old new next rest 0
  part_taken : {used : ℕ} → 0 < used → used ≤ length rest → PassesParts T received old new (take used rest)
      → new.state.expected ≡ Number (item_of next) → new.state.stack ≡ next ∷ drop 1 old.state.stack
      → length new.state.stack ≡ length old.state.stack → TakesBasicPart T received old new next rest used

-- so much of the piece was taken, and the next item begins behind it, or nothing was done
pub data TakesBasicParts (T : Table) {X O : Type 0} (received : X → List Event → Type 0) (old new : Run X O)
    (rest : List ℕ) (s : Advance) : Type 0 where
  no_part_taken : s.used ≡ 0 → new ≡ old → TakesBasicParts T received old new rest s
  some_parts_taken : TakesSome T received old new rest s → new.start ≡ new.taken
      → TakesBasicParts T received old new rest s

-- the delta was taken, and a part of this type is expected in the struct
pub record EntersField (T : Table) {X O : Type 0} (received : X → List Event → Type 0) (old new : Run X O) (n : ℕ)
    (u : TypeId) (next : ℕ) (part : TypeId) : Type 0 where
  pub passes : PassesParts T received old new (n ∷ [])
  pub expected : new.state.expected ≡ Number (Part part)
  pub inside : IsInFields u next new.state.stack
  pub as_deep : length new.state.stack ≡ length old.state.stack

-- so many bytes lead to a field, or nothing was done
pub data TakesFieldDelta (T : Table) {X O : Type 0} (received : X → List Event → Type 0) (old new : Run X O) (n : ℕ)
    (u : TypeId) : Option Entered → Type 0 where
  not_named : new ≡ old → TakesFieldDelta T received old new n u None
  named : {e : Entered} → EntersField T received old new n u e.next e.part
      → TakesFieldDelta T received old new n u (Some e)

-- the number of the next field was told, and its part is expected
pub record NamesField {X O : Type 0} (received : X → List Event → Type 0) (old new : State X O) (u : TypeId)
    (number : ℕ) (part : TypeId) : Type 0 where
  pub stack : new.stack ≡ frame.Fields u (number + 1) ∷ drop 1 old.stack
  pub expected : new.expected ≡ Number (Part part)
  pub told : TakesEvent received old.builder new.builder (field number)

-- the delta 0 of the innermost open struct is to come
pub record CanEndFields {X O : Type 0} (received : X → List Event → Type 0) (state : State X O) : Type 0 where
  pub id : TypeId
  pub types : List Field
  pub next : ℕ
  pub goes_on : CanGoOn received state id types next 0

-- what comes behind it is settled
pub record EndsFields {X O : Type 0} (received : X → List Event → Type 0) (old new : State X O) (moved : Moved) : Type
    0 where
  pub each : (id : TypeId) (types : List Field) (next : ℕ) → StepGoesOn received old new id types next 0 moved
