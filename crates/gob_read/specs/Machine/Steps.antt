-- What a reader's stack and builder say of the bytes so far, and what its steps need and do.
-- It describes the reader's stack.
use Rattle.std.specs.Prelude.{◌≡◌, ◌≢◌, ℕ, ◌+◌, ◌-◌, ◌^◌, ◌<◌, ◌≤◌, List, [], ◌++◌, length, Result, Ok, Err}
use Rattle.gob_num.specs.Unsigned.{IsUnsigned}
use Rattle.gob_types.specs.declared.id.TypeId.{TypeId}
use Rattle.gob_types.specs.declared.kind.Field.{Field}
use Rattle.gob_types.specs.declared.kind.Kind.{Kind}
use Rattle.gob_types.specs.declared.kind.Kind.TheVariants as kind
use Rattle.gob_types.specs.declared.reason.Reason.{Reason}
use Rattle.gob_types.specs.declared.reason.Reason.TheVariants as reasons
use Rattle.gob_types.specs.declared.denial.Denial.{Denial}
use Rattle.gob_types.specs.Denial.{IsDenial}
use Rattle.gob_types.specs.Table.{Table}
use Rattle.gob_types.specs.Ready.{IsReady}
use Rattle.gob_value.specs.Tree.{Tree}
use Rattle.gob_value.specs.Top.{SpellsTop}
use Rattle.gob_read.specs.Expected.{Allowed, a_number, Allows, reason_of, first_allowed}
use Rattle.gob_read.specs.Expects.{ExpectsTop}
use Rattle.gob_read.specs.Event.{Event, HasEvents}
use Rattle.gob_read.specs.Machine.Kinds.{HasKind}
use Rattle.gob_read.specs.Machine.OpenPath.{OpenPath, OpenStruct, AtNext, PartDone}
use Rattle.gob_read.specs.declared.next.Moved.{Moved}
use Rattle.gob_read.specs.declared.next.Moved.TheVariants.{ToNext, PastValue}
use Rattle.gob_read.specs.declared.next.Next.TheVariants.{Number, Raw}
use Rattle.gob_read.specs.declared.next.NextNumber.{NextNumber}
use Rattle.gob_read.specs.declared.next.NextNumber.TheVariants.{Tag, Second}
use Rattle.gob_read.specs.declared.state.State.{State}

-- a part begins
pub record IsBegun (T : Table) (t : TypeId) {X O : Type 0} (received : X → List Event → Type 0) (state : State X O)
    (u : TypeId) (z : List ℕ) : Type 0 where
  pub us : List Event
  pub within : OpenPath T t state.stack z us u
  pub told : received state.builder us

-- the delta of a field is to come in a struct
pub record IsInStruct (T : Table) (t : TypeId) {X O : Type 0} (received : X → List Event → Type 0) (state : State X O)
    (u : TypeId) (types : List Field) (next : ℕ) (z : List ℕ) : Type 0 where
  pub us : List Event
  pub open_ : OpenStruct T t state.stack u types next z us
  pub told : received state.builder us

-- an item begins, or its bytes so far
pub record IsPlaced (T : Table) (t : TypeId) {X O : Type 0} (received : X → List Event → Type 0) (state : State X O)
    (p r : List ℕ) : Type 0 where
  pub us : List Event
  pub at : AtNext T t state.stack state.expected p r us
  pub told : received state.builder us

-- a part is whole
pub record IsEnded (T : Table) (t : TypeId) {X O : Type 0} (received : X → List Event → Type 0) (state : State X O)
    (z : List ℕ) : Type 0 where
  pub us : List Event
  pub completed : PartDone T t state.stack z us
  pub told : received state.builder us

-- the outermost part is whole
pub record IsRead (T : Table) (t : TypeId) {X O : Type 0} (received : X → List Event → Type 0) (state : State X O)
    (z : List ℕ) : Type 0 where
  pub us : List Event
  pub value : Tree
  pub spelled : SpellsTop T t value z
  pub tells : HasEvents value us
  pub told : received state.builder us

-- after a whole part: the body's value, or the next item
abbrev pub Settled : (T : Table) (t : TypeId) {X O : Type 0} (received : X → List Event → Type 0) (state : State X O)
    (z : List ℕ) → Moved → Type 0
Settled T t received state z PastValue = IsRead T t received state z
Settled T t received state z ToNext = IsPlaced T t received state z []

-- the bytes expect a number, and this one isn't allowed there
pub record IsDisallowed (T : Table) (t : TypeId) (p : List ℕ) (n : ℕ) (reason : Reason) : Type 0 where
  pub allowed : Allowed
  pub depth : ℕ
  pub expects : ExpectsTop T t p (a_number allowed) depth
  pub not_allowed : ¬ Allows allowed n
  pub reason_is : reason_of allowed ≡ reason

-- what a step answers: this holds of where it moved, or of the reason that denies it
abbrev pub TakesOrBlames : (Moved → Type 0) → (Reason → Type 0) → Result Moved Denial → Type 0
TakesOrBlames takes why (Ok moved) = takes moved
TakesOrBlames takes why (Err denial) = IsDenial why denial

-- a part was read, after fewer bytes than a count of 64 bits can tell
pub record CanEnd {X O : Type 0} (received : X → List Event → Type 0) (state : State X O) : Type 0 where
  pub table : Table
  pub type : TypeId
  pub bytes : List ℕ
  pub ended : IsEnded table type received state bytes
  pub small : length bytes < 2 ^ 64

-- where a part is whole, what comes behind it is settled
pub record StepEnds {X O : Type 0} (received : X → List Event → Type 0) (old new : State X O) (moved : Moved) : Type
    0 where
  pub each : (T : Table) (t : TypeId) (z : List ℕ) → IsEnded T t received old z → Settled T t received new z moved

-- a part of such a kind begins, and its first number is this
pub record CanBegin {X O : Type 0} (received : X → List Event → Type 0) (state : State X O) (IsOf : Kind → Type 0)
    (n : ℕ) : Type 0 where
  pub table : Table
  pub type : TypeId
  pub id : TypeId
  pub kind : Kind
  pub before : List ℕ
  pub bytes : List ℕ
  pub begun : IsBegun table type received state id before
  pub has : HasKind table id kind
  pub holds : IsOf kind
  pub spelled : IsUnsigned n bytes
  pub small : length (before ++ bytes) < 2 ^ 64

-- where a part of such a kind begins, what comes behind its first number is settled
pub record StepBegins {X O : Type 0} (received : X → List Event → Type 0) (old new : State X O) (IsOf : Kind → Type 0)
    (n : ℕ) (moved : Moved) : Type 0 where
  pub each : (T : Table) (t u : TypeId) (k : Kind) (p c : List ℕ) → IsBegun T t received old u p → HasKind T u k
      → IsOf k → IsUnsigned n c → Settled T t received new (p ++ c) moved

-- a struct of the type and these fields begins, and its first delta is this
pub record CanBeginStruct {X O : Type 0} (received : X → List Event → Type 0) (state : State X O) (id : TypeId)
    (types : List Field) (n : ℕ) : Type 0 where
  pub table : Table
  pub type : TypeId
  pub before : List ℕ
  pub bytes : List ℕ
  pub begun : IsBegun table type received state id before
  pub has : HasKind table id (kind.Struct types)
  pub spelled : IsUnsigned n bytes
  pub small : length (before ++ bytes) < 2 ^ 64

-- where such a struct begins, what comes behind its first delta is settled
pub record BeginsStruct {X O : Type 0} (received : X → List Event → Type 0) (old new : State X O) (id : TypeId)
    (types : List Field) (n : ℕ) (moved : Moved) : Type 0 where
  pub each : (T : Table) (t : TypeId) (p c : List ℕ) → IsBegun T t received old id p → HasKind T id (kind.Struct types)
      → IsUnsigned n c → Settled T t received new (p ++ c) moved

-- a part of the kind doesn't begin with the number
pub record IsNoFirst (k : Kind) (n : ℕ) (reason : Reason) : Type 0 where
  pub not_allowed : ¬ Allows (first_allowed k) n
  pub reason_is : reason_of (first_allowed k) ≡ reason

-- a delta of a field is to come, and is this
pub record CanGoOn {X O : Type 0} (received : X → List Event → Type 0) (state : State X O) (id : TypeId)
    (types : List Field) (next n : ℕ) : Type 0 where
  pub table : Table
  pub type : TypeId
  pub before : List ℕ
  pub bytes : List ℕ
  pub inside : IsInStruct table type received state id types next before
  pub spelled : IsUnsigned n bytes
  pub small : length (before ++ bytes) < 2 ^ 64

-- where a delta of a field is to come, what comes behind it is settled
pub record StepGoesOn {X O : Type 0} (received : X → List Event → Type 0) (old new : State X O) (id : TypeId)
    (types : List Field) (next n : ℕ) (moved : Moved) : Type 0 where
  pub each : (T : Table) (t : TypeId) (p c : List ℕ) → IsInStruct T t received old id types next p → IsUnsigned n c
      → Settled T t received new (p ++ c) moved

-- the delta leads to no field
pub record LeadsNowhere (types : List Field) (next n : ℕ) (reason : Reason) : Type 0 where
  pub reason_is : reason ≡ reasons.FieldNumber
  pub some : 0 < n
  pub past : length types < next + n

-- a part of the type begins, and its first number is this
pub record CanTakeFirst (T : Table) {X O : Type 0} (received : X → List Event → Type 0) (state : State X O)
    (id : TypeId) (n : ℕ) : Type 0 where
  pub type : TypeId
  pub ready : IsReady T type
  pub before : List ℕ
  pub bytes : List ℕ
  pub begun : IsBegun T type received state id before
  pub spelled : IsUnsigned n bytes
  pub small : length (before ++ bytes) < 2 ^ 64

pub record TakesFirst (T : Table) {X O : Type 0} (received : X → List Event → Type 0) (old new : State X O)
    (id : TypeId) (n : ℕ) (moved : Moved) : Type 0 where
  pub each : (t : TypeId) (p c : List ℕ) → IsBegun T t received old id p → IsUnsigned n c
      → Settled T t received new (p ++ c) moved

-- the number isn't allowed where a part of the type begins
pub record RefusesFirst (T : Table) {X O : Type 0} (received : X → List Event → Type 0) (state : State X O)
    (id : TypeId) (n : ℕ) (reason : Reason) : Type 0 where
  pub each : (t : TypeId) (p : List ℕ) → IsBegun T t received state id p → IsDisallowed T t p n reason

-- this number is what is expected
pub record CanTake (T : Table) {X O : Type 0} (received : X → List Event → Type 0) (state : State X O)
    (item : NextNumber) (n : ℕ) : Type 0 where
  pub expected : state.expected ≡ Number item
  pub type : TypeId
  pub ready : IsReady T type
  pub before : List ℕ
  pub so_far : List ℕ
  pub bytes : List ℕ
  pub placed : IsPlaced T type received state before so_far
  pub spelled : IsUnsigned n bytes
  pub small : length (before ++ bytes) < 2 ^ 64

pub record StepTakes (T : Table) {X O : Type 0} (received : X → List Event → Type 0) (old new : State X O) (n : ℕ)
    (moved : Moved) : Type 0 where
  pub each : (t : TypeId) (p r c : List ℕ) → IsReady T t → IsPlaced T t received old p r → IsUnsigned n c
      → Settled T t received new (p ++ c) moved

-- the number isn't allowed there
pub record StepRefuses (T : Table) {X O : Type 0} (received : X → List Event → Type 0) (state : State X O) (n : ℕ)
    (reason : Reason) : Type 0 where
  pub each : (t : TypeId) (p r : List ℕ) → IsReady T t → IsPlaced T t received state p r → IsDisallowed T t p n reason

-- the tag before the value is expected, and is this number
pub record CanTakeTag {X O : Type 0} (received : X → List Event → Type 0) (state : State X O) (id : TypeId) (n : ℕ) :
    Type 0 where
  pub expected : state.expected ≡ Number (Tag id)

pub record IsWrongTag (n : ℕ) (reason : Reason) : Type 0 where
  pub wrong : n ≢ 0
  pub reason_is : reason ≡ reasons.SingleTag

-- the imaginary part behind this real part is expected, and this number spells it
pub record CanTakeImaginary {X O : Type 0} (received : X → List Event → Type 0) (state : State X O) (pattern n : ℕ) :
    Type 0 where
  pub expected : state.expected ≡ Number (Second pattern)
  pub table : Table
  pub type : TypeId
  pub before : List ℕ
  pub so_far : List ℕ
  pub bytes : List ℕ
  pub placed : IsPlaced table type received state before so_far
  pub spelled : IsUnsigned n bytes
  pub small : length (before ++ bytes) < 2 ^ 64

-- where this expected number is, what comes behind it is settled
pub record TakesHere {X O : Type 0} (received : X → List Event → Type 0) (old new : State X O) (n : ℕ) (moved : Moved) :
    Type 0 where
  pub each : (T : Table) (t : TypeId) (p r c : List ℕ) → IsPlaced T t received old p r → IsUnsigned n c
      → Settled T t received new (p ++ c) moved

-- raw bytes are expected, as many as these or more
pub record CanTakeRaw {X O : Type 0} (received : X → List Event → Type 0) (state : State X O) (left : ℕ)
    (bytes : List ℕ) : Type 0 where
  pub expected : state.expected ≡ Raw left
  pub few : length bytes ≤ left
  pub table : Table
  pub type : TypeId
  pub before : List ℕ
  pub so_far : List ℕ
  pub placed : IsPlaced table type received state before so_far
  pub small : length (before ++ (so_far ++ bytes)) < 2 ^ 64

-- raw bytes that are under way go on behind these bytes
pub record StaysRaw (T : Table) (t : TypeId) {X O : Type 0} (received : X → List Event → Type 0) (old new : State X O)
    (left : ℕ) (p r : List ℕ) (moved : Moved) : Type 0 where
  pub more : moved ≡ ToNext
  pub expected : new.expected ≡ Raw left
  pub stack : new.stack ≡ old.stack
  pub placed : IsPlaced T t received new p r

-- what comes behind the bytes is settled where they are the last, and else the same item goes on
pub record TakesRaw {X O : Type 0} (received : X → List Event → Type 0) (old new : State X O) (left : ℕ)
    (bytes : List ℕ) (moved : Moved) : Type 0 where
  pub last : (T : Table) (t : TypeId) (p r : List ℕ) → IsPlaced T t received old p r → left ≡ length bytes
      → Settled T t received new (p ++ (r ++ bytes)) moved
  pub other : (T : Table) (t : TypeId) (p r : List ℕ) → IsPlaced T t received old p r → length bytes < left
      → StaysRaw T t received old new (left - length bytes) p (r ++ bytes) moved
