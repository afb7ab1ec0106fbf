-- A reader before the number of an interface, which is 0 where it is nil. It describes the reader's stack.
use Rattle.std.specs.Prelude.{◌≡◌, ◌≢◌, ℕ, ◌≤◌, ◌⊎◌, List, ◌++◌, length, take, Result, Ok, Err}
use Rattle.gob_types.specs.declared.id.TypeId.{TypeId}
use Rattle.gob_types.specs.declared.basic.Basic.TheVariants as basic
use Rattle.gob_types.specs.declared.kind.Kind.TheVariants as kind
use Rattle.gob_types.specs.declared.reason.Reason.TheVariants as reason
use Rattle.gob_types.specs.Table.{Table}
use Rattle.gob_read.specs.Expected.{a_number, nil}
use Rattle.gob_read.specs.Expects.{ExpectsTop}
use Rattle.gob_read.specs.Event.{Event}
use Rattle.gob_read.specs.Machine.Kinds.{HasKind}
use Rattle.gob_read.specs.Machine.Running.{IsReached, StopsFor, RunGoesOn, RunFinishes, RefusesPiece}
use Rattle.gob_read.specs.declared.next.Next.TheVariants.{Number}
use Rattle.gob_read.specs.declared.next.NextNumber.TheVariants.{Part}
use Rattle.gob_read.specs.declared.run.Run.{Run}
use Rattle.gob_read.specs.declared.stop.Stop.{Stop}
use Rattle.gob_read.specs.declared.stop.Stop.TheVariants as stops
use Rattle.gob_read.specs.declared.to_nil.Came.{Came}
use Rattle.gob_read.specs.declared.to_nil.Came.TheVariants as came

-- the number of an interface is expected
pub record IsAtNil (T : Table) {X O : Type 0} (run : Run X O) : Type 0 where
  pub id : TypeId
  pub expected : run.state.expected ≡ Number (Part id)
  pub kind : HasKind T id (kind.Basic basic.Interface)

abbrev pub IsNotAtNil : Table → {X O : Type 0} → Run X O → Type 0
IsNotAtNil T run = (u : TypeId) → run.state.expected ≡ Number (Part u) → ¬ HasKind T u (kind.Basic basic.Interface)

-- where it is, none of its bytes is taken
abbrev pub IsClear : Table → {X O : Type 0} → Run X O → Type 0
IsClear T run = (u : TypeId) → run.state.expected ≡ Number (Part u) → HasKind T u (kind.Basic basic.Interface)
    → run.start ≡ run.taken

-- the next item begins, or more of the one that was expected is to come
abbrev pub StepsClear : {X O : Type 0} → (old new : Run X O) → Type 0
StepsClear old new = (new.start ≡ new.taken) ⊎ (new.state.expected ≡ old.state.expected)

-- no part's first number has begun
abbrev pub ClearOfParts : {X O : Type 0} → Run X O → Type 0
ClearOfParts run = (u : TypeId) → run.state.expected ≡ Number (Part u) → run.start ≡ run.taken

-- the refusal is at the item that is expected
abbrev pub StopsHere : {X O : Type 0} → Run X O → Stop → Type 0
StopsHere run (stops.Refused place seen why) = place ≡ run.start
StopsHere run _ = Unit {0}

-- no interface is refused
abbrev pub IsNoInterface : Stop → Type 0
IsNoInterface (stops.Refused place seen why) = why ≢ reason.InterfaceValue
IsNoInterface _ = Unit {0}

-- these bytes expect the number of an interface
pub record ExpectsNil (T : Table) (t : TypeId) (z : List ℕ) : Type 0 where
  pub depth : ℕ
  pub expects : ExpectsTop T t z (a_number nil) depth

-- wherever the reader stood, so many bytes of the piece were taken, nothing is refused, and the number of an interface
-- comes next
pub record ComesToNil (T : Table) {X O : Type 0} (received : X → List Event → Type 0) (old new : Run X O)
    (piece : List ℕ) (used : ℕ) : Type 0 where
  pub within : used ≤ length piece
  pub goes_on : RunGoesOn T received old new (take used piece)
  pub nil : (t : TypeId) (z : List ℕ) → IsReached T t received old z → ExpectsNil T t (z ++ take used piece)

abbrev pub StandsAtNil : (T : Table) {X O : Type 0} (run : Run X O) → Came → Type 0
StandsAtNil T run (came.ToNil used) = IsAtNil T run
StandsAtNil T run _ = Unit {0}

-- what reading on up to the number of an interface answers
abbrev pub NilAnswers : (T : Table) {X O : Type 0} (received : X → List Event → Type 0) (old new : Run X O)
    (piece : List ℕ) → Result Came Stop → Type 0
NilAnswers T received old new piece (Ok came.ToEnd) = RunGoesOn T received old new piece
NilAnswers T received old new piece (Ok (came.ToNil used)) = ComesToNil T received old new piece used
NilAnswers T received old new piece (Ok (came.PastValue used)) = RunFinishes T received old new piece used
NilAnswers T received old new piece (Err stop) = StopsFor (RefusesPiece T received old piece) stop
