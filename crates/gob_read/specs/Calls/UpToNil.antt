-- What contracts see of a reader that stops before the numbers of interfaces: whether it stands before one, and what a
-- push up to one gives.
use Rattle.std.specs.Prelude.{◌≡◌, ℕ, ◌≤◌, ◌<◌, List, [], ◌++◌, length, take, Option, Some, None}
use Rattle.gob_types.specs.declared.id.TypeId.{TypeId}
use Rattle.gob_types.specs.Table.{Table, Extends}
use Rattle.gob_value.specs.Tree.{Tree}
use Rattle.gob_read.specs.Event.{Event}
use Rattle.gob_read.specs.Expected.{a_number, nil}
use Rattle.gob_read.specs.Expects.{ExpectsTop}
use Rattle.gob_read.specs.Building.{Building}
use Rattle.gob_read.specs.Calls.Reader.{ReaderTakesPiece, EndsBody}
use Rattle.gob_read.specs.Calls.UnderWay.{under_way, HasReadBody, FitsTable}
use Rattle.gob_read.specs.Machine.Nil.{IsClear, IsAtNil, ExpectsNil}
use Rattle.gob_read.specs.declared.reader.BodyReader.{BodyReader}
use Rattle.gob_read.specs.declared.reached.Reached.{Reached}
use Rattle.gob_read.specs.declared.reached.Reached.TheVariants as reached
use Rattle.gob_read.specs.declared.run.Run.{Run}

abbrev pub IsClearRun : Table → {X O : Type 0} → Option (Run X O) → Type 0
IsClearRun T None = Unit {0}
IsClearRun T (Some run) = IsClear T run

-- no byte was taken of the number of an interface that is to come
abbrev pub NoNilBegun : Table → {X O : Type 0} → BodyReader X O → Type 0
NoNilBegun T reader = IsClearRun T (under_way reader)

abbrev pub IsRunAtNil : Table → {X O : Type 0} → Option (Run X O) → Type 0
IsRunAtNil T None = ⊥
IsRunAtNil T (Some run) = IsAtNil T run

-- the number of an interface comes next
abbrev pub IsBeforeNil : Table → {X O : Type 0} → BodyReader X O → Type 0
IsBeforeNil T reader = IsRunAtNil T (under_way reader)

-- the interface that comes next has this depth
abbrev pub IsNilDepth : {X O : Type 0} {most : ℕ} → Building X O most → Table → BodyReader X O → ℕ → Type 0
IsNilDepth building T reader d = (t : TypeId) (limit announced e : ℕ) (z : List ℕ)
    → HasReadBody building T t limit announced reader z → ExpectsTop T t z (a_number nil) e → d ≡ e

-- more bytes are announced than were taken
abbrev pub HasRoom : {X O : Type 0} {most : ℕ} → Building X O most → Table → BodyReader X O → Type 0
HasRoom building T reader = (t : TypeId) (limit announced : ℕ) (z : List ℕ)
    → HasReadBody building T t limit announced reader z → length z < announced

-- so many bytes of the piece were taken, nothing that they show is refused, and the number of an interface comes next
pub record StopsAtNil (T : Table) (t : TypeId) (limit announced : ℕ) {X O : Type 0} (received : X → List Event → Type 0)
    (run : Option (Run X O)) (z piece : List ℕ) (used : ℕ) : Type 0 where
  pub within : used ≤ length piece
  pub takes : ReaderTakesPiece T t limit announced received run z (take used piece)
  pub nil : ExpectsNil T t (z ++ take used piece)

abbrev pub ReachedIs : (T : Table) (t : TypeId) (limit announced : ℕ) {X O : Type 0} (received : X → List Event
    → Type 0)
    (means : O → Tree → Type 0) (run : Option (Run X O)) (z piece : List ℕ) → Reached O → Type 0
ReachedIs T t limit announced received means run z piece reached.More =
    ReaderTakesPiece T t limit announced received run z piece
ReachedIs T t limit announced received means run z piece (reached.Nil used) =
    StopsAtNil T t limit announced received run z piece used
ReachedIs T t limit announced received means run z piece (reached.Done out used) =
    EndsBody T t limit announced means run z piece out used

-- how far a push of the piece comes, behind any bytes read so far
abbrev pub ReachedGives : {X O : Type 0} {most : ℕ} → Building X O most → Table → (old new : BodyReader X O)
    → (piece : List ℕ) → Reached O → Type 0
ReachedGives building T old new piece given = (t : TypeId) (limit announced : ℕ) (z : List ℕ)
    → HasReadBody building T t limit announced old z
    → ReachedIs T t limit announced building.received building.means (under_way new) z piece given

abbrev pub IsBeforeNilIn : {O : Type 0} (T : Table) {X O' : Type 0} → BodyReader X O' → Reached O → Type 0
IsBeforeNilIn T reader (reached.Nil used) = IsBeforeNil T reader
IsBeforeNilIn T reader _ = Unit {0}

-- a reader that has taken nothing has begun no number of an interface
abbrev pub BeginsClear : {X O : Type 0} {most : ℕ} → Building X O most → BodyReader X O → Type 0
BeginsClear building reader = (T : Table) (t : TypeId) (limit announced : ℕ)
    → HasReadBody building T t limit announced reader [] → NoNilBegun T reader

-- and none is begun when the table grows
abbrev pub StaysClear : {X O : Type 0} {most : ℕ} → Building X O most → BodyReader X O → Type 0
StaysClear building reader = (T U : Table) → Extends T U → FitsTable building T reader → NoNilBegun T reader
    → NoNilBegun U reader

abbrev pub StaysBeforeNil : {X O : Type 0} → BodyReader X O → Type 0
StaysBeforeNil reader = (T U : Table) → Extends T U → IsBeforeNil T reader → IsBeforeNil U reader
