-- Where a reader stands, by its parts.
-- It describes the reader's stack.
use Rattle.std.specs.Prelude.{◌≡◌, ℕ, ◌+◌, ◌<◌, ◌≤◌, List, [], ◌∷◌, ◌++◌, length, take, Result, Ok, Err}
use Rattle.gob_num.specs.Unsigned.{BeginsNumber}
use Rattle.gob_types.specs.declared.id.TypeId.{TypeId}
use Rattle.gob_types.specs.Table.{Table}
use Rattle.gob_types.specs.Ready.{IsReady}
use Rattle.gob_read.specs.Refusal.{Refusal}
use Rattle.gob_read.specs.First.{IsFirst}
use Rattle.gob_read.specs.Viable.{IsShallow, IsViable}
use Rattle.gob_read.specs.Event.{Event}
use Rattle.gob_read.specs.Machine.Steps.{IsPlaced, IsRead, StepTakes, StepRefuses}
use Rattle.gob_read.specs.declared.stop.Stop.{Stop}
use Rattle.gob_read.specs.declared.stop.Stop.TheVariants.{Refused, Memory, Failed}
use Rattle.gob_read.specs.declared.frame.Frame.{Frame}
use Rattle.gob_read.specs.declared.next.Moved.{Moved}
use Rattle.gob_read.specs.declared.next.Moved.TheVariants.{ToNext, PastValue}
use Rattle.gob_read.specs.declared.next.Next.{Next}
use Rattle.gob_read.specs.declared.next.Next.TheVariants.{Top, Number, Raw}
use Rattle.gob_read.specs.declared.next.NextNumber.{NextNumber}
use Rattle.gob_read.specs.declared.next.NextNumber.TheVariants.{Tag, Part, Second, Delta}
use Rattle.gob_read.specs.declared.run.Run.{Run}
use Rattle.gob_read.specs.declared.run.Advance.{Advance}

-- the bytes of the expected item that came
abbrev pub IsUnderWayAt : Next → List ℕ → List ℕ → Type 0
IsUnderWayAt (Top t) number r = (number ≡ []) × (r ≡ [])
IsUnderWayAt (Number item) number r = (number ≡ r) × BeginsNumber r
IsUnderWayAt (Raw left) number r = number ≡ []

-- how deep the expected item's part lies, where so many parts are open; a tag is in no part
abbrev pub item_depth : NextNumber → ℕ → ℕ
item_depth (Tag t) count = 0
item_depth (Part u) count = count + 1
item_depth (Second q) count = count + 1
item_depth Delta count = count

abbrev pub depth_of : Next → List Frame → ℕ
depth_of (Top t) stack = 0
depth_of (Number item) stack = item_depth item (length stack)
depth_of (Raw left) stack = length stack + 1

-- the parts that have begun with these bytes of the expected item, before the builder is told of them
abbrev pub begun_parts : Next → List ℕ → ℕ
begun_parts (Number (Part u)) (b ∷ r) = 1
begun_parts (Number (Second q)) r = 1
begun_parts _ r = 0

-- the reader has come so far
pub record IsReached (T : Table) (t : TypeId) {X O : Type 0} (received : X → List Event → Type 0) (run : Run X O)
    (z : List ℕ) : Type 0 where
  pub ready : IsReady T t
  pub before : List ℕ
  pub under_way : List ℕ
  pub placed : IsPlaced T t received run.state before under_way
  pub whole : z ≡ before ++ under_way
  pub number_is : IsUnderWayAt run.state.expected run.number under_way
  pub start_is : run.start ≡ length before
  pub taken_is : run.taken ≡ length z
  pub shallow : IsShallow T t run.depth before
  pub judged : 0 < length under_way → depth_of run.state.expected run.state.stack ≤ run.depth

-- and may take more
pub record IsOpenRun (T : Table) (t : TypeId) {X O : Type 0} (received : X → List Event → Type 0) (run : Run X O)
    (z : List ℕ) : Type 0 where
  pub reached : IsReached T t received run z
  pub not_deep : depth_of run.state.expected run.state.stack ≤ run.depth
  pub room : run.taken < run.length

-- it stands so after some bytes
pub record IsReachedSomewhere (T : Table) {X O : Type 0} (received : X → List Event → Type 0) (run : Run X O) : Type
    0 where
  pub type : TypeId
  pub bytes : List ℕ
  pub reached : IsReached T type received run bytes

pub record IsOpenSomewhere (T : Table) {X O : Type 0} (received : X → List Event → Type 0) (run : Run X O) : Type
    0 where
  pub type : TypeId
  pub bytes : List ℕ
  pub open_ : IsOpenRun T type received run bytes

-- under some table the run is open, having read some bytes of a body of some type
pub record IsOpenIn {X O : Type 0} (received : X → List Event → Type 0) (run : Run X O) : Type 0 where
  pub table : Table
  pub open_ : IsOpenSomewhere table received run

-- the reader may take more, this is expected, and some of a piece is left, which lies within the body
pub record IsBefore (T : Table) {X O : Type 0} (received : X → List Event → Type 0) (run : Run X O) (next : Next)
    (rest : List ℕ) : Type 0 where
  pub expected : run.state.expected ≡ next
  pub has_read : IsOpenSomewhere T received run
  pub some : 0 < length rest
  pub room : run.taken + length rest ≤ run.length

-- under some table the reader may take more, this is expected, and some of a piece is left, which lies in the body
pub record IsBeforeIn {X O : Type 0} (received : X → List Event → Type 0) (run : Run X O) (next : Next) (rest : List ℕ)
    : Type 0 where
  pub table : Table
  pub before : IsBefore table received run next rest

-- the reader has taken nothing, and looked nothing up
pub record IsNewRun (T : Table) (t : TypeId) {X O : Type 0} (received : X → List Event → Type 0) (run : Run X O) : Type
    0 where
  pub ready : IsReady T t
  pub expected : run.state.expected ≡ Top t
  pub stack : run.state.stack ≡ []
  pub told : received run.state.builder []
  pub number_is : run.number ≡ []
  pub start_is : run.start ≡ 0
  pub taken_is : run.taken ≡ 0

-- the value is whole
pub record IsFinished (T : Table) (t : TypeId) {X O : Type 0} (received : X → List Event → Type 0) (run : Run X O)
    (z : List ℕ) : Type 0 where
  pub read : IsRead T t received run.state z
  pub taken_is : run.taken ≡ length z
  pub shallow : IsShallow T t run.depth z

abbrev pub IsStepped : (T : Table) (t : TypeId) {X O : Type 0} (received : X → List Event → Type 0) (run : Run X O)
    (z : List ℕ) → Moved → Type 0
IsStepped T t received run z PastValue = IsFinished T t received run z
IsStepped T t received run z ToNext = IsReached T t received run z

-- what holds of the refusal, if there is one; a reader under way has not ended before
abbrev pub StopsFor : (Refusal → Type 0) → Stop → Type 0
StopsFor why (Refused place seen reason) = why (record { place = place; seen = seen; reason = reason })
StopsFor why Memory = Unit {0}
StopsFor why Failed = ⊥

-- so many more bytes are taken, of a body as long and no deeper
pub record TakesMore {X O : Type 0} (old new : Run X O) (count : ℕ) : Type 0 where
  pub taken : new.taken ≡ old.taken + count
  pub length_is : new.length ≡ old.length
  pub depth_is : new.depth ≡ old.depth

-- wherever the reader may take more, it has stepped over these bytes
pub record Steps (T : Table) {X O : Type 0} (received : X → List Event → Type 0) (old new : Run X O) (bytes : List ℕ)
    (moved : Moved) : Type 0 where
  pub each : (t : TypeId) (z : List ℕ) → IsOpenRun T t received old z → IsStepped T t received new (z ++ bytes) moved

-- wherever the reader may take more, this is the refusal that is given, whatever follows the bytes
pub record RefusesAt (T : Table) {X O : Type 0} (received : X → List Event → Type 0) (run : Run X O) (bytes : List ℕ)
    (refusal : Refusal) : Type 0 where
  pub each : (t : TypeId) (z x : List ℕ) → IsOpenRun T t received run z → IsFirst T t run.depth run.length (z
      ++ (bytes ++ x)) refusal

-- these bytes are taken
pub record TakesBytes (T : Table) {X O : Type 0} (received : X → List Event → Type 0) (old new : Run X O)
    (bytes : List ℕ) (moved : Moved) : Type 0 where
  pub more : TakesMore old new (length bytes)
  pub steps : Steps T received old new bytes moved

-- what a step over bytes answers: they are taken, or they show a refusal
abbrev pub BytesAnswers : (T : Table) {X O : Type 0} (received : X → List Event → Type 0) (old new : Run X O)
    (bytes : List ℕ) → Result Moved Stop → Type 0
BytesAnswers T received old new bytes (Ok moved) = TakesBytes T received old new bytes moved
BytesAnswers T received old new bytes (Err stop) = StopsFor (RefusesAt T received old bytes) stop

-- so many bytes from the front of the rest of a piece are taken
pub record TakesOfRest (T : Table) {X O : Type 0} (received : X → List Event → Type 0) (old new : Run X O)
    (rest : List ℕ) (advance : Advance) : Type 0 where
  pub few : advance.used ≤ length rest
  pub more : TakesMore old new advance.used
  pub steps : Steps T received old new (take advance.used rest) advance.moved

-- and they are some
pub record TakesSome (T : Table) {X O : Type 0} (received : X → List Event → Type 0) (old new : Run X O) (rest : List ℕ)
    (advance : Advance) : Type 0 where
  pub some : 0 < advance.used
  pub takes : TakesOfRest T received old new rest advance

-- what a step into the rest of a piece answers: some of it is taken, or it shows a refusal
abbrev pub RestAnswers : (T : Table) {X O : Type 0} (received : X → List Event → Type 0) (old new : Run X O)
    (rest : List ℕ) → Result Advance Stop → Type 0
RestAnswers T received old new rest (Ok advance) = TakesSome T received old new rest advance
RestAnswers T received old new rest (Err stop) = StopsFor (RefusesAt T received old rest) stop

-- a number is taken, and the next item begins behind it
pub record TakesNumber (T : Table) {X O : Type 0} (received : X → List Event → Type 0) (old new : Run X O) (n : ℕ)
    (moved : Moved) : Type 0 where
  pub takes : StepTakes T received old.state new.state n moved
  pub start_is : new.start ≡ old.taken
  pub number_is : new.number ≡ old.number
  pub more : TakesMore old new 0

-- the number isn't allowed where it stands
pub record RefusesNumber (T : Table) {X O : Type 0} (received : X → List Event → Type 0) (run : Run X O) (n : ℕ)
    (refusal : Refusal) : Type 0 where
  pub refuses : StepRefuses T received run.state n refusal.reason
  pub place_is : refusal.place ≡ run.start
  pub seen_is : refusal.seen ≡ run.taken

-- what an expected number gives: it is taken, or it isn't allowed
abbrev pub NumberAnswers : (T : Table) {X O : Type 0} (received : X → List Event → Type 0) (old new : Run X O) (n : ℕ)
    → Result Moved Stop → Type 0
NumberAnswers T received old new n (Ok moved) = TakesNumber T received old new n moved
NumberAnswers T received old new n (Err stop) = StopsFor (RefusesNumber T received old n) stop

-- the reader may take more
pub record MayGoOn (T : Table) {X O : Type 0} (received : X → List Event → Type 0) (run : Run X O) : Type 0 where
  pub each : (t : TypeId) (z : List ℕ) → IsReached T t received run z → IsOpenRun T t received run z

-- where it stands, this is the refusal that is given, whatever follows within the body
pub record JudgesFor (T : Table) {X O : Type 0} (received : X → List Event → Type 0) (run : Run X O) (refusal : Refusal)
    : Type 0 where
  pub each : (t : TypeId) (z x : List ℕ) → IsReached T t received run z → length (z ++ x) ≤ run.length
      → IsFirst T t run.depth run.length (z ++ x) refusal

-- what is judged between two items, under any table
abbrev pub JudgeAnswers : {X O : Type 0} (received : X → List Event → Type 0) (run : Run X O) → Result (Unit {0}) Stop
    → Type 0
JudgeAnswers received run (Ok _) = (T : Table) → MayGoOn T received run
JudgeAnswers received run (Err stop) = StopsFor (λ refusal. (T : Table) → JudgesFor T received run refusal) stop

-- where the value is whole, this is the refusal that is given, whatever follows
pub record EndsFor {X O : Type 0} (received : X → List Event → Type 0) (run : Run X O) (refusal : Refusal) : Type
    0 where
  pub each : (T : Table) (t : TypeId) (z x : List ℕ) → IsFinished T t received run z
      → IsFirst T t run.depth run.length (z ++ x) refusal

-- what is judged behind a whole value
abbrev pub EndAnswers : {X O : Type 0} (received : X → List Event → Type 0) (run : Run X O) → Result (Unit {0}) Stop
    → Type 0
EndAnswers received run (Ok _) = run.taken ≡ run.length
EndAnswers received run (Err stop) = StopsFor (EndsFor received run) stop

-- the body that is read is as long, and as deep at most
pub record IsSameBody {X O : Type 0} (old new : Run X O) : Type 0 where
  pub length_is : new.length ≡ old.length
  pub depth_is : new.depth ≡ old.depth

-- wherever the reader stood, the piece is taken and nothing is refused
pub record RunGoesOn (T : Table) {X O : Type 0} (received : X → List Event → Type 0) (old new : Run X O)
    (piece : List ℕ) : Type 0 where
  pub same : IsSameBody old new
  pub reached : (t : TypeId) (z : List ℕ) → IsReached T t received old z → IsReached T t received new (z ++ piece)
  pub viable : (t : TypeId) (z : List ℕ) → IsReached T t received old z → IsViable T t old.depth old.length (z ++ piece)

-- wherever the reader stood, the value and the body end behind so many bytes of the piece
pub record RunFinishes (T : Table) {X O : Type 0} (received : X → List Event → Type 0) (old new : Run X O)
    (piece : List ℕ) (used : ℕ) : Type 0 where
  pub same : IsSameBody old new
  pub within : used ≤ length piece
  pub finished : (t : TypeId) (z : List ℕ) → IsReached T t received old z
      → IsFinished T t received new (z ++ take used piece)
  pub all : (t : TypeId) (z : List ℕ) → IsReached T t received old z → length (z ++ take used piece) ≡ old.length

-- wherever the reader stood, this is the refusal that is given of the piece
pub record RefusesPiece (T : Table) {X O : Type 0} (received : X → List Event → Type 0) (run : Run X O) (piece : List ℕ)
    (refusal : Refusal) : Type 0 where
  pub each : (t : TypeId) (z : List ℕ) → IsReached T t received run z → IsFirst T t run.depth run.length (z ++ piece)
      refusal

-- how far the reader comes in a piece
abbrev pub RunAdvances : (T : Table) {X O : Type 0} (received : X → List Event → Type 0) (old new : Run X O)
    (piece : List ℕ) → Moved → ℕ → Type 0
RunAdvances T received old new piece ToNext used = (used ≡ length piece) × RunGoesOn T received old new piece
RunAdvances T received old new piece PastValue used = RunFinishes T received old new piece used

-- what reading on over a piece answers: it goes on behind the piece, the value and the body end in it, or it shows a
-- refusal
abbrev pub PieceAnswers : (T : Table) {X O : Type 0} (received : X → List Event → Type 0) (old new : Run X O)
    (piece : List ℕ) → Result Advance Stop → Type 0
PieceAnswers T received old new piece (Ok advance) = RunAdvances T received old new piece advance.moved advance.used
PieceAnswers T received old new piece (Err stop) = StopsFor (RefusesPiece T received old piece) stop
