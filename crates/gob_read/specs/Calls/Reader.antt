-- What a reader of bodies has read, and what a push gives.
use Rattle.std.specs.Prelude.{◌≡◌, ℕ, ◌-◌, ◌≤◌, List, [], ◌++◌, length, take, Option, Some, None}
use Rattle.gob_types.specs.declared.id.TypeId.{TypeId}
use Rattle.gob_types.specs.Table.{Table}
use Rattle.gob_value.specs.Tree.{Tree, depth}
use Rattle.gob_value.specs.Top.{SpellsTop}
use Rattle.gob_read.specs.Refusal.{Refusal}
use Rattle.gob_read.specs.First.{IsFirst}
use Rattle.gob_read.specs.Viable.{IsViable}
use Rattle.gob_read.specs.Event.{Event}
use Rattle.gob_read.specs.Machine.Running.{IsReached, IsNewRun}
use Rattle.gob_read.specs.declared.run.Run.{Run}
use Rattle.gob_read.specs.declared.stop.Stop.{Stop}
use Rattle.gob_read.specs.declared.stop.Stop.TheVariants as stops
use Rattle.gob_read.specs.declared.reader.Progress.{Progress}
use Rattle.gob_read.specs.declared.reader.Progress.TheVariants.{More, Done}
use Rattle.gob_read.specs.Laws.{HasCountedArrays}
use Rattle.gob_read.specs.Honest.{IsHonestBody}

-- the reader is new, or has taken these bytes
pub data HasReadSoFar (T : Table) (t : TypeId) {X O : Type 0} (received : X → List Event → Type 0) (run : Run X O) :
    List ℕ → Type 0 where
  nothing_taken : IsNewRun T t received run → HasReadSoFar T t received run []
  taken_so_far : {z : List ℕ} → IsReached T t received run z → HasReadSoFar T t received run z

-- a run under way stands after these bytes of a body of the type, of whose length so many bytes are announced, and
-- whose parts may be no deeper than the limit
pub record RunHasRead (T : Table) (t : TypeId) (limit announced : ℕ) {X O : Type 0} (received : X → List Event → Type 0)
    (run : Run X O) (z : List ℕ) : Type 0 where
  pub so_far : HasReadSoFar T t received run z
  pub depth_is : run.depth ≡ limit
  pub length_is : run.length ≡ announced
  pub within : length z ≤ announced

-- a reader that has ended stands after nothing
abbrev pub ReaderHasRead : Table → TypeId → ℕ → ℕ → {X O : Type 0} → (X → List Event → Type 0) → Option (Run X O)
    → List ℕ → Type 0
ReaderHasRead T t limit announced received None z = ⊥
ReaderHasRead T t limit announced received (Some run) z = RunHasRead T t limit announced received run z

pub record HasReadSome (T : Table) {X O : Type 0} (received : X → List Event → Type 0) (run : Run X O) : Type 0 where
  pub type : TypeId
  pub limit : ℕ
  pub announced : ℕ
  pub bytes : List ℕ
  pub after : RunHasRead T type limit announced received run bytes

-- it has ended, or stands after some bytes
abbrev pub IsUsableReader : Table → {X O : Type 0} → (X → List Event → Type 0) → Option (Run X O) → Type 0
IsUsableReader T received None = Unit {0}
IsUsableReader T received (Some run) = HasReadSome T received run

-- the bytes spell a value no deeper than the limit, all that were announced, and this was made of it
pub record IsMade (T : Table) (t : TypeId) (limit announced : ℕ) {O : Type 0} (means : O → Tree → Type 0) (out : O)
    (z : List ℕ) : Type 0 where
  pub value : Tree
  pub spelled : SpellsTop T t value z
  pub not_deep : depth value ≤ limit
  pub all : length z ≡ announced
  pub meant : means out value

-- the piece was taken, and nothing that the bytes show is refused
pub record ReaderTakesPiece (T : Table) (t : TypeId) (limit announced : ℕ) {X O : Type 0} (received : X → List Event
    → Type 0) (run : Option (Run X O)) (z piece : List ℕ) : Type 0 where
  pub after : ReaderHasRead T t limit announced received run (z ++ piece)
  pub viable : IsViable T t limit announced (z ++ piece)

-- so many bytes of the piece were taken, with which the body and its value end
pub record EndsBody (T : Table) (t : TypeId) (limit announced : ℕ) {X O : Type 0} (means : O → Tree → Type 0)
    (run : Option (Run X O)) (z piece : List ℕ) (out : O) (used : ℕ) : Type 0 where
  pub ended : run ≡ None
  pub within : used ≤ length piece
  pub made : IsMade T t limit announced means out (z ++ take used piece)

-- after the bytes z a piece was pushed
abbrev pub ReaderGives : (T : Table) (t : TypeId) (limit announced : ℕ) {X O : Type 0} (received : X → List Event
    → Type 0) (means : O → Tree → Type 0) (run : Option (Run X O)) (z piece : List ℕ) → Progress O → Type 0
ReaderGives T t limit announced received means run z piece More = ReaderTakesPiece T t limit announced received run z
    piece
ReaderGives T t limit announced received means run z piece (Done out used) = EndsBody T t limit announced means run z
    piece out used

-- the refusal is the one that is given of the bytes up to the announced length
pub record ReaderRefusesBody (T : Table) {X O : Type 0} (received : X → List Event → Type 0) (run : Option (Run X O))
    (piece : List ℕ) (refusal : Refusal) : Type 0 where
  pub each : (t : TypeId) (limit announced : ℕ) (z : List ℕ) → ReaderHasRead T t limit announced received run z
      → IsFirst T t limit announced (z ++ take (announced - length z) piece) refusal

-- why a reader stops: what holds of the refusal, if there is one, and only one that has ended before says so
abbrev pub Stops : {X O : Type 0} → Option (Run X O) → (Refusal → Type 0) → Stop → Type 0
Stops run why (stops.Refused place seen reason) = why (record { place = place; seen = seen; reason = reason })
Stops run why stops.Memory = Unit {0}
Stops run why stops.Failed = run ≡ None

-- the refusal of a piece is honest, wherever the reader stood
pub record RefusesHonestly (T : Table) {X O : Type 0} (received : X → List Event → Type 0) (run : Option (Run X O))
    (piece : List ℕ) (refusal : Refusal) : Type 0 where
  pub each : (t : TypeId) (limit announced : ℕ) (z : List ℕ) → HasCountedArrays T
      → ReaderHasRead T t limit announced received run z
      → IsHonestBody T t limit (z ++ take (announced - length z) piece) refusal
