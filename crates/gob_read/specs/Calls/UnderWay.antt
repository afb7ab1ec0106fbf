-- What contracts see of a reader of a body: the bytes that it has read, and what a push gives, until one ends it.
use Rattle.std.specs.Prelude.{◌≡◌, ℕ, List, Option, None}
use Rattle.gob_types.specs.declared.id.TypeId.{TypeId}
use Rattle.gob_types.specs.Table.{Table}
use Rattle.gob_read.specs.Building.{Building}
use Rattle.gob_read.specs.Calls.Reader.{RefusesHonestly}
use Rattle.gob_read.specs.Calls.Reader.{ReaderHasRead, IsUsableReader, ReaderGives, ReaderRefusesBody, Stops}
use Rattle.gob_read.specs.declared.reader.BodyReader.{BodyReader}
use Rattle.gob_read.specs.declared.reader.Progress.{Progress}
use Rattle.gob_read.specs.declared.run.Run.{Run}
use Rattle.gob_read.specs.declared.stop.Stop.{Stop}

-- what it has under way
abbrev pub under_way : {X O : Type 0} → BodyReader X O → Option (Run X O)
under_way reader = reader.run

abbrev pub HasEnded : {X O : Type 0} → BodyReader X O → Type 0
HasEnded reader = under_way reader ≡ None

-- it has read these bytes of a body of the type, of whose length so many bytes are announced, and whose parts may be no
-- deeper than the limit
abbrev pub HasReadBody : {X O : Type 0} {most : ℕ} → Building X O most → Table → TypeId → (limit announced : ℕ)
    → BodyReader X O → List ℕ → Type 0
HasReadBody building T t limit announced reader z = ReaderHasRead T t limit announced building.received
    (under_way reader) z

-- it has ended, or has read some bytes of a body of a type of this table
abbrev pub FitsTable : {X O : Type 0} {most : ℕ} → Building X O most → Table → BodyReader X O → Type 0
FitsTable building T reader = IsUsableReader T building.received (under_way reader)

-- how far a push of the piece comes, behind any bytes read so far
abbrev pub PushGives : {X O : Type 0} {most : ℕ} → Building X O most → Table → (old new : BodyReader X O)
    → (piece : List ℕ)
    → Progress O → Type 0
PushGives building T old new piece progress = (t : TypeId) (limit announced : ℕ) (z : List ℕ)
    → HasReadBody building T t limit announced old z
    → ReaderGives T t limit announced building.received building.means (under_way new) z piece progress

-- why it stops in place of that: the refusal is the one that is given of the body
abbrev pub PushStops : {X O : Type 0} {most : ℕ} → Building X O most → Table → BodyReader X O → (piece : List ℕ) → Stop
    → Type 0
PushStops building T reader piece stop =
    Stops (under_way reader) (λ refusal. ReaderRefusesBody T building.received (under_way reader) piece refusal) stop

-- and its place is honest
abbrev pub PushStopsHonestly : {X O : Type 0} {most : ℕ} → Building X O most → Table → BodyReader X O → (piece : List ℕ)
    → Stop → Type 0
PushStopsHonestly building T reader piece stop =
    Stops (under_way reader) (λ refusal. RefusesHonestly T building.received (under_way reader) piece refusal) stop
