-- What a reader that owns its bytes has read of its input, in any grammar of items, and what its calls answer.
use Rattle.std.specs.Prelude.{◌≡◌, ℕ, ◌+◌, ◌-◌, ◌*◌, ◌<◌, ◌≤◌, List, [], ◌∷◌, ◌++◌, length, take, Option, Some}
use Rattle.std.specs.Prelude.{Result, Ok, Err, Bool, true, false}
use Rattle.std.specs.Io.KnownBytes.{Consumes, Keeps, IsAtEnd}
use Rattle.gob_types.specs.Defined.{types}
use Rattle.gob_types.specs.Table.{Table}
use Rattle.gob_types.specs.declared.id.TypeId.{TypeId}
use Rattle.gob_stream.specs.Bounds.{Bounds}
use Rattle.gob_stream.specs.Calls.Waiting.{Grows, HasRoom, room_for, waiting}
use Rattle.gob_stream.specs.Grammar.{Grammar, StreamIn, GivesIn, RefusesIn}
use Rattle.gob_stream.specs.Reading.{SomeTaken}
use Rattle.gob_stream.specs.Stepping.{GivesItemsOf, GivesNoMoreBy, HasBegunNextBy, IsToldNextBy, Stepping}
use Rattle.gob_stream.specs.declared.fault.Fault.{Fault}
use Rattle.gob_stream.specs.declared.fault.Fault.TheVariants as fault
use Rattle.gob_stream.specs.declared.reader_of.Ahead.{Ahead}
use Rattle.gob_stream.specs.declared.reader_of.ReaderOf.{ReaderOf}
use Rattle.gob_stream.specs.declared.session.Advance.{Advance}
use Rattle.gob_stream.specs.declared.values.Passed.{Passed}

-- ---- what contracts see of a reader
abbrev pub session_of : {X I : Type 0} → ReaderOf X I → X
session_of r = r.session

-- the bytes that were read and not yet taken
abbrev pub waits_in : {X I : Type 0} → ReaderOf X I → List ℕ
waits_in r = waiting r.waiting

-- and whether the input has ended behind them
abbrev pub ahead_of : {X I : Type 0} → ReaderOf X I → Ahead
ahead_of r = record { waiting = r.waiting; ended = r.ended }

-- the room that it has for them
abbrev pub room_in : {X I : Type 0} → ReaderOf X I → ℕ
room_in r = room_for r.waiting

-- how many bytes wait at most: as many as are read behind the first bytes of an item, which are no more than the item's
abbrev pub most_ahead : Bounds → ℕ
most_ahead L = 2 * L.item + 65554

-- the last read gave less than was asked for, or there was none
abbrev pub IsShort : {X I : Type 0} → ReaderOf X I → Type 0
IsShort r = HasRoom r.waiting

-- of an input that had the first bytes and has the second ones left it has read what was between, and of what it has
-- taken of that it gave the items
pub record HasReadBy {X I Told : Type 0} (d : Stepping X I Told) (r : ReaderOf X I) (read now : Option (List ℕ))
    (items : List Told) : Type 0 where
  pub taken : List ℕ
  pub input : Consumes read now (taken ++ waits_in r)
  pub gave : d.read (session_of r) items taken
  pub end : r.ended ≡ true → IsAtEnd now
  pub room : room_in r ≤ most_ahead (d.limits (session_of r))

-- the types behind those items
abbrev pub types_behind : {X I Told : Type 0} → (d : Stepping X I Told) → {r : ReaderOf X I}
    → {read now : Option (List ℕ)} → {items : List Told} → HasReadBy d r read now items → Table
types_behind d {r = r} {items = items} h = d.behind (session_of r) items h.taken h.gave

-- it has met a fault, behind which it reads no more
abbrev pub HasFailedBy : {X I Told : Type 0} → Stepping X I Told → ReaderOf X I → Type 0
HasFailedBy d r = d.failed (session_of r)

-- ---- what its calls answer
-- bytes are the stream of the items with this table behind it, and all of them, so many, were read
pub record EndsWithIn {Told : Type 0} (G : Grammar Told) (L : Bounds) (T : Table) (taken : ℕ) (items : List Told)
    (bytes : List ℕ) (now : Option (List ℕ)) : Type 0 where
  pub stream : StreamIn G L items bytes T
  pub count : taken ≡ length bytes
  pub end : now ≡ Some []

-- all of the bytes but the last ones, of which no more waited, give the items, with this table behind them
pub record GivesAllButIn {Told : Type 0} (G : Grammar Told) (L : Bounds) (T : Table) (items : List Told)
    (bytes : List ℕ) : Type 0 where
  pub prefix : List ℕ
  pub rest : List ℕ
  pub whole : bytes ≡ prefix ++ rest
  pub few : length rest ≤ most_ahead L
  pub gives : GivesIn G L T items prefix

-- why no more items come of an input that had these bytes, where these were given and the types are those of T
abbrev pub StopsIn : {Told : Type 0} → Grammar Told → Bounds → Table → List Told → (bytes : List ℕ)
    → (now : Option (List ℕ)) → Fault → Type 0
StopsIn G L T items bytes now (fault.Refused R) = RefusesIn G L T items bytes R
StopsIn G L T items bytes now fault.Read = SomeTaken bytes now (λ taken. GivesIn G L T items taken)
StopsIn G L T items bytes now fault.Memory = SomeTaken bytes now (GivesAllButIn G L T items)
StopsIn G L T items bytes now fault.Failed = ⊥

abbrev pub StopsBy : {X I Told : Type 0} → Stepping X I Told → X → Table → (read now : Option (List ℕ)) → List Told
    → Fault → Type 0
StopsBy d s T read now items e = (bytes : List ℕ) → read ≡ Some bytes
    → StopsIn d.grammar (d.within (d.limits s)) T items bytes now e

-- more was read, or the input ended between two items
abbrev pub FillsBy : {X I Told : Type 0} → Stepping X I Told → X → Table → (r' : ReaderOf X I)
    → (read now : Option (List ℕ)) → List Told → Result Bool Fault → Type 0
FillsBy d s T r' read now items (Ok true) = HasReadBy d r' read now items
    × (d.taken (session_of r') ≡ d.taken s) × (types (d.table (session_of r')) ≡ types (d.table s))
FillsBy d s T r' read now items (Ok false) = ((bytes : List ℕ) → read ≡ Some bytes
    → EndsWithIn d.grammar (d.within (d.limits s)) (types (d.table s)) (d.taken s) items bytes now)
    × (types (d.table (session_of r')) ≡ types (d.table s))
FillsBy d s T r' read now items (Err e) = StopsBy d s T read now items e

-- so many bytes were taken, with which the items are whole
pub record TakesBy {X I Told : Type 0} (d : Stepping X I Told) (r r' : ReaderOf X I) (read now : Option (List ℕ))
    (items more : List Told) (used : ℕ) : Type 0 where
  pub after : HasReadBy d r' read now (items ++ more)
  pub onward : d.taken (session_of r') ≡ d.taken (session_of r) + used

pub record StepsOnBy {X I Told : Type 0} (d : Stepping X I Told) (r r' : ReaderOf X I) (read now : Option (List ℕ))
    (items : List Told) (step : Advance I) : Type 0 where
  pub more : List Told
  pub gives : GivesItemsOf (d.means (types (d.table (session_of r')))) step.item more
  pub takes : TakesBy d r r' read now items more step.used

abbrev pub StepsBy : {X I Told : Type 0} → Stepping X I Told → ReaderOf X I → Table → (r' : ReaderOf X I)
    → (read now : Option (List ℕ)) → List Told → Result (Advance I) Fault → Type 0
StepsBy d r T r' read now items (Ok step) = StepsOnBy d r r' read now items step
StepsBy d r T r' read now items (Err e) = StopsBy d (session_of r) T read now items e

-- the types behind a refusal: those where all that was read leads
abbrev pub KnowsTypesBy : {X I Told : Type 0} → Stepping X I Told → Bounds → (read now : Option (List ℕ)) → List Told
    → Table → Type 0
KnowsTypesBy d L read now items U = (bytes : List ℕ) → read ≡ Some bytes
    → SomeTaken bytes now (λ came. d.leads (d.within L) came items U)

-- it went past so many items, which define nothing
pub record PassesBy {X I Told : Type 0} (d : Stepping X I Told) (r r' : ReaderOf X I) (passed : Passed) : Type
    0 where
  pub more : List Told
  pub counted : passed.items ≡ length more
  pub none : passed.items ≡ 0 → passed.used ≡ 0
  pub each : (read now : Option (List ℕ)) (items : List Told) → HasReadBy d r read now items
      → TakesBy d r r' read now items more passed.used

-- past the one whose bytes are these
abbrev pub PassesOneBy : {X I Told : Type 0} → Stepping X I Told → (r r' : ReaderOf X I) → (used : ℕ) → Type 0
PassesOneBy {Told = Told} d r r' used = (read now : Option (List ℕ)) (items : List Told) (i : Told)
    → HasReadBy d r read now items → IsToldNextBy d (session_of r) i (take used (waits_in r))
    → TakesBy d r r' read now items (i ∷ []) used

-- ---- reading once
-- no bytes wait, or the first ones of an item of a value, which give no item more, and the input may go on
pub data LacksBy {X I Told : Type 0} (d : Stepping X I Told) (r : ReaderOf X I) : Type 0 where
  none_wait : waits_in r ≡ [] → LacksBy d r
  some_wait : {id : TypeId} {head size : ℕ} → d.between (session_of r)
      → HasBegunNextBy d (session_of r) id head size (waits_in r) → GivesNoMoreBy d (session_of r) (waits_in r)
      → r.ended ≡ false → LacksBy d r

pub record BringsOnce {X I : Type 0} (r r' : ReaderOf X I) (old new : Option (List ℕ)) : Type 0 where
  pub more : List ℕ
  pub read : Consumes old new more
  pub behind : waits_in r' ≡ waits_in r ++ more
  pub room : Grows (room_in r) (room_in r') (length (waits_in r))
  pub some : r'.ended ≡ false → 0 < length more
  pub end : r'.ended ≡ true → IsAtEnd new

abbrev pub ReadsOnce : {X I : Type 0} → (r r' : ReaderOf X I) → (old new : Option (List ℕ)) → Result (Unit {0}) Fault
    → Type 0
ReadsOnce r r' old new (Ok _) = BringsOnce r r' old new
ReadsOnce r r' old new (Err (fault.Refused R)) = ⊥
ReadsOnce r r' old new (Err fault.Read) = (waits_in r' ≡ waits_in r) × Keeps old new
ReadsOnce r r' old new (Err fault.Memory) = (waits_in r' ≡ waits_in r) × Keeps old new
ReadsOnce r r' old new (Err fault.Failed) = ⊥

-- how much is left to read before an item of a value is whole, or the limit for the stream is met
abbrev pub flag : Bool → ℕ
flag true = 0
flag false = 1

abbrev pub left_to_read : (ended : Bool) → (waits : List ℕ) → (taken most : ℕ) → ℕ
left_to_read ended [] taken most = flag ended + (most + 11)
left_to_read ended (b ∷ waits) taken most = flag ended + (most + 10 - (taken + length (b ∷ waits)))
