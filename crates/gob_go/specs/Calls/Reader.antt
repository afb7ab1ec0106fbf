-- What a reader of streams of Go's encoder has read of its input, and what its calls answer: the words of any reader,
-- for the profile.
use Rattle.std.specs.Prelude.{ℕ, List, Option}
use Rattle.gob_types.specs.Table.{Table}
use Rattle.gob_stream.specs.Bounds.{Bounds}
use Rattle.gob_stream.specs.Calls.ReaderOf.{EndsWithIn, HasReadBy, KnowsTypesBy}
use Rattle.gob_stream.specs.Calls.ReaderOf.{PassesOneBy, StepsOnBy, StopsBy}
use Rattle.gob_stream.specs.Stepping.{GivesItemsOf}
use Rattle.gob_stream.specs.declared.fault.Fault.{Fault}
use Rattle.gob_stream.specs.declared.reader_of.ReaderOf.{ReaderOf}
use Rattle.gob_stream.specs.declared.session.Advance.{Advance}
use Rattle.gob_filled.specs.Outcome.{profile}
use Rattle.gob_filled.specs.Stream.{FilledItem}
use Rattle.gob_go.specs.GoStepping.{go_stepping}
use Rattle.gob_go.specs.Machine.SessionState.{SessionState}
use Rattle.gob_go.specs.Meaning.{ItemMeans}
use Rattle.gob_go.specs.declared.item.GoItem.{GoItem}
pub use Rattle.gob_stream.specs.Calls.ReaderOf.{IsShort, room_in, session_of, waits_in}
pub use Rattle.gob_stream.specs.Stepping.{gives_none, gives_one}

abbrev pub GoReader : Type 0
GoReader = ReaderOf SessionState GoItem

-- of an input that had the first bytes and has the second ones left it has read what was between, and of what it has
-- taken of that it gave the items; behind them the types are those of gave.table, which are the session's where no byte
-- of an item is under way
abbrev pub HasReadFrom : GoReader → (read now : Option (List ℕ)) → List FilledItem → Type 0
HasReadFrom r read now items = HasReadBy go_stepping r read now items

-- ---- what its calls answer
-- bytes are the stream of the items with this table behind it, and all of them, so many, were read
abbrev pub EndsWith : Bounds → Table → (taken : ℕ) → List FilledItem → (bytes : List ℕ) → (now : Option (List ℕ))
    → Type 0
EndsWith L T taken items bytes now = EndsWithIn profile L T taken items bytes now

-- why no more items come of an input, where these were given and the types are those of T
abbrev pub StopsFrom : SessionState → Table → (read now : Option (List ℕ)) → List FilledItem → Fault → Type 0
StopsFrom s T read now items e = StopsBy go_stepping s T read now items e

-- the items of what a step gave, where the types are those of T
abbrev pub GivesItems : Table → Option GoItem → List FilledItem → Type 0
GivesItems T given items = GivesItemsOf (λ g i. ItemMeans T g i) given items

abbrev pub StepsOnFrom : (r r' : GoReader) → (read now : Option (List ℕ)) → List FilledItem → Advance GoItem → Type 0
StepsOnFrom r r' read now items step = StepsOnBy go_stepping r r' read now items step

-- the types behind a refusal: those where all that was read leads, with each definition that is whole in it
abbrev pub KnowsTypes : Bounds → (read now : Option (List ℕ)) → List FilledItem → Table → Type 0
KnowsTypes L read now items U = KnowsTypesBy go_stepping L read now items U

-- it went past the item whose bytes are these
abbrev pub PassesOne : (r r' : GoReader) → (used : ℕ) → Type 0
PassesOne r r' used = PassesOneBy go_stepping r r' used
