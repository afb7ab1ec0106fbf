-- What a reader of the format has read of its input, and what its calls answer: the words of any reader, for the
-- format.
use Rattle.std.specs.Prelude.{ℕ, List, Option}
use Rattle.gob_types.specs.Table.{Table}
use Rattle.gob_read.specs.Building.{Building}
use Rattle.gob_value.specs.Tree.{Tree}
use Rattle.gob_stream.specs.Bounds.{Bounds}
use Rattle.gob_stream.specs.Calls.ReaderOf.{EndsWithIn, HasReadBy, StepsOnBy, StopsIn}
use Rattle.gob_stream.specs.Item.{StreamItem, ItemMeans}
use Rattle.gob_stream.specs.Machine.SessionState.{SessionState}
use Rattle.gob_stream.specs.Outcome.{strict}
use Rattle.gob_stream.specs.Stepping.{GivesItemsOf}
use Rattle.gob_stream.specs.StrictStepping.{strict_stepping}
use Rattle.gob_stream.specs.declared.fault.Fault.{Fault}
use Rattle.gob_stream.specs.declared.item.Item as declared
use Rattle.gob_stream.specs.declared.reader_of.ReaderOf.{ReaderOf}
use Rattle.gob_stream.specs.declared.session.Advance.{Advance}
pub use Rattle.gob_stream.specs.Calls.ReaderOf.{IsShort, left_to_read, most_ahead, room_in, session_of, waits_in}
pub use Rattle.gob_stream.specs.Stepping.{gives_none, gives_one}

abbrev pub StreamReader : (X O : Type 0) → Type 0
StreamReader X O = ReaderOf (SessionState X O) (declared.Item O)

-- of an input that had the first bytes and has the second ones left it has read what was between, and of what it has
-- taken of that it gave the items
abbrev pub HasReadFrom : {X O : Type 0} {most : ℕ} → Building X O most → StreamReader X O → (read now : Option (List ℕ))
    → List StreamItem → Type 0
HasReadFrom building r read now items = HasReadBy (strict_stepping building) r read now items

-- ---- what its calls answer
-- bytes are the stream of the items with this table behind it, and all of them, so many, were read
abbrev pub EndsWith : Bounds → Table → (taken : ℕ) → List StreamItem → (bytes : List ℕ) → (now : Option (List ℕ))
    → Type 0
EndsWith L T taken items bytes now = EndsWithIn strict L T taken items bytes now

-- why no more items come of an input that had these bytes, where these were given and the types are those of T
abbrev pub Stops : Bounds → Table → List StreamItem → (bytes : List ℕ) → (now : Option (List ℕ)) → Fault → Type 0
Stops L T items bytes now e = StopsIn strict L T items bytes now e

-- the items of what a step gave
abbrev pub GivesItems : {O : Type 0} → (means : O → Tree → Type 0) → Option (declared.Item O) → List StreamItem → Type 0
GivesItems means given items = GivesItemsOf (λ g i. ItemMeans means g i) given items

abbrev pub StepsOnFrom : {X O : Type 0} {most : ℕ} → Building X O most → (r r' : StreamReader X O)
    → (read now : Option (List ℕ)) → List StreamItem → Advance (declared.Item O) → Type 0
StepsOnFrom building r r' read now items step = StepsOnBy (strict_stepping building) r r' read now items step
