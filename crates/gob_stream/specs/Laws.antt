-- The laws of streams: their bytes tell their items, whatever the base table, the limits and the shapes are.
-- They follow from Go's encoding/gob documentation, Encoding Details; docs/FORMAT.md, Items and streams.
use Rattle.std.specs.Prelude.{◌≡◌, ℕ, ◌≤◌, ◌⊎◌, List, [], ◌++◌, length, take, Option, Some, Result, Ok, Err}
use Rattle.gob_types.specs.Table.{Table}
use Rattle.gob_types.specs.Base.{base_table}
use Rattle.gob_stream.specs.declared.fault.Refusal.{Refusal}
use Rattle.gob_stream.specs.declared.fault.Fault.{Fault}
use Rattle.gob_stream.specs.declared.fault.Fault.TheVariants as fault
use Rattle.gob_stream.specs.Bounds.{Bounds, no_deeper}
use Rattle.gob_stream.specs.Item.{StreamItem}
use Rattle.gob_stream.specs.Stream.{IsItem, Stream}
use Rattle.gob_stream.specs.Outcome.{BeginsWithStream, LongestStream, RefusesNext, Ending, Outcome}
use Rattle.gob_stream.specs.Reading.{ShowsRefusal, HasTypesBehind, ReadsStream}
use Rattle.gob_stream.specs.Calls.Writing.{WritesStream}

-- bytes are the stream of one list of items, with one table behind it
abbrev pub HaveOneReading : Type 0
HaveOneReading = (base : Table) (L : Bounds) (items others : List StreamItem) (bytes : List ℕ) (T U : Table)
    → Stream base L items bytes T → Stream base L others bytes U → (items ≡ others) × (T ≡ U)

-- the second list goes on after the first
pub record ItemsGoOn (items others : List StreamItem) : Type 0 where
  pub more : List StreamItem
  pub whole : others ≡ items ++ more

-- of two streams with which bytes begin, one begins the other
abbrev pub BeginOneAnother : Type 0
BeginOneAnother = (base : Table) (L : Bounds) (bytes : List ℕ) (items others : List StreamItem)
    → BeginsWithStream base L bytes items → BeginsWithStream base L bytes others → ItemsGoOn items others
    ⊎ ItemsGoOn others items

-- bytes give one list of items
abbrev pub GiveOneList : Type 0
GiveOneList = (base : Table) (L : Bounds) (bytes : List ℕ) (items others : List StreamItem)
    → LongestStream base L bytes items → LongestStream base L bytes others → items ≡ others

-- each of the second limits is at least the first
pub record AtLeast (L M : Bounds) : Type 0 where
  pub item : L.item ≤ M.item
  pub depth : L.depth ≤ M.depth
  pub types : L.types ≤ M.types
  pub stream : L.stream ≤ M.stream

-- a stream under limits is one under limits that are each at least those
abbrev pub StayStreams : Type 0
StayStreams = (base : Table) (L M : Bounds) (items : List StreamItem) (bytes : List ℕ) (T : Table)
    → AtLeast L M → Stream base L items bytes T → Stream base M items bytes T

-- a writer under limits that are each at most these has written the items as the bytes
pub record WrittenWithin (M : Bounds) (items : List StreamItem) (bytes : List ℕ) : Type 0 where
  pub limits : Bounds
  pub within : AtLeast limits M
  pub written : WritesStream limits items (Some []) (Some bytes) (Ok tt)

-- what a reader gives of the stream of the items: those at Ok, a prefix of them before a failed read or without memory,
-- and no refusal
abbrev pub ReadsThese : (given items : List StreamItem) → Result (Unit {0}) Fault → Type 0
ReadsThese given items (Ok _) = given ≡ items
ReadsThese given items (Err (fault.Refused r)) = ⊥
ReadsThese given items (Err fault.Read) = ItemsGoOn given items
ReadsThese given items (Err fault.Memory) = ItemsGoOn given items
ReadsThese given items (Err fault.Failed) = ⊥

-- what is written is read back as that list, under limits that are each at least the writer's
abbrev pub AreReadBack : Type 0
AreReadBack = (M : Bounds) (items given : List StreamItem) (bytes : List ℕ) (now : Option (List ℕ))
    (result : Result (Unit {0}) Fault)
    → WrittenWithin M items bytes → ReadsStream M bytes now given result → ReadsThese given items result

-- nor does any prefix of it show a refusal
abbrev pub ShowNoRefusal : Type 0
ShowNoRefusal = (M : Bounds) (items given : List StreamItem) (prefix rest : List ℕ) (R : Refusal)
    → WrittenWithin M items (prefix ++ rest) → ¬ ShowsRefusal M prefix given R

-- behind the items with which bytes begin there is one table of types
abbrev pub HaveOneTable : Type 0
HaveOneTable = (L : Bounds) (bytes : List ℕ) (items : List StreamItem) (T U : Table) → HasTypesBehind L bytes items T
    → HasTypesBehind L bytes items U → T ≡ U

-- limits that are no deeper than a builder goes are the limits themselves
abbrev pub StayLimits : Type 0
StayLimits = (most : ℕ) (L : Bounds) → L.depth ≤ most → no_deeper most L ≡ L

-- bytes have one outcome: one list of items, and one ending
abbrev pub HaveOneOutcome : Type 0
HaveOneOutcome = (L : Bounds) (bytes : List ℕ) (items others : List StreamItem) (e f : Ending)
    → Outcome base_table L bytes items e → Outcome base_table L bytes others f → (items ≡ others) × (e ≡ f)

-- and no bytes are without one
abbrev pub HaveAnOutcome : Type 0
HaveAnOutcome = (L : Bounds) (bytes : List ℕ) → ¬ ((items : List StreamItem) (e : Ending)
    → ¬ Outcome base_table L bytes items e)

-- what is refused behind a stream is no item
abbrev pub RefuseNoItem : Type 0
RefuseNoItem = (L : Bounds) (items : List StreamItem) (prefix z : List ℕ) (T : Table) (R : Refusal)
    → Stream base_table L items prefix T → RefusesNext base_table L T (length prefix) z R
    → (i : StreamItem) (b y : List ℕ) (U : Table) → IsItem base_table L T (length prefix) i b U → ¬ (z ≡ b ++ y)

-- the bytes that show a refusal are there, and it is the one of all bytes that begin with them
abbrev pub StreamsStayShown : Type 0
StreamsStayShown = (L : Bounds) (bytes others : List ℕ) (items : List StreamItem) (R : Refusal)
    → ShowsRefusal L bytes items R → take R.seen others ≡ take R.seen bytes
    → (R.seen ≤ length bytes) × ShowsRefusal L others items R
