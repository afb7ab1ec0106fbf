-- What a run answers that writes the stream of the values of another, received as values of a wanted type, and what it
-- has written then. (docs/LIBRARY.md, Matching and receiving; docs/FORMAT.md, The program: this project's own.)
use Rattle.std.specs.Prelude.{ℕ, List, [], ◌∷◌, ◌++◌, length, Option, Result}
use Rattle.gob_types.specs.declared.id.TypeId.{TypeId}
use Rattle.gob_types.specs.Base.{base_table}
use Rattle.gob_types.specs.Table.{Table}
use Rattle.gob_value.specs.Tree.{Tree}
use Rattle.gob_match.specs.Matching.{Match}
use Rattle.gob_match.specs.Received.{Receives}
use Rattle.gob_stream.specs.Bounds.{Bounds}
use Rattle.gob_stream.specs.Item.{StreamItem, defines, puts}
use Rattle.gob_stream.specs.Stream.{Stream}
use Rattle.gob_tool.specs.declared.fault.ToolFault.{ToolFault}
use Rattle.gob_tool.specs.Taking.{WantedAnswers}

-- the definitions in front of the first value
abbrev pub in_front : List StreamItem → List StreamItem
in_front [] = []
in_front (defines id described ∷ items) = defines id described ∷ in_front items
in_front (puts id value ∷ items) = []

-- T has the types of the stream, and u is the wanted type, one of U: each value among the first items is of a type that
-- matches it, and the second items put what is received of them
pub data ArePutsReceived (T U : Table) (u : TypeId) : List StreamItem → List StreamItem → Type 0 where
  no_item : ArePutsReceived T U u [] []
  definition : {id : TypeId} {described : Tree} {items received : List StreamItem}
      → ArePutsReceived T U u items received → ArePutsReceived T U u (defines id described ∷ items) received
  value : {t : TypeId} {v w : Tree} {items received : List StreamItem} → Match T U t u → Receives T U t u v w
      → ArePutsReceived T U u items received
      → ArePutsReceived T U u (puts t v ∷ items) (puts u w ∷ received)

-- the limits, but for as long an item and a stream
abbrev pub as_long_as : List ℕ → Bounds → Bounds
as_long_as bytes L = record L { item = length bytes; stream = length bytes }

-- the stream of these definitions, and then of what is received of the items, and this holds of its bytes
pub record HasConverted (L : Bounds) (definitions : List StreamItem) (U : Table) (u : TypeId) (P : List ℕ → Type 0)
    (T : Table) (items : List StreamItem) : Type 0 where
  pub received : List StreamItem
  pub are : ArePutsReceived T U u items received
  pub bytes : List ℕ
  pub table : Table
  pub stream : Stream base_table (as_long_as bytes L) (definitions ++ received) bytes table
  pub holds : P bytes

-- how the run ends, over a wanted stream and an input with these bytes left, and an output with the old bytes: the
-- stream went out of the definitions in front of the wanted stream's first value and of what is received
abbrev pub ConvertAnswers : Bounds → (wanted bytes : List ℕ) → (wanted_now now old new : Option (List ℕ))
    → Result (Unit {0}) ToolFault → Type 0
ConvertAnswers L wanted bytes wanted_now now old new result =
    WantedAnswers (λ given U u P T items. HasConverted L (in_front given) U u P T items) L wanted bytes wanted_now now
    old new result
