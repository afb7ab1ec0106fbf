-- What is written of the values of a stream, received as values of a wanted type, with what their interfaces hold.
-- (docs/LIBRARY.md, Matching and receiving; docs/FORMAT.md, Streams joined: this project's own.)
use Rattle.std.specs.Prelude.{◌≡◌, ℕ, Bool, true, false, List, [], ◌∷◌, ◌++◌, Option, Some, None}
use Rattle.gob_types.specs.declared.id.TypeId.{TypeId}
use Rattle.gob_types.specs.Base.{base_table}
use Rattle.gob_types.specs.Table.{Table}
use Rattle.gob_value.specs.Tree.{Tree}
use Rattle.gob_left_out.specs.LeftOut.{AreLeftOut, LeavesNothing, Row}
use Rattle.gob_match.specs.Matching.{Match}
use Rattle.gob_match.specs.Pairs.{of_types}
use Rattle.gob_stream.specs.Bounds.{Bounds}
use Rattle.gob_filled.specs.Filled.{Filled, filled, Fillings}
use Rattle.gob_filled.specs.Outcome.{BeginsFilled}
use Rattle.gob_filled.specs.Stream.{FilledItem, defining, putting, FilledStream}
use Rattle.gob_filled_match.specs.Received.{ReceivesFilled}
use Rattle.gob_join.specs.Renaming.{AreRenamedFillings, IsRenaming, NewId, values_of}

-- the tree of its skeleton
abbrev pub skeleton_of : Filled → Tree
skeleton_of (filled v fs) = v

-- it leaves out nothing, where no field may be left out
abbrev pub IsWholeIf : (all : Bool) → (T W : Table) → (t u : TypeId) → Filled → Type 0
IsWholeIf false T W t u w = Unit {0}
IsWholeIf true T W t u w = LeavesNothing T W (of_types t u) (skeleton_of w)

-- the second value is received of the first, as one of a type that matches its own, and other ids stand for the types
-- of what its interfaces hold; these are the fields that the first leaves out
pub record IsConverted (all : Bool) (T W : Table) (t u : TypeId) (R : NewId) (w made : Filled) (rows : List Row) : Type
    0 where
  pub match : Match T W t u
  pub whole : IsWholeIf all T W t u w
  pub left_out : AreLeftOut T W (of_types t u) (skeleton_of w) rows
  pub skeleton : Tree
  pub kept : Fillings
  pub renamed : Fillings
  pub received : ReceivesFilled T W t u w (filled skeleton kept)
  pub are_renamed : AreRenamedFillings R kept renamed
  pub made_is : made ≡ filled skeleton renamed

-- the bytes begin with the stream of the first items, and the second items put what is received of the values among
-- these, one by one, each by the types behind it; each of these values leaves out those fields
pub data AreConverted (all : Bool) (L : Bounds) (bytes : List ℕ) (W : Table) (u : TypeId) (R : NewId)
    : List FilledItem → List FilledItem → (left : List (List Row)) → Type 0 where
  no_item : AreConverted all L bytes W u R [] [] []
  definition_then : {items converted : List FilledItem} {left : List (List Row)} (id : TypeId) (described : Tree)
      → AreConverted all L bytes W u R items converted left
      → AreConverted all L bytes W u R (items ++ defining id described ∷ []) converted left
  value_then : {items converted : List FilledItem} {left : List (List Row)} {rows : List Row} (t : TypeId)
      (w made : Filled)
      → AreConverted all L bytes W u R items converted left
      → (b : BeginsFilled base_table L bytes (items ++ putting t w ∷ []))
      → IsConverted all b.table W t u R w made rows
      → AreConverted all L bytes W u R (items ++ putting t w ∷ []) (converted ++ putting u made ∷ [])
      (left ++ rows ∷ [])

-- the definitions in front of the first value
abbrev pub in_front : List FilledItem → List FilledItem
in_front [] = []
in_front (defining id described ∷ items) = defining id described ∷ in_front items
in_front (putting id value ∷ items) = []

-- the type of the first value
abbrev pub first_type : List FilledItem → Option TypeId
first_type [] = None
first_type (defining id described ∷ items) = first_type items
first_type (putting id value ∷ items) = Some id

-- there is a stream of these definitions and of more items behind them: its values are what is received of those of the
-- given items, and each id that stands for a type of these does so with its shape. This holds of its bytes, and of what
-- each of the given values leaves out.
pub record HasConverted (all : Bool) (L : Bounds) (bytes : List ℕ) (front : List FilledItem) (W : Table) (u : TypeId)
    (P : List ℕ → List (List Row) → Type 0) (T : Table) (given : List FilledItem) : Type 0 where
  pub made : List FilledItem
  pub out : List ℕ
  pub table : Table
  pub stream : FilledStream base_table L (front ++ made) out table
  pub ids : NewId
  pub renaming : IsRenaming ids T table
  pub left : List (List Row)
  pub values : AreConverted all L bytes W u ids given (values_of made) left
  pub holds : P out left
