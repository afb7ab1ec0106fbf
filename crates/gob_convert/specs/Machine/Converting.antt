-- Where a run stands that converts the items of a stream. For private clauses.
use Rattle.std.specs.Prelude.{◌≡◌, ℕ, ◌<◌, Bool, List, [], ◌∷◌, ◌++◌, Option, None, Some, Result, Ok, Err, true}
use Rattle.std.specs.Io.KnownBytes.{Appends}
use Rattle.gob_types.specs.declared.id.TypeId.{TypeId}
use Rattle.gob_types.specs.Ready.{IsReady}
use Rattle.gob_types.specs.Table.{Table}
use Rattle.gob_value.specs.Top.{SpellsTop}
use Rattle.gob_value.specs.Tree.{Tree}
use Rattle.gob_left_out.specs.LeftOut.{AreLeftOut, Row}
use Rattle.gob_left_out.specs.Tally.{TallyRow}
use Rattle.gob_match.specs.Pairs.{of_types}
use Rattle.gob_stream.specs.Bounds.{within_trees}
use Rattle.gob_stream.specs.Stepping.{StandsBy}
use Rattle.gob_filled.specs.Filled as spelled
use Rattle.gob_filled.specs.Stream.{FilledItem, putting}
use Rattle.gob_filled_match.specs.Calls.{KeepsKnown}
use Rattle.gob_filled_match.specs.Loss.{KnowsLoss}
use Rattle.gob_go.specs.Calls.Reader.{GoReader, HasReadFrom, session_of}
use Rattle.gob_go.specs.Calls.Session.{limits_of, taken_of}
use Rattle.gob_go.specs.GoStepping.{go_stepping}
use Rattle.gob_go.specs.Meaning.{IsFilled, ItemMeans}
use Rattle.gob_go.specs.declared.item.GoItem.{GoItem}
use Rattle.gob_go.specs.declared.item.GoItem.TheVariants as item
use Rattle.gob_go_writer.specs.Calls.Writer.{HasPut, types_of}
use Rattle.gob_go_writer.specs.Calls.Writer as writer
use Rattle.gob_join.specs.Renaming.{Extends, IsRenaming, NewId, among, values_of}
use Rattle.gob_join.specs.Taking.{WritesOn}
use Rattle.gob_tool.specs.declared.fault.ToolFault.TheVariants as fault
use Rattle.gob_convert.specs.Clashing.{TellsClash}
use Rattle.gob_convert.specs.Converting.{AreConverted, IsConverted, IsWholeIf, skeleton_of}
use Rattle.gob_convert.specs.Running.{ConvertsBehind, LeavesField, Tallies}
use Rattle.gob_convert.specs.declared.conversion.Conversion.{Conversion}
use Rattle.gob_convert.specs.declared.fault.ConvertFault.{ConvertFault}
use Rattle.gob_convert.specs.declared.fault.ConvertFault.TheVariants as stop

-- which ids stand for which
abbrev pub ids_of : Conversion → NewId
ids_of c = among c.known.renaming

-- values of u, one of W, are values of the type in the table
pub record AreValues (W : Table) (u : TypeId) (U : Table) : Type 0 where
  pub each : (v : Tree) (b : List ℕ) → SpellsTop W u v b → SpellsTop U u v b

-- what is kept of matches is of these types
pub record Knows (T W : Table) (u : TypeId) (c : Conversion) : Type 0 where
  pub match : KeepsKnown T W u c.last
  pub loss : KnowsLoss T W u c.loss

-- some items were read, and what is kept of matches is of the types behind them
pub record KnowsSo (r : GoReader) (read now : Option (List ℕ)) (c : Conversion) (W : Table) (u : TypeId) : Type
    0 where
  pub given : List FilledItem
  pub has : HasReadFrom r read now given
  pub stands : StandsBy go_stepping (session_of r)
  pub known : Knows has.gave.table W u c

-- the values of these are converted: behind the items in front, which are those bytes, the writer has put more
pub record HasPutSo (all : Bool) (r : GoReader) (read : Option (List ℕ)) (given : List FilledItem) (T : Table)
    (c : Conversion) (W : Table) (u : TypeId) (front : List FilledItem) (out : List ℕ)
    (start sent : Option (List ℕ)) (told : List TallyRow) : Type 0 where
  pub items : List FilledItem
  pub more : List ℕ
  pub put : HasPut c.writer (front ++ items) (out ++ more)
  pub went : Appends start sent (out ++ more)
  pub limits : writer.limits_of c.writer ≡ limits_of (session_of r)
  pub fits : AreValues W u (types_of c.writer)
  pub renaming : IsRenaming (ids_of c) T (types_of c.writer)
  pub left : List (List Row)
  pub tallies : Tallies told c.left_out left
  pub values : (bytes : List ℕ) → read ≡ Some bytes
      → AreConverted all (within_trees (limits_of (session_of r))) bytes W u (ids_of c) given (values_of items)
      left

pub record ConvertsSo (all : Bool) (r : GoReader) (read now : Option (List ℕ)) (c : Conversion) (W : Table)
    (u : TypeId) (front : List FilledItem) (out : List ℕ) (start sent : Option (List ℕ)) (told : List TallyRow) : Type
    0 where
  pub knows : KnowsSo r read now c W u
  pub puts : HasPutSo all r read knows.given knows.has.gave.table c W u front out start sent told

-- and some bytes more were taken
pub record KnowsOn (r r' : GoReader) (read now : Option (List ℕ)) (c : Conversion) (W : Table) (u : TypeId) : Type
    0 where
  pub so : KnowsSo r' read now c W u
  pub onward : taken_of (session_of r) < taken_of (session_of r')

-- why no more are
abbrev pub StopsConverting : (all : Bool) → GoReader → (read now : Option (List ℕ)) → (W : Table) → TypeId
    → (front : List FilledItem) → (start sent : Option (List ℕ)) → (told telling : List TallyRow) → ConvertFault
    → Type 0
StopsConverting all r read now W u front start sent told telling e = (bytes : List ℕ) → read ≡ Some bytes
    → ConvertsBehind all (within_trees (limits_of (session_of r))) bytes now front W u start sent told telling (Err e)

abbrev pub ConvertsNext : (all : Bool) → (r : GoReader) → (read now : Option (List ℕ)) → Conversion → Table → TypeId
    → (front : List FilledItem) → (out : List ℕ) → (start sent : Option (List ℕ)) → (told : List TallyRow)
    → Result (Unit {0}) ConvertFault → Type 0
ConvertsNext all r read now c W u front out start sent told (Ok _) =
    ConvertsSo all r read now c W u front out start sent told
ConvertsNext all r read now c W u front out start sent told (Err e) =
    StopsConverting all r read now W u front start sent told c.left_out e

-- ---- an item
-- what was handed out is the last item of a stream, behind which the types are those of the table
pub record IsLastGiven (T : Table) (given : GoItem) : Type 0 where
  pub item : FilledItem
  pub means : ItemMeans T given item
  pub ready : (id : TypeId) (w : spelled.Filled) → item ≡ putting id w → IsReady T id

-- these are the fields that it leaves out, and there are none where none may be left out
pub record LeavesRows (all : Bool) (T W : Table) (t u : TypeId) (w : spelled.Filled) (rows : List Row) : Type 0 where
  pub whole : IsWholeIf all T W t u w
  pub left_out : AreLeftOut T W (of_types t u) (skeleton_of w) rows

-- a value of this type was put as what is received of it, behind definitions
pub record PutsReceived (all : Bool) (c c' : Conversion) (items : List FilledItem) (bytes old new : List ℕ)
    (T W : Table) (t u : TypeId) (w : spelled.Filled) : Type 0 where
  pub more : List FilledItem
  pub made : spelled.Filled
  pub on : WritesOn c.writer c'.writer items bytes old new more
  pub renaming : IsRenaming (ids_of c') T (types_of c'.writer)
  pub extends : Extends (ids_of c) (ids_of c')
  pub values : values_of more ≡ putting u made ∷ []
  pub rows : List Row
  pub converted : IsConverted all T W t u (ids_of c') w made rows
  pub tallies : Tallies c.left_out c'.left_out (rows ∷ [])

-- why it wasn't
abbrev pub StopsAt : (all : Bool) → (T W : Table) → (t u : TypeId) → spelled.Filled → ConvertFault → Type 0
StopsAt all T W t u w (stop.Misfits number why) = ⊥
StopsAt all T W t u w (stop.Full why) = Unit {0}
StopsAt all T W t u w (stop.Clash c) = TellsClash T W t u c
StopsAt all T W t u w (stop.Run (fault.LeftOut path number)) = (all ≡ true) × LeavesField W u path.items T t w
StopsAt all T W t u w (stop.Run fault.Memory) = Unit {0}
StopsAt all T W t u w (stop.Run f) = ⊥

abbrev pub PutAnswers : (all : Bool) → (c c' : Conversion) → List FilledItem → (bytes old new : List ℕ)
    → (T W : Table) → (t u : TypeId) → spelled.Filled → Result (Unit {0}) ConvertFault → Type 0
PutAnswers all c c' items bytes old new T W t u w (Ok _) = PutsReceived all c c' items bytes old new T W t u w
PutAnswers all c c' items bytes old new T W t u w (Err e) = StopsAt all T W t u w e

-- some items were read, and what is kept of matches is of the types behind them
pub record KnowsSome (r : GoReader) (c : Conversion) (W : Table) (u : TypeId) : Type 0 where
  pub read : Option (List ℕ)
  pub now : Option (List ℕ)
  pub so : KnowsSo r read now c W u

-- what stops a value from being put
abbrev pub IsPutStop : ConvertFault → Type 0
IsPutStop (stop.Full why) = Unit {0}
IsPutStop (stop.Clash c) = Unit {0}
IsPutStop (stop.Run (fault.LeftOut path number)) = Unit {0}
IsPutStop (stop.Run fault.Memory) = Unit {0}
IsPutStop _ = ⊥

-- where it tells a value's number that is this one
abbrev pub IsNumbered : (number : ℕ) → ConvertFault → Type 0
IsNumbered number (stop.Clash c) = c.value ≡ number
IsNumbered number (stop.Run (fault.LeftOut path value)) = value ≡ number
IsNumbered number _ = Unit {0}

-- what a step gave is converted, whichever items were put before
abbrev pub ConvertsItem : (all : Bool) → Option GoItem → (c c' : Conversion) → (old new : List ℕ) → (T W : Table)
    → TypeId → Result (Unit {0}) ConvertFault → Type 0
ConvertsItem all None c c' old new T W u r = (r ≡ Ok tt) × (c' ≡ c) × (new ≡ old)
ConvertsItem all (Some (item.Define id described)) c c' old new T W u r = (r ≡ Ok tt) × (c' ≡ c) × (new ≡ old)
ConvertsItem all (Some (item.Put id kept)) c c' old new T W u r = (w : spelled.Filled) (items : List FilledItem)
    (bytes : List ℕ) → IsFilled T id kept w → HasPut c.writer items bytes
    → IsRenaming (ids_of c) T (types_of c.writer) → AreValues W u (types_of c.writer)
    → PutAnswers all c c' items bytes old new T W id u w r
