-- The texts of items, as they are made and taken. For private clauses.
use Rattle.std.specs.Prelude.{◌≡◌, ℕ, ◌^◌, ◌<◌, ◌≤◌, List, [], ◌∷◌, ◌++◌, length, take, drop, min, Option}
use Rattle.std.specs.Prelude.{Result, Ok, Err, Bool, true, false}
use Rattle.gob_num.specs.Unsigned.{AreBytes}
use Rattle.gob_num.specs.declared.memory.Memory.{Memory}
use Rattle.gob_types.specs.Table.{Table}
use Rattle.gob_types.specs.declared.id.TypeId.{TypeId}
use Rattle.gob_value.specs.Whole.{IsWhole}
use Rattle.gob_stream.specs.Bounds.{greatest_depth}
use Rattle.gob_stream.specs.Calls.ReaderOf.{StopsBy}
use Rattle.gob_stream.specs.Stepping.{StandsBy}
use Rattle.gob_stream.specs.declared.fault.Fault.{Fault}
use Rattle.gob_filled.specs.Stream.{FilledItem}
use Rattle.gob_go.specs.Calls.Reader.{GoReader, HasReadFrom, session_of, waits_in}
use Rattle.gob_go.specs.Calls.Session.{HasBodyNext, IsBetweenItems, limits_of, taken_of, types_of}
use Rattle.gob_go.specs.GoStepping.{go_stepping}
use Rattle.gob_go.specs.Meaning.{ItemMeans}
use Rattle.gob_go.specs.declared.item.GoItem.{GoItem}
use Rattle.gob_go_writer.specs.Item.{IsItemOf}
use Rattle.gob_tool.specs.Machine.FormsGo.{AreItemsOf}
use Rattle.gob_tool.specs.Machine.Texts as any
use Rattle.gob_split.specs.Text.{IsTextOf, Text}
use Rattle.gob_split.specs.declared.item_text.ItemText.{ItemText}

abbrev pub text_in : ItemText → Text
text_in x = record { definitions = take x.definitions x.bytes.items; value = drop x.definitions x.bytes.items }

-- it is the text of whatever item this is kept of
pub record IsMadeOf (T : Table) (kept : GoItem) (x : ItemText) : Type 0 where
  pub within : x.definitions ≤ length x.bytes.items
  pub is : (i : FilledItem) → ItemMeans T kept i → IsTextOf T i (text_in x)

-- it is the bytes of the definitions, and of the value behind them
pub record IsApart (T : Table) (definitions : List GoItem) (value : GoItem) (x : ItemText) : Type 0 where
  pub within : x.definitions ≤ length x.bytes.items
  pub definitions_are : (bytes : List ℕ) → AreItemsOf T definitions bytes → (text_in x).definitions ≡ bytes
  pub value_is : (bytes : List ℕ) → IsItemOf T value bytes → (text_in x).value ≡ bytes

-- the bytes of the item, fewer than this
pub record IsShortText (T : Table) (kept : GoItem) (room : List ℕ) : Type 0 where
  pub short : length room < 2 ^ 60
  pub is : (bytes : List ℕ) → IsItemOf T kept bytes → room ≡ bytes

-- whatever bytes the item has are as few
abbrev pub IsShort : Table → GoItem → Type 0
IsShort T kept = (bytes : List ℕ) → IsItemOf T kept bytes → length bytes < 2 ^ 60

-- the reader has read some items of some input
abbrev pub HasReadSome : GoReader → Type 0
HasReadSome r = any.HasReadSome go_stepping r

-- the body is that of a value of the type, no deeper than this
pub record IsWholeBody (T : Table) (id : TypeId) (limit : ℕ) (body : List ℕ) : Type 0 where
  pub are_bytes : AreBytes body
  pub whole : IsWhole T id limit body

-- the first bytes that wait are the item of a value of the type, in which no interface holds another
pub record IsWholeNext (r : GoReader) (id : TypeId) (body : List ℕ) (used : ℕ) : Type 0 where
  pub between : IsBetweenItems (session_of r)
  pub next : HasBodyNext (session_of r) id body used (waits_in r)
  pub is : IsWholeBody (types_of (session_of r)) id (min (limits_of (session_of r)).depth greatest_depth) body

-- one item was taken, and this is its text
pub record TakesText (r r' : GoReader) (read now : Option (List ℕ)) (given : List FilledItem) (x : ItemText) :
    Type 0 where
  pub item : FilledItem
  pub after : HasReadFrom r' read now (given ++ item ∷ [])
  pub within : x.definitions ≤ length x.bytes.items
  pub text : IsTextOf (types_of (session_of r')) item (text_in x)
  pub between : IsBetweenItems (session_of r')
  pub onward : taken_of (session_of r) < taken_of (session_of r')

-- some bytes were taken, with which no item is whole
pub record TakesNone (r r' : GoReader) (read now : Option (List ℕ)) (given : List FilledItem) : Type 0 where
  pub after : HasReadFrom r' read now given
  pub onward : taken_of (session_of r) < taken_of (session_of r')

-- why nothing was
pub record TakesNoMore (r : GoReader) (read now : Option (List ℕ)) (given : List FilledItem) (e : Fault) : Type
    0 where
  pub table : Table
  pub stops : StopsBy go_stepping (session_of r) table read now given e

abbrev pub TakesNext : (r r' : GoReader) → (read now : Option (List ℕ)) → List FilledItem → ItemText
    → Result Bool Fault → Type 0
TakesNext r r' read now given x (Ok true) = TakesText r r' read now given x
TakesNext r r' read now given x (Ok false) = TakesNone r r' read now given
TakesNext r r' read now given x (Err e) = TakesNoMore r read now given e

-- an item that waits as a whole was passed
pub record PassesWhole (r r' : GoReader) (x : ItemText) : Type 0 where
  pub taken : (read now : Option (List ℕ)) (given : List FilledItem) → HasReadFrom r read now given
      → TakesText r r' read now given x
  pub stands : StandsBy go_stepping (session_of r')
  pub limits : limits_of (session_of r') ≡ limits_of (session_of r)

abbrev pub PassesText : (r r' : GoReader) → ItemText → Result Bool Memory → Type 0
PassesText r r' x (Ok true) = PassesWhole r r' x
PassesText r r' x (Ok false) = r' ≡ r
PassesText r r' x (Err memory) = r' ≡ r
