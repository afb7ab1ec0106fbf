-- The parts of a value, printed while its item is read. For private clauses.
use Rattle.std.specs.Prelude.{◌≡◌, ℕ, ◌+◌, ◌<◌, ◌≤◌, Bool, true, false, List, [], ◌∷◌, ◌++◌, drop, length}
use Rattle.std.specs.Prelude.{Option, Some, Result, Ok, Err}
use Rattle.std.specs.Io.KnownBytes.{Appends}
use Rattle.gob_num.specs.Unsigned.{IsUnsigned}
use Rattle.gob_types.specs.Defined.{types}
use Rattle.gob_types.specs.Ready.{Reaches}
use Rattle.gob_types.specs.Table.{Table, shape_of}
use Rattle.gob_types.specs.declared.basic.Basic.TheVariants as basic
use Rattle.gob_types.specs.declared.id.TypeId.{TypeId}
use Rattle.gob_types.specs.declared.kind.Kind.{Kind}
use Rattle.gob_types.specs.declared.kind.Kind.TheVariants as kind
use Rattle.gob_types.specs.declared.kind.Shape.{Shape}
use Rattle.gob_value.specs.Top.{SpellsTop}
use Rattle.gob_value.specs.Tree.{Tree}
use Rattle.gob_stream.specs.Bounds.{Bounds}
use Rattle.gob_stream.specs.Calls.ReaderOf.{HasReadBy, StopsBy}
use Rattle.gob_stream.specs.Devices.{counts_up}
use Rattle.gob_stream.specs.Stepping.{Stepping}
use Rattle.gob_stream.specs.declared.fault.Fault.{Fault}
use Rattle.gob_stream.specs.declared.reader_of.ReaderOf.{ReaderOf}
use Rattle.gob_filled.specs.Filled.{filled, no_filling}
use Rattle.gob_filled.specs.Outcome.{profile}
use Rattle.gob_filled.specs.Stream.{FilledItem, putting}
use Rattle.gob_go.specs.Calls.Reader.{GoReader, session_of}
use Rattle.gob_go.specs.GoStepping.{go_stepping, passing_stepping}
use Rattle.gob_go.specs.Machine.SessionState.{SessionState}
use Rattle.gob_go.specs.declared.item.GoItem.{GoItem}
use Rattle.gob_plain.specs.declared.style.Style.{Style}
use Rattle.gob_tool.specs.Answering.{AppendsPrefix, RunAnswersIn}
use Rattle.gob_tool.specs.Fault.{reading_fault}
use Rattle.gob_tool.specs.Machine.Texts.{MakesOnward, bounds_of}
use Rattle.gob_tool.specs.Texts.{IsTextBy, OfTexts, TextsAnswersIn}
use Rattle.gob_tool.specs.TextsGo.{of_given, of_value}
use Rattle.gob_tool.specs.declared.fault.ToolFault.{ToolFault}
use Rattle.gob_tool.specs.declared.fault.ToolFault.TheVariants as fault
use Rattle.gob_words.specs.Words.{text_of}
use Rattle.gob_views.specs.Each.{BeginsWithParts, EachAnswers, OfLines}
use Rattle.gob_views.specs.Machine.PartLines.{AreParts, HasParts, PrintsEach, SaysLines}
use Rattle.gob_views.specs.Values.{IsChosen, IsPlainLine}
use Rattle.gob_views.specs.declared.body_lines.PartsAhead.{PartsAhead}
use Rattle.gob_views.specs.declared.part_stream.BegunParts.{BegunParts}
use Rattle.gob_views.specs.declared.value_line.ValueLines.{ValueLines}

-- ---- types

-- a kind of values that may hold others
abbrev pub IsInterface : Kind → Type 0
IsInterface k = k ≡ kind.Basic basic.Interface

-- no interface stands in a value of the type
abbrev pub IsBare : Table → TypeId → Type 0
IsBare T t = (u : TypeId) (s : Shape) → Reaches T t u → shape_of T u ≡ Some s → ¬ IsInterface s.kind

-- ---- an item that has begun

-- behind the head the bytes begin as the body of a value of the type that has these parts
pub record PartsBegin (T : Table) (id : TypeId) (head : ℕ) (bytes : List ℕ) (ahead : PartsAhead) : Type 0 where
  pub inside : ahead.begin ≤ length bytes
  pub type_is : HasParts T id ahead.parts
  pub counted : List ℕ
  pub counts : IsUnsigned ahead.count counted
  pub whole : drop head bytes ≡ 0 ∷ (counted ++ drop ahead.begin bytes)

-- the bytes begin as the item of such a value, whose parts begin so far behind
pub record HasBegunParts (lines : ValueLines) (L : Bounds) (T : Table) (begun : BegunParts) (bytes : List ℕ) : Type
    0 where
  pub begins : BeginsWithParts L T begun.id begun.parts.parts begun.parts.count bytes (drop begun.parts.begin bytes)
  pub inside : begun.parts.begin ≤ length bytes
  pub each : lines.each ≡ true
  pub chosen : IsChosen (text_of lines.only) T begun.id
  pub bare : IsBare T begun.id
  pub deep : begun.depth + 1 ≡ L.depth

-- its first parts stand in these bytes, and the text has their lines; the others are behind the place of those that
-- were taken and kept, and of those that follow
pub record HasPrinted (lines : ValueLines) (style : Style) (L : Bounds) (T : Table) (begun : BegunParts)
    (bytes : List ℕ) (ahead : PartsAhead) (kept behind text : List ℕ) : Type 0 where
  pub spelled : List ℕ
  pub first : ℕ
  pub begins : BeginsWithParts L T begun.id begun.parts.parts begun.parts.count bytes (spelled
      ++ drop ahead.begin (kept ++ behind))
  pub inside : ahead.begin ≤ length (kept ++ behind)
  pub parts_are : ahead.parts ≡ begun.parts.parts
  pub counted : first + ahead.count ≡ begun.parts.count
  pub are : AreParts lines style T begun.id begun.depth begun.parts.parts spelled first text

-- ---- parts that are printed

-- some of the parts ahead were printed: of these bytes, and the text has their lines
pub record PrintsSome (lines : ValueLines) (style : Style) (T : Table) (t : TypeId) (limit : ℕ)
    (old new : PartsAhead) (kept kept' made : List ℕ) : Type 0 where
  pub spelled : List ℕ
  pub first : ℕ
  pub counted : old.count ≡ first + new.count
  pub parts_are : new.parts ≡ old.parts
  pub are : AreParts lines style T t limit old.parts spelled first made
  pub left : (behind : List ℕ) → old.begin ≤ length (kept ++ behind)
      → (drop old.begin (kept ++ behind) ≡ spelled ++ drop new.begin (kept' ++ behind))
      × (new.begin ≤ length (kept' ++ behind))

-- and where the item is whole, the lines of the value that has the others alone, where there are any
abbrev pub PrintsRest : (is_whole : Bool) → ValueLines → Style → Table → TypeId → PartsAhead → (kept old new : List ℕ)
    → Type 0
PrintsRest false lines style T t ahead kept old new = new ≡ old
PrintsRest true lines style T t ahead kept old new = (ahead.count ≡ 0 → new ≡ old)
    × (0 < ahead.count → (v : Tree)
    → ((c : List ℕ) → IsUnsigned ahead.count c → SpellsTop T t v (0 ∷ (c ++ drop ahead.begin kept)))
    → SaysLines lines style T t v old new)

-- both
pub record PrintsWhole (is_whole : Bool) (lines : ValueLines) (style : Style) (T : Table) (t : TypeId) (limit : ℕ)
    (old new : PartsAhead) (kept kept' before text : List ℕ) : Type 0 where
  pub made : List ℕ
  pub some : PrintsSome lines style T t limit old new kept kept' made
  pub rest : PrintsRest is_whole lines style T t new kept' (before ++ made) text

-- ---- steps

-- the item is whole, or no item is
abbrev pub IsMore : (is_whole : Bool) → List FilledItem → Type 0
IsMore true more = (i : FilledItem) × (more ≡ i ∷ [])
IsMore false more = more ≡ []

-- some bytes were taken, and are behind those that were kept; the item is whole with them or not
pub record TakesOn (r r' : ReaderOf SessionState GoItem) (read now : Option (List ℕ)) (given : List FilledItem)
    (kept kept' : List ℕ) (is_whole : Bool) : Type 0 where
  pub more : List FilledItem
  pub is_more : IsMore is_whole more
  pub after : HasReadBy passing_stepping r' read now (given ++ more)
  pub onward : passing_stepping.taken (session_of r) < passing_stepping.taken (session_of r')
  pub bytes : (all : List ℕ) → read ≡ Some all → kept ++ drop (passing_stepping.taken (session_of r)) all ≡ kept'
      ++ drop (passing_stepping.taken (session_of r')) all

-- what the reader met
pub record StopsSo (r : ReaderOf SessionState GoItem) (read now : Option (List ℕ)) (given : List FilledItem)
    (f : ToolFault) : Type 0 where
  pub table : Table
  pub fault : Fault
  pub is : f ≡ reading_fault fault
  pub stops : StopsBy passing_stepping (session_of r) table read now given fault

abbrev pub TakesNext : (r r' : ReaderOf SessionState GoItem) → (read now : Option (List ℕ)) → List FilledItem
    → (kept kept' : List ℕ) → Result Bool ToolFault → Type 0
TakesNext r r' read now given kept kept' (Ok is_whole) = TakesOn r r' read now given kept kept' is_whole
TakesNext r r' read now given kept kept' (Err f) = StopsSo r read now given f

-- what a step brings: more bytes, and the lines of what is whole with them, by the types that are known then
pub record MakesParts (lines : ValueLines) (style : Style) (begun : BegunParts) (r r' : ReaderOf SessionState GoItem)
    (read now : Option (List ℕ)) (given : List FilledItem) (old new : PartsAhead) (kept kept' before text : List ℕ)
    (is_whole : Bool) : Type 0 where
  pub grown : List ℕ
  pub takes : TakesOn r r' read now given kept grown is_whole
  pub prints : PrintsEach lines style → HasParts (types (passing_stepping.table (session_of r'))) begun.id old.parts
      → PrintsWhole is_whole lines style (types (passing_stepping.table (session_of r'))) begun.id begun.depth old new
      grown kept' before text

abbrev pub MakesNextParts : ValueLines → Style → BegunParts → (r r' : ReaderOf SessionState GoItem)
    → (read now : Option (List ℕ)) → List FilledItem → (old new : PartsAhead) → (kept kept' before text : List ℕ)
    → Result Bool ToolFault → Type 0
MakesNextParts lines style begun r r' read now given old new kept kept' before text (Ok is_whole) =
    MakesParts lines style begun r r' read now given old new kept kept' before text is_whole
MakesNextParts lines style begun r r' read now given old new kept kept' before text (Err f) =
    StopsSo r read now given f

-- ---- the item
-- it has read some items of an input that has these bytes left
pub record HasReadSomeOf {X I Told : Type 0} (d : Stepping X I Told) (r : ReaderOf X I) (now : Option (List ℕ)) : Type
    0 where
  pub read : Option (List ℕ)
  pub given : List Told
  pub has : HasReadBy d r read now given

-- the item is a value in which no interface holds another, and the text has its lines
pub record IsUnfilledLine (lines : ValueLines) (T : Table) (item : FilledItem) (made : List ℕ) : Type 0 where
  pub id : TypeId
  pub value : Tree
  pub is : item ≡ putting id (filled value no_filling)
  pub line : IsPlainLine lines T (putting id (filled value no_filling)) made

-- the item is whole, and the text has the lines of its value
pub record PrintsItem {X I : Type 0} (d : Stepping X I FilledItem) (lines : ValueLines) (r r' : ReaderOf X I)
    (read now : Option (List ℕ)) (given : List FilledItem) (made : List ℕ) : Type 0 where
  pub item : FilledItem
  pub after : HasReadBy d r' read now (given ++ item ∷ [])
  pub onward : d.taken (session_of r) < d.taken (session_of r')
  pub line : (bytes : List ℕ) → read ≡ Some bytes → IsUnfilledLine lines (types (d.table (session_of r'))) item made

-- they went out
abbrev pub PrintsOn : {X I : Type 0} → Stepping X I FilledItem → ValueLines → (r r' : ReaderOf X I)
    → (read now : Option (List ℕ)) → List FilledItem → (old new : Option (List ℕ)) → Type 0
PrintsOn d lines r r' read now given old new =
    (made : List ℕ) × PrintsItem d lines r r' read now given made × Appends old new made

-- or before a fault the lines of its first parts
abbrev pub StopsPrinting : {X I : Type 0} → Stepping X I FilledItem → ValueLines → ReaderOf X I
    → (read now : Option (List ℕ)) → List FilledItem → (old new : Option (List ℕ)) → ToolFault → Type 0
StopsPrinting d lines r read now given old new f = (bytes : List ℕ) → read ≡ Some bytes
    → (start : Option (List ℕ)) → OfTexts profile (IsPlainLine lines) (bounds_of d r) bytes (Appends start old) given
    → RunAnswersIn profile (bounds_of d r) bytes now
    (λ T items. OfLines lines (bounds_of d r) bytes (Appends start new) items)
    (λ T items. OfLines lines (bounds_of d r) bytes (AppendsPrefix start new) items) (Err f)

abbrev pub PrintsParts : ValueLines → (r r' : ReaderOf SessionState GoItem) → (read now : Option (List ℕ))
    → List FilledItem → (old new : Option (List ℕ)) → Result (Unit {0}) ToolFault → Type 0
PrintsParts lines r r' read now given old new (Ok u) = PrintsOn passing_stepping lines r r' read now given old new
PrintsParts lines r r' read now given old new (Err f) = StopsPrinting passing_stepping lines r read now given old new f

abbrev pub PrintsValue : ValueLines → GoReader → (read now : Option (List ℕ)) → List FilledItem
    → (old new : Option (List ℕ)) → Result GoReader ToolFault → Type 0
PrintsValue lines r read now given old new (Ok r') = PrintsOn go_stepping lines r r' read now given old new
PrintsValue lines r read now given old new (Err f) = StopsPrinting go_stepping lines r read now given old new f

-- ---- texts of other items
abbrev pub IsLineBy : ValueLines → Table → FilledItem → List ℕ → Type 0
IsLineBy lines T i text = IsTextBy go_stepping (of_given (IsPlainLine lines)) (of_value (IsPlainLine lines)) T i text

-- the lines of what was whole with some of the bytes went out
abbrev pub WritesOnward : ValueLines → (r r' : GoReader) → (read now : Option (List ℕ)) → List FilledItem
    → (old new : Option (List ℕ)) → Type 0
WritesOnward lines r r' read now given old new =
    (made : List ℕ) × MakesOnward go_stepping (IsLineBy lines) r r' read now given made × Appends old new made

abbrev pub FillsTexts : ValueLines → (r r' : GoReader) → (read now : Option (List ℕ)) → List FilledItem
    → (old new : Option (List ℕ)) → Result (Unit {0}) ToolFault → Type 0
FillsTexts lines r r' read now given old new (Ok u) = WritesOnward lines r r' read now given old new
FillsTexts lines r r' read now given old new (Err f) = (bytes : List ℕ) → read ≡ Some bytes
    → (start : Option (List ℕ)) → OfTexts profile (IsLineBy lines) (bounds_of go_stepping r) bytes (Appends start old)
    given
    → TextsAnswersIn profile (IsLineBy lines) (bounds_of go_stepping r) bytes now start new (Err f)

-- of these, or of the value whose item had begun
abbrev pub WritesLines : ValueLines → GoReader → (read now : Option (List ℕ)) → List FilledItem
    → (old new : Option (List ℕ)) → Result GoReader ToolFault → Type 0
WritesLines lines r read now given old new (Ok r') = WritesOnward lines r r' read now given old new
WritesLines lines r read now given old new (Err f) = (bytes : List ℕ) → read ≡ Some bytes
    → (start : Option (List ℕ)) → OfTexts profile (IsLineBy lines) (bounds_of go_stepping r) bytes (Appends start old)
    given
    → EachAnswers lines (bounds_of go_stepping r) bytes now start new (Err f)

-- ---- what is counted
-- a read failed where the fault is `Read`
abbrev pub CountsOnlyReads : {A : Type 0} → (failures failures' : ℕ) → Result A ToolFault → Type 0
CountsOnlyReads failures failures' (Err fault.Read) = failures' ≡ counts_up failures 1
CountsOnlyReads failures failures' _ = failures' ≡ failures
