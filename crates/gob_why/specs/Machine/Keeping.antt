-- What is kept of a stream while it is read, and how its items are explained. For private clauses.
use Rattle.std.specs.Prelude.{◌≡◌, ℕ, ◌+◌, ◌^◌, ◌<◌, ◌≤◌, List, [], ◌++◌, length, take, Option, None, Some, Result}
use Rattle.std.specs.Prelude.{Ok, Err, Bool, true, false}
use Rattle.std.specs.Io.KnownBytes.{Appends}
use Rattle.gob_num.specs.declared.memory.Memory.{Memory}
use Rattle.gob_types.specs.Base.{base_table}
use Rattle.gob_types.specs.Table.{Table}
use Rattle.gob_explain.specs.Column.{saturated}
use Rattle.gob_stream.specs.Bounds.{Bounds, within_trees}
use Rattle.gob_stream.specs.Reading.{SomeTaken}
use Rattle.gob_stream.specs.declared.fault.Fault.{Fault}
use Rattle.gob_stream.specs.declared.fault.Fault.TheVariants as reading
use Rattle.gob_stream.specs.declared.fault.Refusal.{Refusal}
use Rattle.gob_filled.specs.Outcome.{FilledOutcome, refused}
use Rattle.gob_filled.specs.Stream.{FilledItem, FilledStream}
use Rattle.gob_go.specs.Calls.Session.{HasRead, limits_of, types_of}
use Rattle.gob_go.specs.Machine.SessionState.{SessionState}
use Rattle.gob_go.specs.Reading.{RefusesBehind, ShowsRefusal}
use Rattle.gob_go.specs.declared.item.GoItem.{GoItem}
use Rattle.gob_tool.specs.CheckingGo.{LongestGoStream}
use Rattle.gob_tool.specs.Showing.{AppendsPrefix}
use Rattle.gob_tool.specs.declared.fault.ToolFault.{ToolFault}
use Rattle.gob_tool.specs.declared.fault.ToolFault.TheVariants as fault
use Rattle.gob_why.specs.Explain.{AreExplained, AreTypesRefused, ExplainAnswers, IsItemText, IsRefusedText}
use Rattle.gob_why.specs.Explain.{explained_up_to}
use Rattle.gob_why.specs.declared.explained.Explained.{Explained}

-- the text of an item that begins at this offset and has these bytes, so many, where they were kept
abbrev pub ExplainsEnd : Option Explained → Table → (offset : ℕ) → (bytes : List ℕ) → (size : ℕ)
    → Result (Unit {0}) Memory → (text : List ℕ) → Type 0
ExplainsEnd which T offset bytes size (Ok _) text = size ≡ length bytes → IsItemText which T offset bytes text
ExplainsEnd which T offset bytes size (Err _) text = text ≡ []

-- the item whose last bytes these are was explained, and the next one begins behind it
abbrev pub EndsItem : Option Explained → Table → (item : List ℕ) → (begin : ℕ) → (more item' : List ℕ) → (begin' : ℕ)
    → Result (Unit {0}) Memory → (text : List ℕ) → Type 0
EndsItem which T item begin more item' begin' (Ok _) text = length (item ++ more) < 2 ^ 64
    → (item' ≡ []) × (begin' ≡ saturated (begin + length (item ++ more))) × IsItemText which T begin (item ++ more) text
EndsItem which T item begin more item' begin' (Err _) text = text ≡ []

-- so it was where they end one, and else they were kept
abbrev pub GoesOn : Option Explained → Table → Option GoItem → (item : List ℕ) → (begin : ℕ) → (more item' : List ℕ)
    → (begin' : ℕ) → Result (Unit {0}) Memory → (text : List ℕ) → Type 0
GoesOn which T None item begin more item' begin' (Ok _) text =
    (item' ≡ item ++ more) × (begin' ≡ begin) × (text ≡ [])
GoesOn which T None item begin more item' begin' (Err _) text = text ≡ []
GoesOn which T (Some i) item begin more item' begin' result text = EndsItem which T item begin more item' begin' result
    text

-- of these bytes the items were given, with this table behind them; the bytes behind them are kept, and the text is
-- that of the items
pub record HasKept (which : Option Explained) (L : Bounds) (T : Table) (given : List FilledItem) (bytes : List ℕ)
    (item : List ℕ) (begin : ℕ) (text : List ℕ) : Type 0 where
  pub prefix : List ℕ
  pub whole : bytes ≡ prefix ++ item
  pub begins : begin ≡ length prefix
  pub stream : FilledStream base_table L given prefix T
  pub explained : AreExplained which L given prefix T text

-- the session has read the bytes, so many items were counted, and this is kept of them
pub record HasReadKept (which : Option Explained) (s : SessionState) (items : ℕ) (bytes item : List ℕ) (begin : ℕ)
    (text : List ℕ) : Type 0 where
  pub given : List FilledItem
  pub items_are : items ≡ length given
  pub gave : HasRead s given bytes
  pub kept : HasKept which (within_trees (limits_of s)) gave.table given bytes item begin text

-- it has read some bytes so
pub record HasReadSome (which : Option Explained) (s : SessionState) (items : ℕ) (item : List ℕ) (begin : ℕ) : Type
    0 where
  pub bytes : List ℕ
  pub text : List ℕ
  pub has : HasReadKept which s items bytes item begin text

-- the text is that of some items with which the bytes begin
pub record BeginsKept (which : Option Explained) (L : Bounds) (bytes text : List ℕ) : Type 0 where
  pub given : List FilledItem
  pub prefix : List ℕ
  pub rest : List ℕ
  pub table : Table
  pub whole : bytes ≡ prefix ++ rest
  pub stream : FilledStream base_table L given prefix table
  pub explained : AreExplained which L given prefix table text

-- what taking some of a piece answers: one byte or item at least; behind a refusal what was kept before the piece stays
pub record KeepsOn (which : Option Explained) (s : SessionState) (items items' : ℕ) (bytes piece item : List ℕ)
    (begin : ℕ) (text : List ℕ) (used : ℕ) : Type 0 where
  pub within : used ≤ length piece
  pub nearer : items < items' + used
  pub has : HasReadKept which s items' (bytes ++ take used piece) item begin text

pub record StopsNext (which : Option Explained) (L : Bounds) (U : Table) (bytes piece item : List ℕ) (begin : ℕ)
    (text : List ℕ) (R : Refusal) : Type 0 where
  pub given : List FilledItem
  pub shown : ShowsRefusal L (bytes ++ piece) given R
  pub types : RefusesBehind L (bytes ++ piece) given R U
  pub table : Table
  pub kept : HasKept which L table given bytes item begin text

abbrev pub KeepsNext : Option Explained → (s : SessionState) → (items items' : ℕ) → (bytes piece item : List ℕ)
    → (begin : ℕ) → (text : List ℕ) → Result ℕ Fault → Type 0
KeepsNext which s items items' bytes piece item begin text (Ok used) =
    KeepsOn which s items items' bytes piece item begin text used
KeepsNext which s items items' bytes piece item begin text (Err (reading.Refused R)) =
    StopsNext which (within_trees (limits_of s)) (types_of s) bytes piece item begin text R
KeepsNext which s items items' bytes piece item begin text (Err reading.Memory) =
    BeginsKept which (within_trees (limits_of s)) bytes text
KeepsNext which s items items' bytes piece item begin text (Err _) = ⊥

-- so it is behind whatever was read, where this text is more
abbrev pub TakesNext : Option Explained → (s s' : SessionState) → (items items' : ℕ) → (piece item : List ℕ)
    → (begin : ℕ) → (item' : List ℕ) → (begin' : ℕ) → Result ℕ Fault → (more : List ℕ) → Type 0
TakesNext which s s' items items' piece item begin item' begin' result more = (bytes text : List ℕ)
    → HasReadKept which s items bytes item begin text
    → KeepsNext which s' items items' bytes piece item' begin' (text ++ more) result

-- ---- how reading all of some bytes ends
-- they are the stream of so many items, and the text is that of these
pub record IsWholeKept (which : Option Explained) (L : Bounds) (U : Table) (items : ℕ) (bytes : List ℕ)
    (now : Option (List ℕ)) (begin : ℕ) (text : List ℕ) : Type 0 where
  pub given : List FilledItem
  pub items_are : items ≡ length given
  pub stream : FilledStream base_table L given bytes U
  pub end : now ≡ Some []
  pub begins : begin ≡ length bytes
  pub explained : AreExplained which L given bytes U text

-- the next item is refused, where the types are those of U, of which this was read, as far as it is explained at least
pub record IsRefusedKept (which : Option Explained) (L : Bounds) (U : Table) (bytes item : List ℕ) (begin : ℕ)
    (text : List ℕ) (R : Refusal) : Type 0 where
  pub given : List FilledItem
  pub outcome : FilledOutcome base_table L bytes given (refused R)
  pub types : AreTypesRefused L bytes given R U
  pub rest : List ℕ
  pub read : List ℕ
  pub whole : bytes ≡ read ++ rest
  pub behind : begin ≤ explained_up_to R
  pub there : explained_up_to R ≤ length read
  pub table : Table
  pub kept : HasKept which L table given read item begin text

-- a read failed behind these bytes, and the text is that of all items that they give
pub record IsUnreadKept (which : Option Explained) (L : Bounds) (bytes text : List ℕ) : Type 0 where
  pub begins : BeginsKept which L bytes text
  pub longest : LongestGoStream L bytes begins.given

-- so it ends, or before the end, and then the text is that of items with which the bytes begin
abbrev pub ReadsBytes : Option Explained → Bounds → (U : Table) → (items : ℕ) → (bytes : List ℕ)
    → (now : Option (List ℕ)) → (item : List ℕ) → (begin : ℕ) → Result Bool Fault → (text : List ℕ) → Type 0
ReadsBytes which L U items bytes now item begin (Ok true) text = IsWholeKept which L U items bytes now begin text
ReadsBytes which L U items bytes now item begin (Ok false) text =
    SomeTaken bytes now (λ taken. BeginsKept which L taken text)
ReadsBytes which L U items bytes now item begin (Err (reading.Refused R)) text =
    IsRefusedKept which L U bytes item begin text R
ReadsBytes which L U items bytes now item begin (Err reading.Read) text =
    SomeTaken bytes now (λ taken. IsUnreadKept which L taken text)
ReadsBytes which L U items bytes now item begin (Err reading.Memory) text =
    SomeTaken bytes now (λ taken. BeginsKept which L taken text)
ReadsBytes which L U items bytes now item begin (Err reading.Failed) text = ⊥

-- ---- the run
-- how explaining the whole items ends, where the session has the types of U then
abbrev pub ExplainsAll : Explained → Bounds → (U : Table) → (bytes item : List ℕ) → (begin : ℕ)
    → (now old new : Option (List ℕ)) → Result (Unit {0}) ToolFault → Type 0
ExplainsAll which L U bytes item begin now old new (Err (fault.Refused R)) =
    (text : List ℕ) × IsRefusedKept (Some which) L U bytes item begin text R × Appends old new text
ExplainsAll which L U bytes item begin now old new result = ExplainAnswers which L bytes now old new result

-- what a call answers that sends such text
abbrev pub TellsRefused : Explained → Table → (offset : ℕ) → Refusal → (read : List ℕ) → (old new : Option (List ℕ))
    → Result (Unit {0}) ToolFault → Type 0
TellsRefused which T offset R read old new (Ok _) =
    (text : List ℕ) × IsRefusedText which T offset R read text × Appends old new text
TellsRefused which T offset R read old new (Err fault.Write) =
    (text : List ℕ) × IsRefusedText which T offset R read text × AppendsPrefix old new text
TellsRefused which T offset R read old new (Err fault.Memory) =
    (text : List ℕ) × IsRefusedText which T offset R read text × AppendsPrefix old new text
TellsRefused which T offset R read old new (Err _) = ⊥
