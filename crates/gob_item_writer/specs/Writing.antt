-- What a writer of nodes has written, and what its calls answer. (docs/LIBRARY.md, Flat nodes: this project's own.)
use Rattle.std.specs.Prelude.{◌≡◌, ◌⊎◌, ◌<◌, ℕ, Bool, true, false, List, length, Some, Result, Ok}
use Rattle.std.specs.Prelude.{Err, IsErr}
use Rattle.gob_types.specs.Base.{base_table}
use Rattle.gob_types.specs.Definable.{IsDefinable}
use Rattle.gob_types.specs.Table.{Table}
use Rattle.gob_types.specs.declared.id.TypeId.{TypeId}
use Rattle.gob_types.specs.declared.kind.Shape.{Shape}
use Rattle.gob_types.specs.declared.reason.Reason.{Reason}
use Rattle.gob_types.specs.declared.reason.Reason.TheVariants as reason
use Rattle.gob_value.specs.Described.{described}
use Rattle.gob_stream.specs.Bounds.{Bounds, within_trees}
use Rattle.gob_stream.specs.declared.fault.WriteFault.{WriteFault}
use Rattle.gob_stream.specs.declared.fault.WriteFault.TheVariants as writing
use Rattle.gob_tape.specs.declared.flat.FlatNode.{FlatNode}
use Rattle.gob_stream.specs.WriterRefusal.{RefusesType}
use Rattle.gob_filled.specs.Filled.{Filled, SpellsFilled}
use Rattle.gob_filled.specs.Stream.{FilledItem, defining, putting}
use Rattle.gob_filled_writer.specs.Writing as filled_writing
use Rattle.gob_filled_writer.specs.Writing.{RefusesFilledItem, WroteItem}
use Rattle.gob_nodes.specs.Says.{SaysValue}
use Rattle.gob_nodes.specs.Shapes.{SaysShape}
use Rattle.gob_nodes.specs.Size.{bytes_size}
use Rattle.gob_item_writer.specs.declared.fault.ItemFault.{ItemFault}
use Rattle.gob_item_writer.specs.declared.fault.ItemFault.TheVariants as fault
use Rattle.gob_item_writer.specs.declared.writer.ItemWriter.{ItemWriter}

-- what is written and waits to be taken
abbrev pub waiting : ItemWriter → List ℕ
waiting w = w.waiting.items

abbrev pub limits_of : ItemWriter → Bounds
limits_of w = within_trees w.stream.limits

-- the writer has written these items, as these bytes, and behind them these are the types
pub record HasWritten (w : ItemWriter) (items : List FilledItem) (bytes : List ℕ) (T : Table) : Type 0 where
  pub stream : filled_writing.HasWritten w.stream items bytes T
  pub limits : w.limits ≡ limits_of w

-- nothing is written
pub record IsAsBefore (w w' : ItemWriter) : Type 0 where
  pub stream : w'.stream ≡ w.stream
  pub limits : w'.limits ≡ w.limits
  pub waits : waiting w' ≡ waiting w

-- the nodes say more bytes than an item may have
abbrev pub SaysTooMuch : ItemWriter → (defines : Bool) → List FlatNode → Type 0
SaysTooMuch w defines nodes = w.limits.item < bytes_size defines nodes

-- nothing of the item is written, and the writer is as before, or writes no more
pub record LacksMemory (w w' : ItemWriter) : Type 0 where
  pub waits : waiting w' ≡ waiting w
  pub state : (w'.stream ≡ w.stream) ⊎ filled_writing.HasFailed w'.stream

-- behind what was written the item is, and waits behind what waited
pub record WroteNext (w w' : ItemWriter) (items : List FilledItem) (bytes : List ℕ) (T : Table) (i : FilledItem) : Type
    0 where
  pub item : WroteItem (limits_of w) w.stream w'.stream items bytes T i (Some (waiting w)) (Some (waiting w'))
  pub limits : w'.limits ≡ w.limits

-- the definition is written that the nodes say
pub record WroteShape (w w' : ItemWriter) (items : List FilledItem) (bytes : List ℕ) (T : Table) (id : TypeId)
    (nodes : List FlatNode) (pool : List ℕ) : Type 0 where
  pub shape : Shape
  pub says : SaysShape pool nodes shape
  pub wrote : WroteNext w w' items bytes T (defining id (described id shape))

-- or the stream can't go on with it, or its names have more bytes than an item may have
pub data RefusesShape (w w' : ItemWriter) (bytes : List ℕ) (T : Table) (id : TypeId) (nodes : List FlatNode)
    (pool : List ℕ) (r : Reason) : Type 0 where
  refused_shape : (s : Shape) → SaysShape pool nodes s
      → RefusesFilledItem (limits_of w) T (length bytes) (defining id (described id s)) r → IsAsBefore w w'
      → RefusesShape w w' bytes T id nodes pool r
  long_names : r ≡ reason.ItemTooLong → SaysTooMuch w true nodes → IsAsBefore w w'
      → RefusesShape w w' bytes T id nodes pool r

-- what writing a definition answers, for a writer that has written these items as these bytes
abbrev pub DefineAnswers : (w w' : ItemWriter) → List FilledItem → List ℕ → Table → TypeId → List FlatNode → List ℕ
    → Result (Unit {0}) ItemFault → Type 0
DefineAnswers w w' items bytes T id nodes pool (Ok _) = WroteShape w w' items bytes T id nodes pool
DefineAnswers w w' items bytes T id nodes pool (Err (fault.Nodes node)) =
    ((s : Shape) → SaysShape pool nodes s → ¬ IsDefinable s) × IsAsBefore w w'
DefineAnswers w w' items bytes T id nodes pool (Err (fault.Refused r)) = RefusesShape w w' bytes T id nodes pool r
DefineAnswers w w' items bytes T id nodes pool (Err fault.Memory) = LacksMemory w w'
DefineAnswers w w' items bytes T id nodes pool (Err fault.Failed) = ⊥

-- the value is written that the nodes say: its bytes are those that they say, and spell it
pub record WroteValue (w w' : ItemWriter) (items : List FilledItem) (bytes : List ℕ) (T : Table) (id : TypeId)
    (nodes : List FlatNode) (pool : List ℕ) : Type 0 where
  pub body : List ℕ
  pub says : SaysValue T nodes pool id (limits_of w).depth body
  pub value : Filled
  pub spelled : SpellsFilled base_table (limits_of w) T id (limits_of w).depth value body T
  pub wrote : WroteNext w w' items bytes T (putting id value)

-- or the stream can't go on with a value of the type or with this one, or it has more bytes than an item may have
pub data RefusesValue (w w' : ItemWriter) (bytes : List ℕ) (T : Table) (id : TypeId) (nodes : List FlatNode)
    (pool : List ℕ) (r : Reason) : Type 0 where
  wrong_type : RefusesType T id r → IsAsBefore w w' → RefusesValue w w' bytes T id nodes pool r
  refused_value : (body : List ℕ) (value : Filled) → SaysValue T nodes pool id (limits_of w).depth body
      → SpellsFilled base_table (limits_of w) T id (limits_of w).depth value body T
      → RefusesFilledItem (limits_of w) T (length bytes) (putting id value) r → IsAsBefore w w'
      → RefusesValue w w' bytes T id nodes pool r
  long_bytes : r ≡ reason.ItemTooLong → SaysTooMuch w false nodes → IsAsBefore w w'
      → RefusesValue w w' bytes T id nodes pool r

-- what writing a value answers, for a writer that has written these items as these bytes
abbrev pub PutAnswers : (w w' : ItemWriter) → List FilledItem → List ℕ → Table → TypeId → List FlatNode → List ℕ
    → Result (Unit {0}) ItemFault → Type 0
PutAnswers w w' items bytes T id nodes pool (Ok _) = WroteValue w w' items bytes T id nodes pool
PutAnswers w w' items bytes T id nodes pool (Err (fault.Nodes node)) =
    ((b : List ℕ) → ¬ SaysValue T nodes pool id (limits_of w).depth b) × IsAsBefore w w'
PutAnswers w w' items bytes T id nodes pool (Err (fault.Refused r)) = RefusesValue w w' bytes T id nodes pool r
PutAnswers w w' items bytes T id nodes pool (Err fault.Memory) = LacksMemory w w'
PutAnswers w w' items bytes T id nodes pool (Err fault.Failed) = ⊥

-- whatever is given to a writer that writes no more, nothing is written, and nothing changes
pub record StaysFailed (w w' : ItemWriter) (answer : Result (Unit {0}) ItemFault) : Type 0 where
  pub failed : IsErr answer
  pub same : IsAsBefore w w'

-- ---- for private clauses

-- what writing the item answers
abbrev pub WritesItem : (w w' : ItemWriter) → List FilledItem → List ℕ → Table → FilledItem
    → Result (Unit {0}) WriteFault → Type 0
WritesItem w w' items bytes T i (Ok _) = WroteNext w w' items bytes T i
WritesItem w w' items bytes T i (Err (writing.Refused r)) =
    RefusesFilledItem (limits_of w) T (length bytes) i r × IsAsBefore w w'
WritesItem w w' items bytes T i (Err writing.Write) = LacksMemory w w'
WritesItem w w' items bytes T i (Err writing.Memory) = LacksMemory w w'
WritesItem w w' items bytes T i (Err writing.Failed) = ⊥

-- and where the writer writes no more
pub record WritesNothing (w w' : ItemWriter) (answer : Result (Unit {0}) WriteFault) : Type 0 where
  pub failed : answer ≡ Err writing.Failed
  pub same : IsAsBefore w w'

-- the fault is that values of the type may not come, or want of memory
abbrev pub IsOfType : Table → TypeId → WriteFault → Type 0
IsOfType T id (writing.Refused r) = RefusesType T id r
IsOfType T id writing.Memory = Unit {0}
IsOfType T id _ = ⊥
