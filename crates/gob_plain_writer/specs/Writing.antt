-- What a writer of plain JSON has written, and what its calls answer. (docs/FORMAT.md, Plain JSON as input.)
use Rattle.std.specs.Prelude.{◌≡◌, ◌⊎◌, ℕ, List, [], ◌++◌, length, Option, Some, Result, Ok, Err}
use Rattle.std.specs.Io.KnownBytes.{Appends}
use Rattle.json.specs.Lex.{tokens}
use Rattle.gob_types.specs.Base.{base_table}
use Rattle.gob_types.specs.Table.{Table}
use Rattle.gob_types.specs.declared.reason.Reason.{Reason}
use Rattle.gob_value.specs.Tree.{Tree}
use Rattle.gob_make.specs.Tells.{SaysPlain}
use Rattle.gob_stream.specs.Bounds.{Bounds, within_trees}
use Rattle.gob_stream.specs.Calls.Writing.{HasWritten, HasWriterFailed, RefusedThere, StoppedAt, WroteItem}
use Rattle.gob_stream.specs.Item.{StreamItem, puts}
use Rattle.gob_stream.specs.Machine.WriterState.{WriterState}
use Rattle.gob_stream.specs.WriterRefusal.{RefusesItem}
use Rattle.gob_stream.specs.declared.fault.WriteFault.{WriteFault}
use Rattle.gob_stream.specs.declared.fault.WriteFault.TheVariants as writing
use Rattle.gob_write.specs.Making.{definitions_of, making_of}
use Rattle.gob_write.specs.declared.types.Definition.{Definition}
use Rattle.gob_write.specs.declared.types.Types.{Types}
use Rattle.gob_plain_writer.specs.declared.fault.OpenFault.{OpenFault}
use Rattle.gob_plain_writer.specs.declared.fault.OpenFault.TheVariants as opening
use Rattle.gob_plain_writer.specs.declared.fault.PutFault.{PutFault}
use Rattle.gob_plain_writer.specs.declared.fault.PutFault.TheVariants as putting
use Rattle.gob_plain_writer.specs.declared.writer.PlainWriter.{PlainWriter}

-- what is written and waits to be taken
abbrev pub waiting : PlainWriter → List ℕ
waiting w = w.waiting.items

-- ---- a writer that is opened

-- it has written the stream of all definitions of these types under these limits, all of it waits, and texts say values
-- of the wanted type
pub record IsOpened (L : Bounds) (types : Types) (w : PlainWriter) : Type 0 where
  pub bytes : List ℕ
  pub table : Table
  pub written : HasWritten w.stream (definitions_of types.definitions.items) bytes table
  pub waits : waiting w ≡ bytes
  pub limits : w.stream.limits ≡ L
  pub making : w.making ≡ making_of L types

-- no stream has all definitions of the types: one of them is refused for this reason behind those before
abbrev pub RefusesTypes : Bounds → Types → Reason → Type 0
RefusesTypes L types r = (n : ℕ) × ((new : Option (List ℕ))
    × RefusedThere L (definitions_of types.definitions.items) n r (Some []) new)

abbrev pub OpenAnswers : Bounds → Types → Result PlainWriter OpenFault → Type 0
OpenAnswers L types (Ok w) = IsOpened L types w
OpenAnswers L types (Err (opening.Refused r)) = RefusesTypes L types r
OpenAnswers L types (Err opening.Memory) = Unit {0}
OpenAnswers L types (Err _) = ⊥

-- ---- a value

-- nothing is written
pub record IsAsBefore (w w' : PlainWriter) : Type 0 where
  pub stream : w'.stream ≡ w.stream
  pub waits : waiting w' ≡ waiting w

-- by these types the text says this item: a value of the wanted type
pub data SaysValue (w : PlainWriter) (T : Table) (text : List ℕ) : StreamItem → Type 0 where
  says_value : {v : Tree} → SaysPlain w.making.lenient T w.making.id text (Some v)
      → SaysValue w T text (puts w.making.id v)

-- behind what was written the item is, and waits behind what waited
abbrev pub WroteNext : (w w' : PlainWriter) → List StreamItem → List ℕ → Table → StreamItem → Type 0
WroteNext w w' items bytes T i = WroteItem (within_trees w.stream.limits) w.stream w'.stream items bytes T i
    (Some (waiting w)) (Some (waiting w'))

-- no stream goes on with the item for this reason
abbrev pub RefusesNext : (w : PlainWriter) → List ℕ → Table → StreamItem → Reason → Type 0
RefusesNext w bytes T i r = RefusesItem base_table (within_trees w.stream.limits) T (length bytes) i r

-- nothing of the item is written, and the writer is as before, or writes no more
pub record LacksMemory (w w' : PlainWriter) : Type 0 where
  pub waits : waiting w' ≡ waiting w
  pub state : (w'.stream ≡ w.stream) ⊎ HasWriterFailed w'.stream

-- the value that the text says is written, or it says none
pub data WroteText (w w' : PlainWriter) (items : List StreamItem) (bytes : List ℕ) (T : Table) (text : List ℕ)
    : Type 0 where
  wrote_nothing : tokens text ≡ [] → IsAsBefore w w' → WroteText w w' items bytes T text
  wrote_value : {i : StreamItem} → SaysValue w T text i → WroteNext w w' items bytes T i
      → WroteText w w' items bytes T text

-- the value that the text says is refused
pub record RefusesText (w w' : PlainWriter) (bytes : List ℕ) (T : Table) (text : List ℕ) (r : Reason) : Type 0 where
  pub item : StreamItem
  pub says : SaysValue w T text item
  pub refused : RefusesNext w bytes T item r
  pub same : IsAsBefore w w'

-- what writing the value of a text answers, for a writer that has written these items as these bytes
abbrev pub PutAnswers : (w w' : PlainWriter) → List StreamItem → List ℕ → Table → (text : List ℕ)
    → Result (Unit {0}) PutFault → Type 0
PutAnswers w w' items bytes T text (Ok _) = WroteText w w' items bytes T text
PutAnswers w w' items bytes T text (Err (putting.Wrong column path due)) = IsAsBefore w w'
PutAnswers w w' items bytes T text (Err (putting.Refused r)) = RefusesText w w' bytes T text r
PutAnswers w w' items bytes T text (Err putting.Memory) = LacksMemory w w'
PutAnswers w w' items bytes T text (Err putting.Failed) = ⊥

-- ---- for private clauses

-- what writing the item answers
abbrev pub WritesValue : (w w' : PlainWriter) → List StreamItem → List ℕ → Table → StreamItem
    → Result (Unit {0}) WriteFault → Type 0
WritesValue w w' items bytes T i (Ok _) = WroteNext w w' items bytes T i
WritesValue w w' items bytes T i (Err (writing.Refused r)) = RefusesNext w bytes T i r × IsAsBefore w w'
WritesValue w w' items bytes T i (Err writing.Write) = LacksMemory w w'
WritesValue w w' items bytes T i (Err writing.Memory) = LacksMemory w w'
WritesValue w w' items bytes T i (Err writing.Failed) = ⊥

-- all definitions are written under these limits
pub record WroteFront (L : Bounds) (ds : List Definition) (w : WriterState) (old new : Option (List ℕ)) : Type 0 where
  pub bytes : List ℕ
  pub table : Table
  pub written : HasWritten w (definitions_of ds) bytes table
  pub limits : w.limits ≡ L
  pub out : Appends old new bytes

-- or the writing of them stopped at one
abbrev pub WritesFront : Bounds → List Definition → WriterState → (old new : Option (List ℕ))
    → Result (Unit {0}) WriteFault → Type 0
WritesFront L ds w old new (Ok _) = WroteFront L ds w old new
WritesFront L ds w old new (Err f) = (n : ℕ) × StoppedAt L (definitions_of ds) n old new f
