-- What the writing calls answer, in the words of streams.
use Rattle.std.specs.Prelude.{◌≡◌, ℕ, pos, ◌+◌, ◌≤◌, List, [], ◌∷◌, ◌++◌, length, take, slice_get, true, false, Option}
use Rattle.std.specs.Prelude.{Some, Result, Ok, Err}
use Rattle.std.specs.Io.KnownBytes.{Appends, Keeps}
use Rattle.gob_types.specs.Table.{Table}
use Rattle.gob_types.specs.Base.{base_table}
use Rattle.gob_types.specs.Defined.{Defined, types}
use Rattle.gob_num.specs.Unsigned.{IsUnsigned}
use Rattle.gob_num.specs.Signed.{IsSigned}
use Rattle.gob_types.specs.declared.id.TypeId.{TypeId}
use Rattle.gob_types.specs.declared.reason.Reason.{Reason}
use Rattle.gob_types.specs.Ready.{IsReady}
use Rattle.gob_value.specs.Tree.{Tree, depth}
use Rattle.gob_value.specs.Spelling.{Spells}
use Rattle.gob_value.specs.Top.{HasStructs}
use Rattle.gob_stream.specs.declared.fault.WriteFault.{WriteFault}
use Rattle.gob_stream.specs.declared.fault.WriteFault.TheVariants as fault
use Rattle.gob_stream.specs.declared.fault.WriteStop.{WriteStop}
use Rattle.gob_stream.specs.declared.output.Output.{Output}
use Rattle.gob_stream.specs.declared.write_place.WritePlace.{WritePlace}
use Rattle.gob_stream.specs.Machine.WriterState.{WriterState}
use Rattle.gob_stream.specs.Bounds.{Bounds}
use Rattle.gob_stream.specs.Devices.{counts_up}
use Rattle.gob_stream.specs.Calls.Ends.{failed_writes, writer_of}
use Rattle.gob_stream.specs.Item.{StreamItem}
use Rattle.gob_stream.specs.Stream.{Stream, HasStream, IsItem}
use Rattle.gob_stream.specs.WriterRefusal.{RefusesItem}

-- ---- what contracts see of a writer
-- a write failed before, and it writes no more
abbrev pub HasWriterFailed : WriterState → Type 0
HasWriterFailed w = w.place.failed ≡ true

-- what it keeps to, and the types of its stream so far
abbrev pub writer_limits : WriterState → Bounds
writer_limits w = w.limits

abbrev pub writer_table : WriterState → Defined
writer_table w = w.types

abbrev pub writer_types : WriterState → Table
writer_types w = types w.types

-- the writer has written these items, as these bytes
pub record HasWritten (w : WriterState) (items : List StreamItem) (bytes : List ℕ) (T : Table) : Type 0 where
  pub stream : Stream base_table w.limits items bytes T
  pub table : types w.types ≡ T
  pub room : w.types.most ≡ w.limits.types
  pub offset : w.place.offset ≡ length bytes
  pub sound : w.place.failed ≡ false

-- it has written some
pub record HasWrittenSome (w : WriterState) : Type 0 where
  pub items : List StreamItem
  pub bytes : List ℕ
  pub table : Table
  pub written : HasWritten w items bytes table

-- what is so of every writer: it has written some items, or a write failed
pub data IsUsableWriter (w : WriterState) : Type 0 where
  has_failed : HasWriterFailed w → IsUsableWriter w
  has_written : HasWrittenSome w → IsUsableWriter w

-- a prefix of the bytes of this item went out
pub record WrotePrefix (L : Bounds) (T : Table) (offset : ℕ) (i : StreamItem) (old new : Option (List ℕ)) : Type 0 where
  pub prefix : List ℕ
  pub rest : List ℕ
  pub table : Table
  pub item : IsItem base_table L T offset i (prefix ++ rest) table
  pub out : Appends old new prefix

-- the bytes of this item went out, and the writer stands behind them
pub record WroteItem (L : Bounds) (w w' : WriterState) (items : List StreamItem) (bytes : List ℕ) (T : Table)
    (i : StreamItem) (old new : Option (List ℕ)) : Type 0 where
  pub more : List ℕ
  pub table : Table
  pub item : IsItem base_table L T (length bytes) i more table
  pub out : Appends old new more
  pub limits : w'.limits ≡ w.limits
  pub written : HasWritten w' (items ++ i ∷ []) (bytes ++ more) table

-- nothing went out, and the writer is as before
abbrev pub WroteNothing : (w w' : WriterState) → (old new : Option (List ℕ)) → Type 0
WroteNothing w w' old new = (w' ≡ w) × Keeps old new

-- what writing an item that these limits admit answers, for a writer that has written the items, over an output with
-- the old bytes
abbrev pub WritesItem : Bounds → (w w' : WriterState) → List StreamItem → List ℕ → Table → StreamItem
    → (old new : Option (List ℕ)) → Result (Unit {0}) WriteFault → Type 0
WritesItem L w w' items bytes T i old new (Ok _) = WroteItem L w w' items bytes T i old new
WritesItem L w w' items bytes T i old new (Err (fault.Refused r)) = RefusesItem base_table L T (length bytes) i r
WritesItem L w w' items bytes T i old new (Err fault.Write) = WrotePrefix L T (length bytes) i old new
WritesItem L w w' items bytes T i old new (Err fault.Memory) = Unit {0}
WritesItem L w w' items bytes T i old new (Err fault.Failed) = ⊥

-- what a call that writes the item answers and does, whatever the writer has written before
abbrev pub WritesNext : Bounds → (w w' : WriterState) → StreamItem → (old new : Option (List ℕ))
    → Result (Unit {0}) WriteFault → Type 0
WritesNext L w w' i old new result = (items : List StreamItem) (bytes : List ℕ) (T : Table) → HasWritten w items bytes T
    → WritesItem L w w' items bytes T i old new result

-- what an answer leaves of any writer: after a refusal, or without memory, nothing went out and it is as before;
-- after a failed write it writes no more
abbrev pub Leaves : (w w' : WriterState) → (old new : Option (List ℕ)) → Result (Unit {0}) WriteFault → Type 0
Leaves w w' old new (Ok _) = w'.place.failed ≡ false
Leaves w w' old new (Err (fault.Refused r)) = WroteNothing w w' old new
Leaves w w' old new (Err fault.Write) = HasWriterFailed w'
Leaves w w' old new (Err fault.Memory) = WroteNothing w w' old new
Leaves w w' old new (Err fault.Failed) = HasWriterFailed w × WroteNothing w w' old new

-- what a writer answers whose write failed: it writes nothing for good
abbrev pub AnswersFailed : (w w' : WriterState) → {W : Type 0} → (output output' : Output W)
    → Result (Unit {0}) WriteFault → Type 0
AnswersFailed w w' output output' result = (result ≡ Err fault.Failed) × (w' ≡ w) × (output' ≡ output)

-- the fault is `Write` exactly where a write failed, and the writer makes no further one
abbrev pub CountsFault : (failures failures' : ℕ) → WriteFault → Type 0
CountsFault failures failures' fault.Write = failures' ≡ counts_up failures 1
CountsFault failures failures' _ = failures' ≡ failures

-- the fault of an answer is `Write` exactly where a write failed: none did in a call that answers Ok
abbrev pub CountsWriterFaults : (failures failures' : ℕ) → Result (Unit {0}) WriteFault → Type 0
CountsWriterFaults failures failures' (Ok _) = failures' ≡ failures
CountsWriterFaults failures failures' (Err f) = CountsFault failures failures' f

-- and of the writing of a list of items
abbrev pub CountsStop : (failures failures' : ℕ) → Result (Unit {0}) WriteStop → Type 0
CountsStop failures failures' (Ok _) = failures' ≡ failures
CountsStop failures failures' (Err stop) = CountsFault failures failures' stop.fault

-- what a call that writes one item does to any writer and output, whatever was written: what it was called on, what its
-- answer leaves, what it answers where a write failed before, and how many writes failed
pub record WriteEffects (w w' : WriterState) {W : Type 0} (contents : W → Option (List ℕ)) (output output' : Output W)
    (result : Result (Unit {0}) WriteFault) : Type 0 where
  pub usable : IsUsableWriter w
  pub leaves : Leaves w w' (contents (writer_of output)) (contents (writer_of output')) result
  pub failed : HasWriterFailed w → AnswersFailed w w' output output' result
  pub counted : CountsWriterFaults (failed_writes output) (failed_writes output') result

-- what a call answers that writes this item, as these limits admit it
pub record WriteAnswers (L : Bounds) (w w' : WriterState) (i : StreamItem) {W : Type 0} (contents : W → Option (List ℕ))
    (output output' : Output W) (result : Result (Unit {0}) WriteFault) : Type 0 where
  pub writes : WritesNext L w w' i (contents (writer_of output)) (contents (writer_of output')) result
  pub effects : WriteEffects w w' contents output output' result

-- a new writer has written nothing
pub record IsNew (w : WriterState) (L : Bounds) : Type 0 where
  pub limits : w.limits ≡ L
  pub nothing : HasWritten w [] [] base_table

-- a prefix of the bytes went out
pub record SentPrefix (bytes : List ℕ) (old new : Option (List ℕ)) : Type 0 where
  pub prefix : List ℕ
  pub rest : List ℕ
  pub whole : bytes ≡ prefix ++ rest
  pub out : Appends old new prefix

-- what sending these bytes answers: the place is behind them, or no more is written, and a prefix of them is out
abbrev pub SendAnswers : (p p' : WritePlace) → List ℕ → (old new : Option (List ℕ))
    → Result (Unit {0}) WriteFault → Type 0
SendAnswers p p' bytes old new (Ok _) = Appends old new bytes
    × (p' ≡ record p { offset = p.offset + length bytes; failed = false })
SendAnswers p p' bytes old new (Err f) = SentPrefix bytes old new × (p' ≡ record p { failed = true })
    × (f ≡ fault.Write)

-- the limits admit an item of this count and body at the offset
pub record FitsLimits (L : Bounds) (offset : ℕ) (count body : List ℕ) : Type 0 where
  pub item : length body ≤ L.item
  pub stream : offset + length (count ++ body) ≤ L.stream

-- the bytes are the item of this body, as the limits admit it at the offset
pub record IsWholeItem (L : Bounds) (offset : ℕ) (body bytes : List ℕ) : Type 0 where
  pub count : List ℕ
  pub spelled : IsUnsigned (length body) count
  pub fits : FitsLimits L offset count body
  pub whole : bytes ≡ count ++ body

-- the bytes stand before the spelling of a value of the type in an item: its number, and the tag where it is no struct
pub data IsHead (T : Table) (t : TypeId) : List ℕ → Type 0 where
  head_of_struct : {a : List ℕ} → HasStructs T t → IsSigned (pos t.0) a → IsHead T t a
  head_with_tag : {a z : List ℕ} → ¬ HasStructs T t → IsSigned (pos t.0) a → IsUnsigned 0 z → IsHead T t (a ++ z)

-- where values of the type can come, the bytes spell this one, and it is no deeper than the limit
abbrev pub IsSpelledAs : Bounds → Table → TypeId → List ℕ → Tree → Type 0
IsSpelledAs L T t spelling v = IsReady T t → Spells T t v spelling × (depth v ≤ L.depth)

-- they spell some such value
pub record IsSpelling (L : Bounds) (T : Table) (t : TypeId) (spelling : List ℕ) : Type 0 where
  pub value : Tree
  pub spelled : IsSpelledAs L T t spelling value

-- the items before this one went out whole, and nothing else
pub record WroteBefore (L : Bounds) (items : List StreamItem) (n : ℕ) (old new : Option (List ℕ)) : Type 0 where
  pub within : n ≤ length items
  pub bytes : List ℕ
  pub table : Table
  pub before : Stream base_table L (take n items) bytes table
  pub out : Appends old new bytes

-- and this one is refused, so that no stream has all of them
pub record RefusedThere (L : Bounds) (items : List StreamItem) (n : ℕ) (r : Reason) (old new : Option (List ℕ)) : Type
    0 where
  pub bytes : List ℕ
  pub table : Table
  pub item : StreamItem
  pub before : Stream base_table L (take n items) bytes table
  pub out : Appends old new bytes
  pub at : slice_get items n ≡ Some item
  pub refused : RefusesItem base_table L table (length bytes) item r
  pub none : ¬ HasStream base_table L items

-- the items before this one went out whole, and a prefix of this one
pub record CutThere (L : Bounds) (items : List StreamItem) (n : ℕ) (old new : Option (List ℕ)) : Type 0 where
  pub bytes : List ℕ
  pub prefix : List ℕ
  pub rest : List ℕ
  pub table : Table
  pub last : Table
  pub item : StreamItem
  pub before : Stream base_table L (take n items) bytes table
  pub out : Appends old new (bytes ++ prefix)
  pub at : slice_get items n ≡ Some item
  pub counted : IsItem base_table L table (length bytes) item (prefix ++ rest) last

-- what stopped the writing of a list of items, at this one
abbrev pub StoppedAt : Bounds → List StreamItem → ℕ → (old new : Option (List ℕ)) → WriteFault → Type 0
StoppedAt L items n old new (fault.Refused r) = RefusedThere L items n r old new
StoppedAt L items n old new fault.Write = CutThere L items n old new
StoppedAt L items n old new fault.Memory = WroteBefore L items n old new
StoppedAt L items n old new fault.Failed = ⊥

-- what writing a list of items answers
abbrev pub WritesStream : Bounds → List StreamItem → (old new : Option (List ℕ)) → Result (Unit {0}) WriteStop → Type 0
WritesStream L items old new (Ok _) = (bytes : List ℕ) × (T : Table) × Stream base_table L items bytes T
    × Appends old new bytes
WritesStream L items old new (Err stop) = StoppedAt L items stop.item old new stop.fault
