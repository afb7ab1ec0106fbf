-- What contracts see of a writer: the items that it has written, as which bytes, and what its calls answer.
-- (docs/FORMAT.md, Fillings and segments; Refusals, the writer's order: this project's own.)
use Rattle.std.specs.Prelude.{◌≡◌, ℕ, pos, ◌+◌, List, [], ◌∷◌, ◌++◌, length, true, false, Option, Result, Ok, Err}
use Rattle.std.specs.Io.KnownBytes.{Appends, Keeps}
use Rattle.gob_types.specs.Base.{base_table}
use Rattle.gob_types.specs.Defined.{Defined, types}
use Rattle.gob_types.specs.Table.{Table}
use Rattle.gob_types.specs.declared.id.TypeId.{TypeId}
use Rattle.gob_types.specs.declared.reason.Reason.{Reason}
use Rattle.gob_value.specs.Tree.{Tree}
use Rattle.gob_stream.specs.Body.{MayPut}
use Rattle.gob_stream.specs.Bounds.{Bounds, within_trees}
use Rattle.gob_stream.specs.Item.{defines}
use Rattle.gob_stream.specs.WriterRefusal.{RefusesItem, RefusesType}
use Rattle.gob_stream.specs.Calls.Writing.{SentPrefix}
use Rattle.gob_stream.specs.declared.fault.WriteFault.{WriteFault}
use Rattle.gob_stream.specs.declared.fault.WriteFault.TheVariants as fault
use Rattle.gob_filled.specs.Filled.{Filled, SpellsFilled}
use Rattle.gob_filled.specs.Stream.{FilledItem, defining, putting, IsFilledItem, FilledStream}
use Rattle.gob_filled_writer.specs.Heads.{RefusesBytes}
use Rattle.gob_filled_writer.specs.declared.writer.FilledWriter.{FilledWriter}

-- a write failed before, and it writes no more
abbrev pub HasFailed : FilledWriter → Type 0
HasFailed w = w.failed ≡ true

-- what it keeps to, and the types of its stream so far
abbrev pub limits_of : FilledWriter → Bounds
limits_of w = w.limits

abbrev pub table_of : FilledWriter → Defined
table_of w = w.types

abbrev pub types_of : FilledWriter → Table
types_of w = types w.types

-- the writer has written these items, as these bytes
pub record HasWritten (w : FilledWriter) (items : List FilledItem) (bytes : List ℕ) (T : Table) : Type 0 where
  pub stream : FilledStream base_table (within_trees w.limits) items bytes T
  pub table : types w.types ≡ T
  pub room : w.types.most ≡ w.limits.types
  pub offset : w.offset ≡ length bytes
  pub sound : w.failed ≡ false

-- why an item isn't written where the types are those of T, at this offset: the definition, the type of the value, or
-- how long its bytes are
pub data RefusesFilledItem (L : Bounds) (T : Table) (offset : ℕ) : FilledItem → Reason → Type 0 where
  refused_definition : {id : TypeId} {v : Tree} {r : Reason} → RefusesItem base_table L T offset (defines id v) r
      → RefusesFilledItem L T offset (defining id v) r
  refused_type : {t : TypeId} {w : Filled} {r : Reason} → RefusesType T t r
      → RefusesFilledItem L T offset (putting t w) r
  refused_bytes : {t : TypeId} {w : Filled} {b : List ℕ} {U : Table} {r : Reason} → MayPut T t
      → SpellsFilled base_table L T t L.depth w b U → RefusesBytes L offset (pos t.0) b r
      → RefusesFilledItem L T offset (putting t w) r

-- the bytes of this item went out, and the writer stands behind them
pub record WroteItem (L : Bounds) (w w' : FilledWriter) (items : List FilledItem) (bytes : List ℕ) (T : Table)
    (i : FilledItem) (old new : Option (List ℕ)) : Type 0 where
  pub more : List ℕ
  pub table : Table
  pub item : IsFilledItem base_table L T (length bytes) i more table
  pub out : Appends old new more
  pub limits : w'.limits ≡ w.limits
  pub written : HasWritten w' (items ++ i ∷ []) (bytes ++ more) table

-- nothing went out, and the writer is as before
abbrev pub WroteNothing : (w w' : FilledWriter) → (old new : Option (List ℕ)) → Type 0
WroteNothing w w' old new = (w' ≡ w) × Keeps old new

-- a prefix of the bytes of this item went out
pub record WrotePrefix (L : Bounds) (T : Table) (offset : ℕ) (i : FilledItem) (old new : Option (List ℕ)) : Type 0 where
  pub prefix : List ℕ
  pub rest : List ℕ
  pub table : Table
  pub item : IsFilledItem base_table L T offset i (prefix ++ rest) table
  pub out : Appends old new prefix

-- what writing an item that these limits admit answers, for a writer that has written the items, over an output with
-- the old bytes
abbrev pub WriteAnswers : Bounds → (w w' : FilledWriter) → List FilledItem → List ℕ → Table → FilledItem
    → (old new : Option (List ℕ)) → Result (Unit {0}) WriteFault → Type 0
WriteAnswers L w w' items bytes T i old new (Ok _) = WroteItem L w w' items bytes T i old new
WriteAnswers L w w' items bytes T i old new (Err (fault.Refused r)) = RefusesFilledItem L T (length bytes) i r
    × WroteNothing w w' old new
WriteAnswers L w w' items bytes T i old new (Err fault.Write) = WrotePrefix L T (length bytes) i old new × HasFailed w'
WriteAnswers L w w' items bytes T i old new (Err fault.Memory) = WroteNothing w w' old new
WriteAnswers L w w' items bytes T i old new (Err fault.Failed) = ⊥

-- ---- for private clauses
-- what sending these bytes answers: the writer stands behind them, or it writes no more, and a prefix of them is out
abbrev pub SendAnswers : (w w' : FilledWriter) → List ℕ → (old new : Option (List ℕ))
    → Result (Unit {0}) WriteFault → Type 0
SendAnswers w w' bytes old new (Ok _) = Appends old new bytes
    × (w' ≡ record w { offset = w.offset + length bytes; failed = false })
SendAnswers w w' bytes old new (Err f) = SentPrefix bytes old new × (w' ≡ record w { failed = true })
    × (f ≡ fault.Write)
