-- What the lines of `show` and `show --go` say, and what calls answer that write it. (docs/FORMAT.md, The JSON lines.)
use Rattle.std.specs.Prelude.{◌≡◌, ℕ, Bool, List, [], ◌∷◌, ◌++◌, length, Option, Result, Ok, Err}
use Rattle.std.specs.Io.KnownBytes.{Appends, Keeps}
use Rattle.std.specs.Str.{IsUtf8}
use Rattle.json.specs.Lex.{tokens}
use Rattle.gob_types.specs.Base.{base_table}
use Rattle.gob_types.specs.Definable.{IsDefinable}
use Rattle.gob_types.specs.Ready.{IsReady}
use Rattle.gob_types.specs.Table.{Table}
use Rattle.gob_types.specs.declared.id.TypeId.{TypeId}
use Rattle.gob_types.specs.declared.kind.Shape.{Shape}
use Rattle.gob_types.specs.declared.reason.Reason.{Reason}
use Rattle.gob_value.specs.Described.{described}
use Rattle.gob_stream.specs.Bounds.{Bounds, within_trees}
use Rattle.gob_stream.specs.WriterRefusal.{RefusesType}
use Rattle.gob_stream.specs.declared.fault.WriteFault.{WriteFault}
use Rattle.gob_stream.specs.declared.fault.WriteFault.TheVariants as writing
use Rattle.gob_filled.specs.Stream.{FilledItem, defining, putting, IsFilledItem}
use Rattle.gob_filled_writer.specs.Writing.{HasWritten, RefusesFilledItem, limits_of}
use Rattle.gob_lines.specs.Complete.{SaysDefinition}
use Rattle.gob_lines.specs.Definition.{IsDefinitionJson}
use Rattle.gob_lines.specs.Numbers.{ReadsSome}
use Rattle.gob_go_lines.specs.Lines.{SaysPut, TellsFilled, TellsUnready}
use Rattle.gob_go_lines.specs.declared.line.Form.{Form}
use Rattle.gob_go_lines.specs.declared.line.GoLine.{GoLine}
use Rattle.gob_go_lines.specs.declared.line.GoLine.TheVariants as line
use Rattle.gob_write.specs.Grammar.{Grammar, WrotePrefixOf}
use Rattle.gob_write.specs.declared.fault.LinesFault.{LinesFault}
use Rattle.gob_write.specs.declared.fault.LinesFault.TheVariants as fault
use Rattle.gob_write.specs.declared.shown.ShownWriter.{ShownWriter}

-- ---- what a line says

-- by these types the line says this item, no part of its value deeper than the limit: a definition by its shape, which
-- has the one description that a writer makes; or a value that defines nothing, by the JSON that it shows, and which
-- holds nothing in interfaces but where that is asked for
pub data SaysFilledItem (T : Table) (H : Bool) (limit : ℕ) (line : List ℕ) : FilledItem → Type 0 where
  says_definition : {id : TypeId} (s : Shape) → IsDefinable s → ReadsSome (IsDefinitionJson id s) (tokens line) []
      → SaysFilledItem T H limit line (defining id (described id s))
  says_filled : {id : TypeId} {body : List ℕ} → IsReady T id → (told : TellsFilled T H id limit body (tokens line) [])
      → SaysFilledItem T H limit line (putting id told.value)

-- the line says no definition, and no value in the grammar of such lines, no part of it deeper than the limit
pub record SaysNeither (T : Table) (H : Bool) (limit : ℕ) (line : List ℕ) : Type 0 where
  pub value : (id : TypeId) (body : List ℕ) → SaysPut T H limit (tokens line) id body → ⊥
  pub definition : (id : TypeId) (s : Shape) → SaysDefinition (tokens line) id s → ⊥

-- why no stream goes on with what the line says, where the types are those of T, at this offset
pub data RefusesFilledLine (H : Bool) (L : Bounds) (T : Table) (offset : ℕ) (line : List ℕ) : Reason → Type 0 where
  refuses_filled : {i : FilledItem} {r : Reason} → SaysFilledItem T H L.depth line i → RefusesFilledItem L T offset i r
      → RefusesFilledLine H L T offset line r
  refuses_unready : (id : TypeId) {r : Reason} → TellsUnready T id (tokens line) → RefusesType T id r
      → RefusesFilledLine H L T offset line r

-- lines whose interfaces may hold values, or, where that isn't asked for, are nil
abbrev pub filled_lines : (H : Bool) → Bounds → Grammar FilledItem
filled_lines H L = record {
  says = λ T line i. SaysFilledItem T H L.depth line i;
  is = λ T offset i b U. IsFilledItem base_table L T offset i b U;
  says_none = λ T offset line. SaysNeither T H L.depth line;
  refuses = λ T offset line r. RefusesFilledLine H L T offset line r;
}

-- ---- for private clauses

-- the shape of a definition is one that a description can give
abbrev pub DefinesDefinable : GoLine → Type 0
DefinesDefinable (line.Define id s) = IsDefinable s
DefinesDefinable _ = Unit {0}

-- how the lines of this writer are read, and how they are due to be
abbrev pub form_of : ShownWriter → Form
form_of w = w.form

abbrev pub form_within : (H : Bool) → Bounds → Form
form_within H L = record { depth = L.depth; holds = H }

-- the writer has written these items under these limits, as these bytes, and reads lines by their types, no deeper
-- than a stream's values may be
pub record HasWrittenFilled (H : Bool) (L : Bounds) (w : ShownWriter) (items : List FilledItem) (bytes : List ℕ)
    (T : Table) : Type 0 where
  pub written : HasWritten w.writer items bytes T
  pub limits : within_trees (limits_of w.writer) ≡ L
  pub form : w.form ≡ form_within H L

-- what the line says went out, and the writer stands behind it
pub record WroteFilledSaid (H : Bool) (L : Bounds) (w' : ShownWriter) (items : List FilledItem) (bytes : List ℕ)
    (T : Table) (line : List ℕ) (old new : Option (List ℕ)) : Type 0 where
  pub item : FilledItem
  pub says : SaysFilledItem T H L.depth line item
  pub more : List ℕ
  pub table : Table
  pub is_item : IsFilledItem base_table L T (length bytes) item more table
  pub out : Appends old new more
  pub written : HasWrittenFilled H L w' (items ++ item ∷ []) (bytes ++ more) table

-- or the line says nothing
pub data WroteFilledLine (H : Bool) (L : Bounds) (w' : ShownWriter) (items : List FilledItem) (bytes : List ℕ)
    (T : Table) (line : List ℕ) (old new : Option (List ℕ)) : Type 0 where
  wrote_none : tokens line ≡ [] → HasWrittenFilled H L w' items bytes T → Keeps old new
      → WroteFilledLine H L w' items bytes T line old new
  wrote_filled : WroteFilledSaid H L w' items bytes T line old new → WroteFilledLine H L w' items bytes T line old new

-- what a call answers that writes what the line says
abbrev pub WritesFilledSaid : (H : Bool) → Bounds → ShownWriter → List FilledItem → List ℕ → Table → (line : List ℕ)
    → (old new : Option (List ℕ)) → Result (Unit {0}) WriteFault → Type 0
WritesFilledSaid H L w' items bytes T line old new (Ok _) = WroteFilledLine H L w' items bytes T line old new
WritesFilledSaid H L w' items bytes T line old new (Err (writing.Refused r)) =
    RefusesFilledLine H L T (length bytes) line r × Keeps old new
WritesFilledSaid H L w' items bytes T line old new (Err writing.Write) =
    WrotePrefixOf (filled_lines H L) T (length bytes) line old new
WritesFilledSaid H L w' items bytes T line old new (Err writing.Memory) = Keeps old new
WritesFilledSaid H L w' items bytes T line old new (Err writing.Failed) = ⊥

-- and one that reads it before, where it is the line of this number
abbrev pub FilledLineAnswers : (H : Bool) → Bounds → ShownWriter → List FilledItem → List ℕ → Table → (line : List ℕ)
    → (number : ℕ) → (old new : Option (List ℕ)) → Result (Unit {0}) LinesFault → Type 0
FilledLineAnswers H L w' items bytes T line number old new (Ok _) = WroteFilledLine H L w' items bytes T line old new
FilledLineAnswers H L w' items bytes T line number old new (Err (fault.Wrong n column path due)) = (n ≡ number)
    × (IsUtf8 line → SaysNeither T H L.depth line) × Keeps old new
FilledLineAnswers H L w' items bytes T line number old new (Err (fault.Refused n r)) = (n ≡ number)
    × RefusesFilledLine H L T (length bytes) line r × Keeps old new
FilledLineAnswers H L w' items bytes T line number old new (Err (fault.TooLong n m)) = ⊥
FilledLineAnswers H L w' items bytes T line number old new (Err fault.Read) = ⊥
FilledLineAnswers H L w' items bytes T line number old new (Err fault.Write) =
    WrotePrefixOf (filled_lines H L) T (length bytes) line old new
FilledLineAnswers H L w' items bytes T line number old new (Err fault.Memory) = Keeps old new
