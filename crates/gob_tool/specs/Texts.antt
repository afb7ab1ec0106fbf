-- What a run answers that writes a text of each item, and what it has written then, in any grammar of items. `Is` says
-- which texts are those of an item, by the types behind it.
-- (docs/FORMAT.md, The program: this project's own.)
use Rattle.std.specs.Prelude.{◌≡◌, ℕ, ◌<◌, ◌≤◌, List, [], ◌∷◌, ◌++◌, length, take, Option, Some, None}
use Rattle.std.specs.Prelude.{Result, Err}
use Rattle.std.specs.Io.KnownBytes.{Appends}
use Rattle.gob_types.specs.Base.{base_table}
use Rattle.gob_types.specs.Defined.{types}
use Rattle.gob_types.specs.Table.{Table}
use Rattle.gob_types.specs.declared.id.TypeId.{TypeId}
use Rattle.gob_value.specs.Tree.{Tree}
use Rattle.gob_value.specs.Whole.{IsWhole}
use Rattle.gob_stream.specs.Bounds.{Bounds}
use Rattle.gob_stream.specs.Calls.ReaderOf.{session_of, waits_in}
use Rattle.gob_stream.specs.Calls.Writing.{CountsWriterFaults}
use Rattle.gob_stream.specs.Grammar.{BeginsIn, Grammar}
use Rattle.gob_stream.specs.Item.{StreamItem, puts}
use Rattle.gob_stream.specs.Stepping.{HasBodyNextBy, IsToldNextBy, Stepping}
use Rattle.gob_stream.specs.declared.reader_of.ReaderOf.{ReaderOf}
use Rattle.gob_filled.specs.Filled.{Filled, filled, no_filling, filling}
use Rattle.gob_filled.specs.Stream.{IsFilledItem, putting}
use Rattle.gob_tool.specs.Answering.{AppendsPrefix, RunAnswersIn}
use Rattle.gob_tool.specs.Line.{line}
use Rattle.gob_tool.specs.Sending.{Sends}
use Rattle.gob_tool.specs.declared.fault.ToolFault.{ToolFault}
use Rattle.gob_tool.specs.declared.texts.Sent.{Sent}

-- the bytes begin with the stream of the items, and the text is theirs one after another, that of each item by the
-- types behind it
pub data HaveTexts {Told : Type 0} (G : Grammar Told) (Is : Table → Told → List ℕ → Type 0) (L : Bounds)
    (bytes : List ℕ) : List Told → List ℕ → Type 0 where
  no_texts : HaveTexts G Is L bytes [] []
  texts_then : {items : List Told} {text : List ℕ} (i : Told) (more : List ℕ) → HaveTexts G Is L bytes items text
      → (b : BeginsIn G L bytes (items ++ i ∷ [])) → Is b.table i more
      → HaveTexts G Is L bytes (items ++ i ∷ []) (text ++ more)

-- this holds of the texts of the items
pub record OfTexts {Told : Type 0} (G : Grammar Told) (Is : Table → Told → List ℕ → Type 0) (L : Bounds)
    (bytes : List ℕ) (P : List ℕ → Type 0) (items : List Told) : Type 0 where
  pub text : List ℕ
  pub texts : HaveTexts G Is L bytes items text
  pub holds : P text

-- how the run ends, over an input with these bytes left and an output with the old bytes: the texts went out, and
-- nothing else, or after a failed write a prefix of them
abbrev pub TextsAnswersIn : {Told : Type 0} → Grammar Told → (Is : Table → Told → List ℕ → Type 0) → Bounds
    → (bytes : List ℕ) → (now old new : Option (List ℕ)) → Result (Unit {0}) ToolFault → Type 0
TextsAnswersIn G Is L bytes now old new result = RunAnswersIn G L bytes now
    (λ T items. OfTexts G Is L bytes (Appends old new) items)
    (λ T items. OfTexts G Is L bytes (AppendsPrefix old new) items) result

-- they did, or a fault stopped the run at an item, and those of the items before it went out
pub data AnswersOrStops {Told : Type 0} (G : Grammar Told) (Is : Table → Told → List ℕ → Type 0)
    (Stop : Table → Told → ToolFault → Type 0) (L : Bounds) (bytes : List ℕ) (now old new : Option (List ℕ))
    : Result (Unit {0}) ToolFault → Type 0 where
  answers : {r : Result (Unit {0}) ToolFault} → TextsAnswersIn G Is L bytes now old new r
      → AnswersOrStops G Is Stop L bytes now old new r
  stops_at : {f : ToolFault} (items : List Told) (i : Told) (begins : BeginsIn G L bytes (items ++ i ∷ []))
      → OfTexts G Is L bytes (Appends old new) items → Stop begins.table i f
      → AnswersOrStops G Is Stop L bytes now old new (Err f)

-- ---- texts, as they are made of what a session hands out
-- an interface of the value holds another
abbrev pub HoldsSome : Filled → Type 0
HoldsSome (filled v no_filling) = ⊥
HoldsSome (filled v (filling place name ds u w fs)) = Unit {0}

-- the text of a value that waited as a whole: of one of the format, or of one that holds others, which its bytes are at
-- some offset
pub data IsValueText {X I Told : Type 0} (d : Stepping X I Told) (of_value : Table → TypeId → Filled → List ℕ → Type 0)
    (T : Table) : Told → List ℕ → Type 0 where
  of_unfilled : {id : TypeId} {v : Tree} {text : List ℕ} → of_value T id (filled v no_filling) text
      → IsValueText d of_value T (d.told (puts id v)) text
  of_held : {L : Bounds} {offset : ℕ} {z : List ℕ} {i : Told} {id : TypeId} {w : Filled} {text : List ℕ}
      → HoldsSome w → d.grammar.is L T offset i z T → IsFilledItem base_table L T offset (putting id w) z T
      → of_value T id w text → IsValueText d of_value T i text

-- only values of the format have texts, as this says of their items
abbrev pub of_format : (Table → StreamItem → List ℕ → Type 0) → Table → TypeId → Filled → List ℕ → Type 0
of_format P T id (filled v no_filling) text = P T (puts id v) text
of_format P T id (filled v (filling place name ds u w fs)) text = ⊥

-- the text of an item: of one that was handed out, or of a value that waited as a whole
pub data IsTextBy {X I Told : Type 0} (d : Stepping X I Told) (of_item : Table → I → List ℕ → Type 0)
    (of_value : Table → TypeId → Filled → List ℕ → Type 0) (T : Table) : Told → List ℕ → Type 0 where
  from_item : {given : I} {i : Told} {text : List ℕ} → d.means T given i → of_item T given text
      → IsTextBy d of_item of_value T i text
  from_value : {i : Told} {text : List ℕ} → IsValueText d of_value T i text → IsTextBy d of_item of_value T i text

-- the fault stops the run at an item that was handed out
pub record IsStopBy {X I Told : Type 0} (d : Stepping X I Told) (of_item : Table → I → ToolFault → Type 0) (T : Table)
    (i : Told) (f : ToolFault) : Type 0 where
  pub given : I
  pub means : d.means T given i
  pub stops : of_item T given f

-- the item that a session handed out is one of what it read, and its types are those of the table
pub record IsGiven {X I Told : Type 0} (d : Stepping X I Told) (T : Table) (given : I) : Type 0 where
  pub session : X
  pub items : List Told
  pub bytes : List ℕ
  pub item : Told
  pub read : d.read session (items ++ item ∷ []) bytes
  pub means : d.means T given item
  pub between : d.between session
  pub types : types (d.table session) ≡ T

-- the first bytes that wait are this item, which defines nothing
pub record IsNextWhole {X I Told : Type 0} (d : Stepping X I Told) (r : ReaderOf X I) (i : Told) (used : ℕ) : Type
    0 where
  pub between : d.between (session_of r)
  pub some : 0 < used
  pub within : used ≤ length (waits_in r)
  pub next : IsToldNextBy d (session_of r) i (take used (waits_in r))

-- and the text is its
pub record IsWholeText {X I Told : Type 0} (d : Stepping X I Told)
    (of_value : Table → TypeId → Filled → List ℕ → Type 0) (r : ReaderOf X I) (used : ℕ) (text : List ℕ) : Type
    0 where
  pub told : Told
  pub item : IsNextWhole d r told used
  pub is : IsValueText d of_value (types (d.table (session_of r))) told text

-- the line of the item of a value no deeper than this that waits as a whole
pub record IsLineAhead {X I Told : Type 0} (d : Stepping X I Told) (depth : ℕ) (r : ReaderOf X I) (used : ℕ)
    (text : List ℕ) : Type 0 where
  pub id : TypeId
  pub body : List ℕ
  pub between : d.between (session_of r)
  pub next : HasBodyNextBy d (session_of r) id body used (waits_in r)
  pub whole : IsWhole (types (d.table (session_of r))) id depth body
  pub text_is : text ≡ line (types (d.table (session_of r))) (puts id whole.value)

-- the text of an item that waits as a whole went out, or a prefix of it; or nothing was sent
abbrev pub SendsWhole : {X I Told : Type 0} → Stepping X I Told
    → (of_value : Table → TypeId → Filled → List ℕ → Type 0)
    → ReaderOf X I → (failures failures' : ℕ) → (old new : Option (List ℕ)) → Option Sent → Type 0
SendsWhole d of_value r failures failures' old new None = (failures' ≡ failures) × (new ≡ old)
SendsWhole d of_value r failures failures' old new (Some given) = (text : List ℕ)
    × IsWholeText d of_value r given.used text × Sends old new text given.sent
    × CountsWriterFaults failures failures' given.sent
