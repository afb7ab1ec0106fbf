-- What a text says of a stream of values, and what a call answers that writes it. (docs/FORMAT.md, Plain JSON as
-- input.)
use Rattle.std.specs.Prelude.{◌≡◌, ℕ, List, [], ◌∷◌, ◌++◌, length, Option, Some, Result, Ok, Err}
use Rattle.std.specs.Io.KnownBytes.{Appends, Keeps}
use Rattle.json.specs.Lex.{tokens}
use Rattle.gob_types.specs.Base.{base_table}
use Rattle.gob_types.specs.declared.reason.Reason.{Reason}
use Rattle.gob_types.specs.Table.{Table}
use Rattle.gob_value.specs.Tree.{Tree}
use Rattle.gob_stream.specs.Bounds.{Bounds, within_trees}
use Rattle.gob_stream.specs.Item.{StreamItem, puts}
use Rattle.gob_stream.specs.Stream.{IsItem}
use Rattle.gob_stream.specs.WriterRefusal.{RefusesItem}
use Rattle.gob_stream.specs.Calls.Writing.{HasWritten, WrotePrefix}
use Rattle.gob_stream.specs.declared.fault.WriteFault.{WriteFault}
use Rattle.gob_stream.specs.declared.fault.WriteFault.TheVariants as writing
use Rattle.gob_make.specs.Tells.{SaysPlain}
use Rattle.gob_make.specs.declared.plain.Making.{Making}
use Rattle.gob_write.specs.Place.{IsLineIn, IsPlaceIn}
use Rattle.gob_write.specs.declared.fault.LinesFault.{LinesFault}
use Rattle.gob_write.specs.declared.fault.LinesFault.TheVariants as fault
use Rattle.gob_write.specs.declared.place.Place.{Place}
use Rattle.gob_write.specs.declared.writer.PlainWriter.{PlainWriter}

-- as values of which type texts are read, within which limits, and the stream in front of what they say
pub record Saying : Type 0 where
  pub making : Making
  pub bounds : Bounds
  pub items : List StreamItem
  pub bytes : List ℕ
  pub table : Table

-- with nothing in front
abbrev pub of_values : Making → Bounds → Saying
of_values making L = record { making = making; bounds = L; items = []; bytes = []; table = base_table }

-- the limits are those of values that are trees
abbrev pub IsWithinTrees : Saying → Type 0
IsWithinTrees S = (K : Bounds) × (S.bounds ≡ within_trees K)

-- by these types the text says this item: a value of the wanted type
pub data SaysItem (making : Making) (T : Table) (text : List ℕ) : StreamItem → Type 0 where
  says_plain : {v : Tree} → SaysPlain making.lenient T making.id text (Some v)
      → SaysItem making T text (puts making.id v)

-- why no stream goes on with what the text says, where the types are those of T, at this offset
pub record RefusesText (S : Saying) (T : Table) (offset : ℕ) (text : List ℕ) (r : Reason) : Type 0 where
  pub item : StreamItem
  pub says : SaysItem S.making T text item
  pub refuses : RefusesItem base_table S.bounds T offset item r

-- the writer has written these items under these limits, as these bytes, and reads texts as values of that type
pub record HasWrittenTexts (S : Saying) (w : PlainWriter) (items : List StreamItem) (bytes : List ℕ) (T : Table)
    : Type 0 where
  pub written : HasWritten w.writer items bytes T
  pub limits : w.writer.limits ≡ S.bounds
  pub making : w.making ≡ S.making

-- what the text says went out, and the writer stands behind it
pub record WroteSaid (S : Saying) (w' : PlainWriter) (items : List StreamItem) (bytes : List ℕ) (T : Table)
    (text : List ℕ) (old new : Option (List ℕ)) : Type 0 where
  pub item : StreamItem
  pub says : SaysItem S.making T text item
  pub more : List ℕ
  pub table : Table
  pub is_item : IsItem base_table S.bounds T (length bytes) item more table
  pub out : Appends old new more
  pub written : HasWrittenTexts S w' (items ++ item ∷ []) (bytes ++ more) table

-- or the text says nothing
pub data WroteText (S : Saying) (w' : PlainWriter) (items : List StreamItem) (bytes : List ℕ) (T : Table)
    (text : List ℕ) (old new : Option (List ℕ)) : Type 0 where
  wrote_nothing : tokens text ≡ [] → HasWrittenTexts S w' items bytes T → Keeps old new
      → WroteText S w' items bytes T text old new
  wrote_said : WroteSaid S w' items bytes T text old new → WroteText S w' items bytes T text old new

-- a prefix of the item that the text says went out
pub record WroteSome (S : Saying) (T : Table) (offset : ℕ) (text : List ℕ) (old new : Option (List ℕ)) : Type 0 where
  pub item : StreamItem
  pub says : SaysItem S.making T text item
  pub wrote : WrotePrefix S.bounds T offset item old new

-- what a call answers that writes what the text says
abbrev pub WritesSaid : Saying → PlainWriter → List StreamItem → List ℕ → Table → (text : List ℕ)
    → (old new : Option (List ℕ)) → Result (Unit {0}) WriteFault → Type 0
WritesSaid S w' items bytes T text old new (Ok _) = WroteText S w' items bytes T text old new
WritesSaid S w' items bytes T text old new (Err (writing.Refused r)) = RefusesText S T (length bytes) text r
    × Keeps old new
WritesSaid S w' items bytes T text old new (Err writing.Write) = WroteSome S T (length bytes) text old new
WritesSaid S w' items bytes T text old new (Err writing.Memory) = Keeps old new
WritesSaid S w' items bytes T text old new (Err writing.Failed) = ⊥

-- and one that reads it before, where it begins at this place
abbrev pub TextAnswers : Saying → PlainWriter → List StreamItem → List ℕ → Table → (text : List ℕ)
    → (start : Place) → (old new : Option (List ℕ)) → Result (Unit {0}) LinesFault → Type 0
TextAnswers S w' items bytes T text start old new (Ok _) = WroteText S w' items bytes T text old new
TextAnswers S w' items bytes T text start old new (Err (fault.Wrong n column path due)) =
    IsPlaceIn start text n column × Keeps old new
TextAnswers S w' items bytes T text start old new (Err (fault.Refused n r)) = IsLineIn start text n
    × RefusesText S T (length bytes) text r × Keeps old new
TextAnswers S w' items bytes T text start old new (Err (fault.TooLong n m)) = ⊥
TextAnswers S w' items bytes T text start old new (Err fault.Read) = ⊥
TextAnswers S w' items bytes T text start old new (Err fault.Write) = WroteSome S T (length bytes) text old new
TextAnswers S w' items bytes T text start old new (Err fault.Memory) = Keeps old new
