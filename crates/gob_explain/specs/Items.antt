-- Which rows the first bytes of an item have, and that text shows them. (docs/FORMAT.md, Explained bytes: this
-- project's own.)
use Rattle.std.specs.Prelude.{◌≡◌, ℕ, pos, negsuc, ◌+◌, ◌<◌, Bool, List, [], ◌++◌, length, take, drop}
use Rattle.gob_num.specs.Place.{IsUnsignedAt, NoNumberStandsAt}
use Rattle.gob_num.specs.Signed.{IsSigned}
use Rattle.gob_types.specs.Base.{wire_type}
use Rattle.gob_types.specs.Table.{Table}
use Rattle.gob_types.specs.declared.id.TypeId.{TypeId}
use Rattle.gob_explain.specs.Body.{EndsSo, begins_value}
use Rattle.gob_explain.specs.Column.{ColumnIs, Meaning, line_text, saturated}
use Rattle.gob_explain.specs.Lines.{AreLines}
use Rattle.gob_explain.specs.Open.{Open}
use Rattle.gob_explain.specs.Walk.{RowsLead, between}
use Rattle.gob_explain.specs.declared.row.Row.{Row}

-- the type number says that the body is a value of the type, or a description
pub data NamesBody : List ℕ → TypeId → Type 0 where
  of_value : {t : TypeId} {b : List ℕ} → IsSigned (pos t.0) b → NamesBody b t
  of_definition : {n : ℕ} {b : List ℕ} → IsSigned (negsuc n) b → NamesBody b wire_type

-- the text is the lines of rows of a body that lead to the place, and no further: a value is whole there, or what comes
-- next doesn't stand there; of a type that isn't ready there are none
pub data LinesOfBody (T : Table) (t : TypeId) (offset : ℕ) (body : List ℕ) : ℕ → List ℕ → Type 0 where
  rows_lead : {place : ℕ} {text : List ℕ} (rows : List Row) (opens : List Open) (whole : Bool)
      → RowsLead T body (begins_value t) 0 rows opens place → EndsSo T t body 1000 whole opens place
      → AreLines T offset body rows text → LinesOfBody T t offset body place text

-- the text is the lines of an item that begins at this offset of the stream, up to the place, which is as far as they
-- lead: that of its count, that of its type number one level deeper, and those of its body
pub data LinesOfItem (T : Table) (offset : ℕ) (bytes : List ℕ) : ℕ → List ℕ → Type 0 where
  no_count : NoNumberStandsAt bytes 0 → LinesOfItem T offset bytes 0 []
  no_type_number : {n begin : ℕ} (meaning : Meaning) → IsUnsignedAt n bytes 0 begin → NoNumberStandsAt bytes begin
      → LinesOfItem T offset bytes begin (line_text offset (between 0 begin bytes) 0 meaning.text)
  of_body : {n m begin body place : ℕ} {t : TypeId} {text : List ℕ} (meaning named : Meaning)
      → IsUnsignedAt n bytes 0 begin → IsUnsignedAt m bytes begin body → NamesBody (between begin body bytes) t
      → LinesOfBody T t (saturated (offset + body)) (drop body bytes) place text
      → LinesOfItem T offset bytes (body + place) (line_text offset (between 0 begin bytes) 0 meaning.text
      ++ (line_text (saturated (offset + begin)) (between begin body bytes) 1 named.text ++ text))

-- the text is a line of what is left of the bytes from the place on, if anything is
pub data LineOfRest (offset : ℕ) (bytes : List ℕ) (place : ℕ) : List ℕ → Type 0 where
  none_left : place ≡ length bytes → LineOfRest offset bytes place []
  some_left : (meaning : Meaning) → place < length bytes
      → LineOfRest offset bytes place (line_text (saturated (offset + place)) (drop place bytes) 0 meaning.text)

-- the text is lines that show these first bytes of an item, which begin at this offset of the stream: those of its
-- rows, as far as they lead, and one of what is left of the bytes; so the column of their bytes is the bytes
pub record ShowsItem (T : Table) (offset : ℕ) (bytes text : List ℕ) : Type 0 where
  pub reached : ℕ
  pub lines : List ℕ
  pub last : List ℕ
  pub all : text ≡ lines ++ last
  pub rows : LinesOfItem T offset bytes reached lines
  pub rest : LineOfRest offset bytes reached last
  pub column : ColumnIs offset bytes text

-- ---- what calls make
-- lines of a body, up to the place
pub record ShowsBodyTo (T : Table) (t : TypeId) (offset : ℕ) (body : List ℕ) (place : ℕ) (text : List ℕ) : Type
    0 where
  pub rows : LinesOfBody T t offset body place text
  pub column : ColumnIs offset (take place body) text

-- lines of an item, up to the place
pub record ShowsItemTo (T : Table) (offset : ℕ) (bytes : List ℕ) (place : ℕ) (text : List ℕ) : Type 0 where
  pub rows : LinesOfItem T offset bytes place text
  pub column : ColumnIs offset (take place bytes) text

-- lines of the first bytes of an item, where those of its rows lead to the place
pub record ShowsFirst (T : Table) (offset : ℕ) (bytes : List ℕ) (place : ℕ) (text : List ℕ) : Type 0 where
  pub shows : ShowsItem T offset bytes text
  pub place_is : shows.reached ≡ place
