-- Which rows share a line, and that text is the lines of rows. (docs/FORMAT.md, Explained bytes: this project's own.)
use Rattle.std.specs.Prelude.{ℕ, ◌+◌, ◌<◌, List, [], ◌∷◌, ◌++◌, Option, Some, None}
use Rattle.gob_types.specs.declared.basic.Basic.TheVariants as basic
use Rattle.gob_types.specs.declared.kind.Kind.{Kind}
use Rattle.gob_types.specs.declared.kind.Kind.TheVariants as kind
use Rattle.gob_types.specs.declared.kind.Shape.{Shape}
use Rattle.gob_types.specs.Table.{Table, shape_of}
use Rattle.gob_explain.specs.Column.{Meaning, line_text, saturated}
use Rattle.gob_explain.specs.Walk.{between}
use Rattle.gob_explain.specs.declared.row.Row.{Row}
use Rattle.gob_explain.specs.declared.row.What.{What}
use Rattle.gob_explain.specs.declared.row.What.TheVariants as what

-- a part of this kind that begins with the number has a row more: a complex, raw bytes where there are any, and the
-- name of what an interface holds
abbrev pub HasSecondRow : Kind → ℕ → Type 0
HasSecondRow (kind.Basic basic.Complex) n = Unit {0}
HasSecondRow (kind.Basic basic.Bytes) n = 0 < n
HasSecondRow (kind.Basic basic.Str) n = 0 < n
HasSecondRow (kind.Basic basic.Interface) n = 0 < n
HasSecondRow (kind.Opaque marshal) n = 0 < n
HasSecondRow _ n = ⊥

abbrev pub IsFollowed : Option Shape → ℕ → Type 0
IsFollowed None n = ⊥
IsFollowed (Some s) n = HasSecondRow s.kind n

-- the line of a row goes on behind it: that of a delta to a field, and of the first number of a part that has more
abbrev pub GoesOnBehind : What → Option Shape → ℕ → Type 0
GoesOnBehind what.Tag s n = ⊥
GoesOnBehind what.First s n = IsFollowed s n
GoesOnBehind what.Imaginary s n = ⊥
GoesOnBehind what.Raw s n = ⊥
GoesOnBehind what.Delta s n = 0 < n
GoesOnBehind what.TypeNumber s n = ⊥
GoesOnBehind what.Segment s n = ⊥

abbrev pub IsOpen : Table → Row → Type 0
IsOpen T r = GoesOnBehind r.what (shape_of T r.id) r.number

-- a row may stand behind another one in a line: no tag, no delta, no type number and no count of a segment
abbrev pub StandsBehind : What → Type 0
StandsBehind what.Tag = ⊥
StandsBehind what.First = Unit {0}
StandsBehind what.Imaginary = Unit {0}
StandsBehind what.Raw = Unit {0}
StandsBehind what.Delta = ⊥
StandsBehind what.TypeNumber = ⊥
StandsBehind what.Segment = ⊥

-- the row behind the other one stands in its line
abbrev pub SharesLine : Table → Row → Row → Type 0
SharesLine T r s = IsOpen T r × StandsBehind s.what

-- these rows stand behind the first one in its line
abbrev pub AreOneLine : Table → Row → List Row → Type 0
AreOneLine T r [] = Unit {0}
AreOneLine T r (s ∷ rows) = SharesLine T r s × AreOneLine T s rows

-- the last of rows, of which there is one at least, or some
abbrev pub last_row : Row → List Row → Row
last_row r [] = r
last_row r (s ∷ rows) = last_row s rows

abbrev pub last_of : List Row → Option Row
last_of [] = None
last_of (r ∷ rows) = Some (last_row r rows)

-- the row stands in no line of the one before it, if there is one
abbrev pub BeginsLine : Table → Option Row → Row → Type 0
BeginsLine T None r = Unit {0}
BeginsLine T (Some before) r = ¬ SharesLine T before r

-- the text is the lines of the rows of a body, which begins at this offset of the stream: each is of one row and of
-- those that share its line, has their bytes, and stands one level deeper than the first of them lies
pub data AreLines (T : Table) (offset : ℕ) (body : List ℕ) : List Row → List ℕ → Type 0 where
  no_row : AreLines T offset body [] []
  line_of_rows : {rows : List Row} {text : List ℕ} (r : Row) (others : List Row) (meaning : Meaning)
      → AreLines T offset body rows text → BeginsLine T (last_of rows) r → AreOneLine T r others
      → AreLines T offset body (rows ++ r ∷ others) (text
      ++ line_text (saturated (offset + r.begin)) (between r.begin (last_row r others).end body)
      (saturated (r.depth + 1)) meaning.text)
