-- What source says, and places in it. (docs/FORMAT.md, Types as source: this project's own.)
use Rattle.std.specs.Prelude.{ℕ, ◌+◌, List, [], ◌∷◌, ◌==◌, if◌then◌else◌}
use Rattle.std.specs.Str.{IsUtf8}
use Rattle.gob_go_source.specs.declared.go_type.Declaration.{Declaration}
use Rattle.gob_go_source.specs.declared.go_type.GoType.{GoType}
use Rattle.gob_go_source.specs.declared.lexer.Ahead.{Ahead}
use Rattle.gob_go_source.specs.declared.source.Position.{Position}
use Rattle.gob_go_source.specs.declared.token.Token.{Token}
use Rattle.gob_go_source.specs.Declarations.{SaysSource}
use Rattle.gob_go_source.specs.Lexing.{Lexes}

-- the text is UTF-8, and its tokens are declarations, which declare these types
pub record SaysText (text : List ℕ) (types : List GoType) (ds : List Declaration) : Type 0 where
  pub utf8 : IsUtf8 text
  pub tokens : List Token
  pub offsets : List ℕ
  pub ahead : Ahead
  pub lexed : Lexes text [] ahead tokens offsets
  pub said : SaysSource types ds tokens []

-- a byte behind a place moves it: the end of a line to the next line, any other by a column
abbrev pub moved_by : Position → ℕ → Position
moved_by p b =
    if b == 10 then record { line = p.line + 1; column = 1 } else record { line = p.line; column = p.column + 1 }

-- the place behind a text that begins at a place
abbrev pub moved_over : Position → List ℕ → Position
moved_over p [] = p
moved_over p (b ∷ bs) = moved_over (moved_by p b) bs

-- the place behind a text, by lines and columns from 1
abbrev pub position_behind : List ℕ → Position
position_behind text = moved_over (record { line = 1; column = 1 }) text
