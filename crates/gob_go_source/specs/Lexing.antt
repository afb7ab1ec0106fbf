-- Source as tokens. (The Go Programming Language Specification, Lexical elements: Comments, Tokens, Semicolons,
-- Keywords, Operators and punctuation.)
use Rattle.std.specs.Prelude.{◌≡◌, ℕ, ◌+◌, ◌-◌, List, [], ◌∷◌, ◌++◌, Bool, true, false, ◌==◌, ◌&&◌, ◌||◌}
use Rattle.std.specs.Prelude.{take, drop, length, replicate, if◌then◌else◌, codes, Option, Some, None}
use Rattle.std.specs.Prelude.{option_map, unwrap_or}
use Rattle.std.specs.Option.{IsSomeAnd}
use Rattle.std.specs.Char.{is_ascii_digit}
use Rattle.std.specs.List.{list_any}
use Rattle.std.specs.Str.{bytes_eq}
use Rattle.gob_go_source.specs.declared.lexer.Ahead.{Ahead}
use Rattle.gob_go_source.specs.declared.piece.Front.{Front}
use Rattle.gob_go_source.specs.declared.piece.Piece.{Piece}
use Rattle.gob_go_source.specs.declared.piece.Piece.TheVariants as piece
use Rattle.gob_go_source.specs.declared.piece.Start.{Start}
use Rattle.gob_go_source.specs.declared.scan.Scan.{Scan}
use Rattle.gob_go_source.specs.declared.scan.Scan.TheVariants as scan
use Rattle.gob_go_source.specs.declared.token.Mark.{Mark}
use Rattle.gob_go_source.specs.declared.token.Mark.TheVariants as mark
use Rattle.gob_go_source.specs.declared.token.Note.{Note}
use Rattle.gob_go_source.specs.declared.token.Token.{Token}
use Rattle.gob_go_source.specs.declared.token.Token.TheVariants as token
use Rattle.gob_go_source.specs.Notes.{SaysNote, no_note}
use Rattle.gob_go_source.specs.Numbers.{IsNumberOf}
use Rattle.gob_go_source.specs.Scanning.{end_of, is_blank, is_letter_byte}

-- ---- the piece that stands first

-- two signs begin a comment, or the arrow of a channel
abbrev pub pair_start : ℕ → ℕ → Option Start
pair_start b c =
    if (b == 47) && (c == 47) then Some (record { piece = piece.Comment; len = 2; scan = scan.Line }) else
    if (b == 47) && (c == 42) then Some (record { piece = piece.Comment; len = 2; scan = scan.Block false }) else
    if (b == 60) && (c == 45) then Some (record { piece = piece.Arrow; len = 2; scan = scan.Nothing }) else None

-- what else begins with a byte
abbrev pub piece_of : ℕ → Piece
piece_of b =
    if is_blank b then piece.Blank else if b == 10 then piece.LineEnd else
    if is_ascii_digit b then piece.Number else if is_letter_byte b then piece.Word else
    if (b == 34) || ((b == 39) || (b == 96)) then piece.Text else piece.Sign

-- a string or a character goes on up to its mark
abbrev pub quoted_by : ℕ → Scan
quoted_by q = if q == 96 then scan.Raw else scan.Quoted q false

-- how it goes on
abbrev pub scan_of : ℕ → Piece → Scan
scan_of b piece.Blank = scan.Blanks
scan_of b piece.Number = scan.Word
scan_of b piece.Word = scan.Word
scan_of b piece.Text = quoted_by b
scan_of b _ = scan.Nothing

abbrev pub single_start : ℕ → Start
single_start b = record { piece = piece_of b; len = 1; scan = scan_of b (piece_of b) }

-- how the text begins
abbrev pub start_of : List ℕ → Option Start
start_of [] = None
start_of (b ∷ []) = Some (single_start b)
start_of (b ∷ (c ∷ cs)) = Some (unwrap_or (pair_start b c) (single_start b))

-- a piece of so many bytes, and so many behind them, if it ends
abbrev pub of_length : Piece → ℕ → Option ℕ → Option Front
of_length p n None = None
of_length p n (Some m) = Some (record { piece = p; len = n + m })

abbrev pub front_by : List ℕ → Option Start → Option Front
front_by text None = None
front_by text (Some s) = of_length s.piece s.len (end_of s.scan (drop s.len text))

-- the piece that stands first in the text, if there is one and it ends
abbrev pub front : List ℕ → Option Front
front text = front_by text (start_of text)

-- ---- its token

-- the keywords that have none among types
abbrev pub other_keywords : List (List ℕ)
other_keywords =
    codes "break" ∷ codes "case" ∷ codes "const" ∷ codes "continue" ∷ codes "default" ∷ codes "defer" ∷
    codes "else" ∷ codes "fallthrough" ∷ codes "for" ∷ codes "go" ∷ codes "goto" ∷ codes "if" ∷ codes "range" ∷
    codes "return" ∷ codes "select" ∷ codes "switch" ∷ codes "var" ∷ []

-- the mark that a keyword is
abbrev pub keyword_mark : List ℕ → Option Mark
keyword_mark text =
    if bytes_eq (codes "package") text then Some mark.Package else
    if bytes_eq (codes "import") text then Some mark.Import else
    if bytes_eq (codes "func") text then Some mark.Func else
    if bytes_eq (codes "struct") text then Some mark.Struct else
    if bytes_eq (codes "map") text then Some mark.Map else
    if bytes_eq (codes "interface") text then Some mark.Interface else
    if bytes_eq (codes "chan") text then Some mark.Chan else
    if list_any (λ word. bytes_eq word text) other_keywords then Some mark.Other else None

-- the token of a keyword, behind comments that say this of a type
abbrev pub keyword : Note → List ℕ → Option Token
keyword note text =
    if bytes_eq (codes "type") text then Some (token.Type note) else option_map (λ m. token.Mark m) (keyword_mark text)

-- the mark that a byte is
abbrev pub sign : ℕ → Mark
sign b =
    if b == 123 then mark.OpenBrace else if b == 125 then mark.CloseBrace else
    if b == 91 then mark.OpenBracket else if b == 93 then mark.CloseBracket else
    if b == 40 then mark.Open else if b == 41 then mark.Close else
    if b == 42 then mark.Star else if b == 44 then mark.Comma else
    if b == 46 then mark.Dot else if b == 61 then mark.Equals else
    if b == 59 then mark.Stop else mark.Other

abbrev pub sign_of : List ℕ → Mark
sign_of [] = mark.Other
sign_of (b ∷ bs) = sign b

-- a name is its text
abbrev pub IsName : List ℕ → Token → Type 0
IsName text (token.Name w) = w.now ≡ text
IsName text _ = ⊥

abbrev pub IsWord : Option Token → List ℕ → Token → Type 0
IsWord None text t = IsName text t
IsWord (Some k) text t = t ≡ k

-- a number is that whose decimal form the text is, where it has one below 2 ^ 64
abbrev pub IsNumber : List ℕ → Token → Type 0
IsNumber text (token.Number n) = IsNumberOf text (Some n)
IsNumber text (token.Mark mark.Other) = IsNumberOf text None
IsNumber text _ = ⊥

-- the end of a line behind the token is a semicolon
abbrev pub ends_line : Token → Bool
ends_line (token.Name w) = true
ends_line (token.Number n) = true
ends_line token.Text = true
ends_line (token.Mark mark.CloseBrace) = true
ends_line (token.Mark mark.CloseBracket) = true
ends_line (token.Mark mark.Close) = true
ends_line _ = false

abbrev pub stop_if : Bool → Option Token
stop_if ends = if ends then Some (token.Mark mark.Stop) else None

abbrev pub has_line_end : List ℕ → Bool
has_line_end text = list_any (λ b. b == 10) text

-- the token of a piece, where it has one: the end of a line is a semicolon where one is due
abbrev pub Gives : Ahead → Piece → List ℕ → Option Token → Type 0
Gives a piece.Blank text o = o ≡ None
Gives a piece.LineEnd text o = o ≡ stop_if a.ends
Gives a piece.Comment text o = o ≡ stop_if (a.ends && has_line_end text)
Gives a piece.Word text o = IsSomeAnd o (IsWord (keyword a.note text) text)
Gives a piece.Number text o = IsSomeAnd o (IsNumber text)
Gives a piece.Text text o = o ≡ Some token.Text
Gives a piece.Arrow text o = o ≡ Some (token.Mark mark.Arrow)
Gives a piece.Sign text o = o ≡ Some (token.Mark (sign_of text))

-- what a piece says of a type that is declared behind it: a comment may
abbrev pub Noted : Piece → List ℕ → Option Note → Type 0
Noted piece.Comment text o = SaysNote text o
Noted _ text o = o ≡ None

-- what is ahead behind a piece with this token and note, or none: a token makes all comments in front of it say nothing
abbrev pub ahead_behind : Ahead → Option Token → Option Note → Ahead
ahead_behind a None o = record { ends = a.ends; note = unwrap_or o a.note }
ahead_behind a (Some t) o = record { ends = ends_line t; note = no_note }

abbrev pub nothing_ahead : Ahead
nothing_ahead = record { ends = false; note = no_note }

abbrev pub tokens_of : Option Token → List Token
tokens_of None = []
tokens_of (Some t) = t ∷ []

-- the text up to the rest is these tokens, which begin at these offsets, and that is ahead behind them
pub data Lexes (text : List ℕ) : (rest : List ℕ) → Ahead → List Token → (offsets : List ℕ) → Type 0 where
  nothing_lexed : Lexes text text nothing_ahead [] []
  one_more_piece : {rest behind : List ℕ} {a b : Ahead} {ts us : List Token} {os ps : List ℕ} {f : Front}
      (o : Option Token) (noted : Option Note) → Lexes text rest a ts os → Some f ≡ front rest
      → Gives a f.piece (take f.len rest) o → Noted f.piece (take f.len rest) noted
      → behind ≡ drop f.len rest → b ≡ ahead_behind a o noted → us ≡ ts ++ tokens_of o
      → ps ≡ os ++ replicate (length (tokens_of o)) (length text - length rest) → Lexes text behind b us ps
