-- Bytes that are text, begin as JSON does, stand between quotes, or begin with the head of a message of HTTP/1.
-- (RFC 3629, UTF-8; RFC 8259, JSON; RFC 9112, HTTP/1.1.)
use Rattle.std.specs.Prelude.{◌≡◌, ◌≢◌, ℕ, ◌+◌, ◌-◌, ◌/◌, ◌<◌, ◌≤◌, min, ◌⊎◌, ◌==◌, nat_le, Bool, true, false, ◌&&◌}
use Rattle.std.specs.Prelude.{◌||◌, not}
use Rattle.std.specs.Prelude.{if◌then◌else◌, List, [], ◌∷◌, ◌++◌, length, take, drop, slice_index, slice_range}
use Rattle.std.specs.Prelude.{count_by, codes, nat_eq}
use Rattle.std.specs.Int.{is_in_range}
use Rattle.std.specs.List.{AllPass, ends_with, starts_with}
use Rattle.std.specs.Str.{IsUtf8}

-- ---- text
abbrev pub is_space : ℕ → Bool
is_space b = b == 32 || b == 9 || b == 10 || b == 13

-- no control but a space
abbrev pub is_printed : ℕ → Bool
is_printed b = is_space b || (nat_le 32 b && not (b == 127))

-- UTF-8, but for up to three bytes at the end, of which a cut left no more of a character
pub record IsCutUtf8 (bytes : List ℕ) : Type 0 where
  pub cut : ℕ
  pub few : cut < 4
  pub more : cut < length bytes
  pub utf8 : IsUtf8 (take (length bytes - cut) bytes)

-- no more than a quarter of the bytes stand above ASCII
abbrev pub IsMostlyAscii : List ℕ → Type 0
IsMostlyAscii bytes = count_by (λ b. nat_le 128 b) bytes ≤ length bytes / 4

pub record IsText (bytes : List ℕ) : Type 0 where
  pub printed : AllPass is_printed bytes
  pub read : IsCutUtf8 bytes ⊎ IsMostlyAscii bytes

-- ---- JSON
-- what stands from the first byte on that is no space
abbrev pub behind_spaces : List ℕ → List ℕ
behind_spaces [] = []
behind_spaces (b ∷ bytes) = if is_space b then behind_spaces bytes else b ∷ bytes

-- a value begins with the byte
abbrev pub starts_value : ℕ → Bool
starts_value b = b == 123 || b == 91 || b == 34 || b == 45 || is_in_range 48 57 b || b == 116 || b == 102
    || b == 110

-- an object or an array begins so: behind a brace a name or its end, behind a bracket a value
abbrev pub begins_group : (first : ℕ) → (rest : List ℕ) → Bool
begins_group first [] = false
begins_group first (second ∷ rest) =
    (first == 123 && (second == 34 || second == 125)) || (first == 91 && starts_value second)

abbrev pub begins_here : List ℕ → Bool
begins_here [] = false
begins_here (first ∷ rest) = begins_group first (behind_spaces rest)

abbrev pub begins_json : List ℕ → Bool
begins_json bytes = begins_here (behind_spaces bytes)

-- ---- quotes
-- the first quote from the place on
pub record IsFirstQuote (bytes : List ℕ) (place quote : ℕ) : Type 0 where
  pub from : place ≤ quote
  pub inside : quote < length bytes
  pub is : slice_index bytes quote ≡ 34
  pub first : (k : ℕ) → place ≤ k → k < quote → slice_index bytes k ≢ 34

-- the first two, and the text between them
pub record IsQuoted (bytes : List ℕ) (place : ℕ) (text : List ℕ) (end : ℕ) : Type 0 where
  pub begin : ℕ
  pub begins : IsFirstQuote bytes place begin
  pub ends : IsFirstQuote bytes (begin + 1) end
  pub between : text ≡ slice_range bytes (begin + 1) end

-- ---- HTTP
-- the text stands at the place
abbrev pub StandsAt : (text bytes : List ℕ) → (place : ℕ) → Type 0
StandsAt text bytes place = (rest : List ℕ) × (drop place bytes ≡ text ++ rest)

-- it does so first, among the first 65536 bytes
pub record StandsFirst (text bytes : List ℕ) (place : ℕ) : Type 0 where
  pub near : place < min (length bytes) 65536
  pub stands : StandsAt text bytes place
  pub first : (k : ℕ) → k < place → ¬ StandsAt text bytes k

-- the first line of a request
abbrev pub ends_request : List ℕ → Bool
ends_request line = ends_with nat_eq line (codes " HTTP/1.1") || ends_with nat_eq line (codes " HTTP/1.0")

-- or of an answer
abbrev pub begins_message : List ℕ → Bool
begins_message line = starts_with nat_eq line (codes "HTTP/1.") || ends_request line

abbrev pub line_end : List ℕ
line_end = 13 ∷ 10 ∷ []

-- such a line stands first, and so many bytes up to the end of the first empty one
pub record IsHttpHead (front : List ℕ) (size : ℕ) : Type 0 where
  pub line : ℕ
  pub ends_line : StandsFirst line_end front line
  pub begins : begins_message (take line front) ≡ true
  pub end : ℕ
  pub ends : StandsFirst (line_end ++ line_end) front end
  pub size_is : size ≡ end + 4
