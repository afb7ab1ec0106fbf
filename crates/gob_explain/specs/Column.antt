-- Lines of text that show bytes of a stream with their offset, and beside them what they are. (docs/FORMAT.md,
-- Explained bytes: this project's own.)
use Rattle.std.specs.Prelude.{◌≡◌, ℕ, zero, suc, ◌+◌, ◌-◌, ◌*◌, ◌^◌, false, List, [], ◌∷◌, ◌++◌, length, take, drop}
use Rattle.std.specs.Prelude.{min, codes}
use Rattle.std.specs.Fmt.{decimal, digits, format_spec, padded_integral, styled_decimal}
use Rattle.std.specs.Str.{IsUtf8}
use Rattle.gob_words.specs.Escaped.{IsUnobeyed}

-- a byte in two hexadecimal digits, behind a space
abbrev pub hex_text : ℕ → List ℕ
hex_text b = codes " " ++ padded_integral (format_spec 32 0 4 2 (2 ^ 64 - 1)) false [] (digits 16 false b)

-- and bytes so, one behind another
unfoldable pub hex_column : List ℕ → List ℕ
hex_column [] = []
hex_column (b ∷ bytes) = hex_text b ++ hex_column bytes

-- an offset in decimal, in 6 columns at least
abbrev pub offset_text : ℕ → List ℕ
offset_text offset = styled_decimal (format_spec 32 3 0 6 (2 ^ 64 - 1)) offset ++ codes " "

-- so many spaces
unfoldable pub spaces : ℕ → List ℕ
spaces zero = []
spaces (suc n) = 32 ∷ spaces n

-- the greatest number of 64 bits stands for what is greater
abbrev pub saturated : ℕ → ℕ
saturated n = min n (2 ^ 64 - 1)

-- lines of 8 bytes each and nothing else, so many at most
unfoldable pub byte_lines : (most offset : ℕ) → List ℕ → List ℕ
byte_lines most offset [] = []
byte_lines zero offset (b ∷ bytes) = []
byte_lines (suc most) offset (b ∷ bytes) =
    offset_text offset ++ (hex_column (take 8 (b ∷ bytes)) ++ (10 ∷ byte_lines most
    (saturated (offset + length (take 8 (b ∷ bytes)))) (drop 8 (b ∷ bytes))))

-- how many bytes aren't shown, if there are any
unfoldable pub count_line : ℕ → List ℕ
count_line zero = []
count_line (suc n) = codes "        .. " ++ (decimal (suc n) ++ codes " bytes more\n")

-- the lines below the first one of these bytes: the next 24 in lines of their own, and behind them the number of the
-- others
abbrev pub lines_below : (offset : ℕ) → List ℕ → List ℕ
lines_below offset bytes = byte_lines 3 offset (take 24 bytes) ++ count_line (length (drop 24 bytes))

-- what bytes are, in words: a text of which a terminal obeys no character, and so without a line feed
pub record Meaning : Type 0 where
  pub text : List ℕ
  pub characters : IsUtf8 text
  pub unobeyed : IsUnobeyed text

-- the line of bytes at an offset, and what they are so many levels deep: the first 8 bytes, room for those that are
-- missing of 8, two spaces and two more for each level, and what they are; and the lines below it
unfoldable pub line_text : (offset : ℕ) → (bytes : List ℕ) → (levels : ℕ) → (meaning : List ℕ) → List ℕ
line_text offset bytes levels meaning =
    offset_text offset ++ (hex_column (take 8 bytes) ++ (spaces (3 * (8 - length (take 8 bytes)) + 2 + 2 * levels)
    ++ (meaning ++ (10 ∷ lines_below (saturated (offset + length (take 8 bytes))) (drop 8 bytes)))))

-- the text is lines one behind another, and the column of their bytes, joined, is these bytes of the stream, which
-- begin at this offset
pub data ColumnIs (offset : ℕ) : List ℕ → List ℕ → Type 0 where
  no_line : ColumnIs offset [] []
  line_behind : {bytes text : List ℕ} (more : List ℕ) (levels : ℕ) (meaning : Meaning) → ColumnIs offset bytes text
      → ColumnIs offset (bytes ++ more) (text
      ++ line_text (saturated (offset + length bytes)) more levels meaning.text)

-- ---- what calls make
-- a line of these bytes, so many levels deep
abbrev pub IsSomeLine : (offset : ℕ) → (bytes : List ℕ) → (levels : ℕ) → (text : List ℕ) → Type 0
IsSomeLine offset bytes levels text = (meaning : Meaning) × (text ≡ line_text offset bytes levels meaning.text)

-- a line behind a text
abbrev pub HasLineAdded : (offset : ℕ) → (bytes : List ℕ) → (levels : ℕ) → (meaning old new : List ℕ) → Type 0
HasLineAdded offset bytes levels meaning old new = new ≡ old ++ line_text offset bytes levels meaning
