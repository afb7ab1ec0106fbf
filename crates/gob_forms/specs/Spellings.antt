-- Which bytes a text spells. (RFC 4648, base64 and base16; the dumps of xxd and of hexdump -C; Go's package fmt, a
-- slice of bytes.)
use Rattle.std.specs.Prelude.{ℕ, ◌+◌, ◌-◌, ◌*◌, ◌%◌, ◌==◌, nat_eq, nat_lt, Bool, false, ◌&&◌, ◌||◌, not}
use Rattle.std.specs.Prelude.{if◌then◌else◌, List, [], ◌∷◌, ◌++◌, length, take, drop, slice_index, codes, Option}
use Rattle.std.specs.Prelude.{Some, None, is_some}
use Rattle.std.specs.Int.{is_in_range}
use Rattle.std.specs.Char.{is_ascii_alphanumeric, is_ascii_whitespace}
use Rattle.std.specs.List.{filter, list_all, starts_with}
use Rattle.std.specs.Result.{result_ok}
use Rattle.std.specs.Str.{chars, is_utf8}
use Rattle.base64.specs.Engines.{standard}
use Rattle.base64.specs.GeneralPurpose.{decode_of as decode_letters}
use Rattle.hex.specs.Hex.{decode_of as decode_digits}
use Rattle.gob_forms.specs.declared.dump.Zone.{Zone}
use Rattle.gob_forms.specs.declared.dump.Zone.TheVariants as zone
use Rattle.gob_forms.specs.declared.spelling.Spelling.{Spelling}
use Rattle.gob_forms.specs.declared.spelling.Spelling.TheVariants as spelling

-- all that stand in groups of so many
abbrev pub whole_groups : (size : ℕ) → List ℕ → List ℕ
whole_groups size letters = take (length letters - length letters % size) letters

-- ---- base64
-- what ends the last group of four
abbrev pub missing : (over : ℕ) → List ℕ
missing over =
    if over == 1 then codes "===" else if over == 2 then codes "==" else if over == 3 then codes "=" else []

abbrev pub filled : List ℕ → List ℕ
filled letters = letters ++ missing (length letters % 4)

abbrev pub is_blank : ℕ → Bool
is_blank b = b == 32 || b == 13 || b == 10

-- the letters in the usual alphabet, where the text has these two in place of its last, in lines of any length: up to
-- the first `=`, or those in whole groups
abbrev pub letters_behind : (plus slash : ℕ) → (before text : List ℕ) → Option (List ℕ)
letters_behind plus slash before [] = Some (whole_groups 4 before)
letters_behind plus slash before (b ∷ text) =
    if is_blank b then letters_behind plus slash before text
    else if b == 61 then Some (filled before)
    else if is_ascii_alphanumeric b then letters_behind plus slash (before ++ b ∷ []) text
    else if b == plus then letters_behind plus slash (before ++ 43 ∷ []) text
    else if b == slash then letters_behind plus slash (before ++ 47 ∷ []) text
    else None

abbrev pub of_letters : Option (List ℕ) → Option (List ℕ)
of_letters None = None
of_letters (Some letters) = result_ok (decode_letters standard letters)

abbrev pub of_base64 : (plus slash : ℕ) → List ℕ → Option (List ℕ)
of_base64 plus slash text = of_letters (letters_behind plus slash [] text)

-- ---- hexadecimal digits
-- what stands behind `\x`, as Postgres writes it, or `0x`
abbrev pub behind_mark : List ℕ → List ℕ
behind_mark text =
    if starts_with nat_eq text (92 ∷ 120 ∷ []) || starts_with nat_eq text (48 ∷ 120 ∷ []) then drop 2 text else text

-- the pairs of digits, with white space anywhere
abbrev pub of_digits : List ℕ → Option (List ℕ)
of_digits text = result_ok (decode_digits (whole_groups 2 (filter (λ b. not (is_ascii_whitespace b)) text)))

-- ---- dumps: an offset, digits and the bytes as text in each line
-- where the next byte stands
abbrev pub xxd_next : Zone → ℕ → Zone
xxd_next zone.Offset b = if b == 10 then zone.Offset else if b == 58 then zone.Digits else zone.Offset
xxd_next zone.Digits b = if b == 10 then zone.Offset else if b == 32 then zone.Gap else zone.Digits
xxd_next zone.Gap b = if b == 10 then zone.Offset else if b == 32 then zone.Text else zone.Digits
xxd_next zone.Text b = if b == 10 then zone.Offset else zone.Text

-- whether this one is a digit
abbrev pub is_xxd_digit : Zone → ℕ → Bool
is_xxd_digit zone.Offset b = false
is_xxd_digit zone.Digits b = not (b == 10 || b == 32)
is_xxd_digit zone.Gap b = not (b == 10 || b == 32)
is_xxd_digit zone.Text b = false

-- the digits of xxd's dump: behind a colon, up to two spaces
abbrev pub xxd_from : Zone → List ℕ → List ℕ
xxd_from zone [] = []
xxd_from zone (b ∷ text) =
    if is_xxd_digit zone b then b ∷ xxd_from (xxd_next zone b) text else xxd_from (xxd_next zone b) text

-- those of hexdump's: behind a space, up to a bar
abbrev pub hexdump_next : Zone → ℕ → Zone
hexdump_next zone.Offset b = if b == 10 then zone.Offset else if b == 32 then zone.Digits else zone.Offset
hexdump_next zone.Digits b = if b == 10 then zone.Offset else if b == 124 then zone.Text else zone.Digits
hexdump_next zone.Gap b = if b == 10 then zone.Offset else zone.Gap
hexdump_next zone.Text b = if b == 10 then zone.Offset else zone.Text

abbrev pub is_hexdump_digit : Zone → ℕ → Bool
is_hexdump_digit zone.Offset b = false
is_hexdump_digit zone.Digits b = not (b == 10 || b == 124 || b == 32)
is_hexdump_digit zone.Gap b = false
is_hexdump_digit zone.Text b = false

abbrev pub hexdump_from : Zone → List ℕ → List ℕ
hexdump_from zone [] = []
hexdump_from zone (b ∷ text) =
    if is_hexdump_digit zone b then b ∷ hexdump_from (hexdump_next zone b) text
    else hexdump_from (hexdump_next zone b) text

-- ---- decimal numbers
abbrev pub is_between : ℕ → Bool
is_between b = b == 91 || b == 93 || b == 44 || b == 32 || b == 13 || b == 10

-- the number with one more digit, where it is a byte
abbrev pub byte_or_none : ℕ → Option ℕ
byte_or_none n = if nat_lt n 256 then Some n else None

abbrev pub more_digits : Option ℕ → (digit : ℕ) → Option ℕ
more_digits None digit = byte_or_none digit
more_digits (Some n) digit = byte_or_none (n * 10 + digit)

abbrev pub whole_number : Option ℕ → List ℕ
whole_number None = []
whole_number (Some n) = n ∷ []

-- the numbers that end in the text, each of them a byte, behind others and behind the first digits of one
abbrev pub numbers_behind : (begun : Option ℕ) → (before text : List ℕ) → Option (List ℕ)
numbers_behind begun before [] = Some before
numbers_behind begun before (b ∷ text) =
    if is_in_range 48 57 b then
    (if is_some (more_digits begun (b - 48)) then numbers_behind (more_digits begun (b - 48)) before text else None)
    else if is_between b then numbers_behind None (before ++ whole_number begun) text
    else None

-- ---- Latin-1 as UTF-8
-- without the first half of a character of two bytes at the end
abbrev pub without_cut : List ℕ → List ℕ
without_cut text =
    if slice_index text (length text - 1) == 194 || slice_index text (length text - 1) == 195 then
    take (length text - 1) text
    else text

-- the bytes that are the characters
abbrev pub of_characters : List ℕ → Option (List ℕ)
of_characters text = if is_utf8 text && list_all (λ c. nat_lt c 256) (chars text) then Some (chars text) else None

-- ---- all of them
-- the bytes that the text spells so, or none where it is no such text
abbrev pub spelled : Spelling → List ℕ → Option (List ℕ)
spelled spelling.Base64 text = of_base64 43 47 text
spelled spelling.UrlBase64 text = of_base64 45 95 text
spelled spelling.Hex text = of_digits (behind_mark text)
spelled spelling.Xxd text = of_digits (xxd_from zone.Offset text)
spelled spelling.Hexdump text = of_digits (hexdump_from zone.Offset text)
spelled spelling.Decimal text = numbers_behind None [] text
spelled spelling.Latin1 text = of_characters (without_cut text)
