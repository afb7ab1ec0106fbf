-- Text of which a terminal obeys no character. (The Unicode Standard, General Category; the Unicode Bidirectional
-- Algorithm, section 2; docs/FORMAT.md, The program: this project's own.)
use Rattle.std.specs.Prelude.{ℕ, List, [], ◌∷◌, ◌++◌, Bool, false, ◌==◌, ◌&&◌, ◌||◌, nat_le, if◌then◌else◌, codes}
use Rattle.std.specs.Fmt.{digits}
use Rattle.std.specs.List.{flat_map}
use Rattle.std.specs.Str.{NonePass, chars}

-- a control
abbrev pub is_control : ℕ → Bool
is_control c = nat_le c 0x1f || (nat_le 0x7f c && nat_le c 0x9f)

-- the separator of lines or that of paragraphs
abbrev pub is_separator : ℕ → Bool
is_separator c = (c == 0x2028) || (c == 0x2029)

-- a directional formatting character: one of the three marks, the embeddings and overrides, or the isolates
abbrev pub is_directional : ℕ → Bool
is_directional c = (c == 0x61c) || ((c == 0x200e) || ((c == 0x200f)
    || ((nat_le 0x202a c && nat_le c 0x202e) || (nat_le 0x2066 c && nat_le c 0x2069))))

-- a character without width: the zero-width space, the two joiners, or the byte order mark
abbrev pub is_without_width : ℕ → Bool
is_without_width c = (nat_le 0x200b c && nat_le c 0x200d) || (c == 0xfeff)

-- a terminal obeys the character, where it shows others
abbrev pub is_obeyed : ℕ → Bool
is_obeyed c = is_control c || (is_separator c || (is_directional c || is_without_width c))

-- a backslash, a u, and between braces the number of the character in lower-case hexadecimal digits
abbrev pub escape : ℕ → List ℕ
escape c = codes "\\u{" ++ (digits 16 false c ++ codes "}")

-- the characters that stand for one
abbrev pub escaped_character : ℕ → List ℕ
escaped_character c = if is_obeyed c then escape c else c ∷ []

-- the characters of a text, with those escaped that a terminal obeys
abbrev pub escaped_text : List ℕ → List ℕ
escaped_text cs = flat_map escaped_character cs

-- the bytes are a text of which a terminal obeys no character
abbrev pub IsUnobeyed : List ℕ → Type 0
IsUnobeyed bytes = NonePass is_obeyed (chars bytes)
