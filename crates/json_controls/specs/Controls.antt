-- JSON text whose control characters are escaped: those that aren't printed or have no width, that end a line, or that
-- turn the direction of what stands around them. (RFC 8259, section 7; the Unicode Bidirectional Algorithm, section 2.)
use Rattle.std.specs.Prelude.{ℕ, ◌+◌, ◌-◌, ◌/◌, ◌%◌, List, [], ◌∷◌, ◌++◌, Bool, true, false, ◌==◌, ◌&&◌, ◌||◌, nat_le}
use Rattle.std.specs.Prelude.{if◌then◌else◌, ◌<◌, length, slice_index}
use Rattle.std.specs.Char.{digit_char}
use Rattle.json_controls.specs.declared.held.HeldBack.{HeldBack}
use Rattle.json_controls.specs.declared.held.HeldBack.TheVariants as held

-- no character that is escaped has any of these bytes, and none of the others begins one
abbrev pub AreBelowControls : List ℕ → Type 0
AreBelowControls bytes = (k : ℕ) → k < length bytes → slice_index bytes k < 127

-- the bytes that are held back
abbrev pub held_bytes : HeldBack → List ℕ
held_bytes held.Nothing = []
held_bytes held.Latin = 0xc2 ∷ []
held_bytes held.Arabic = 0xd8 ∷ []
held_bytes held.General = 0xe2 ∷ []
held_bytes held.Punctuation = 0xe2 ∷ 0x80 ∷ []
held_bytes held.Isolates = 0xe2 ∷ 0x81 ∷ []
held_bytes held.High = 0xef ∷ []
held_bytes held.Forms = 0xef ∷ 0xbb ∷ []

-- they and this byte are U+007F; U+0080 to U+009F; U+061C; U+200B to U+200F or U+2028 to U+202E; U+2066 to U+2069;
-- U+FEFF
abbrev pub is_control : HeldBack → ℕ → Bool
is_control held.Nothing x = x == 0x7f
is_control held.Latin x = nat_le 0x80 x && nat_le x 0x9f
is_control held.Arabic x = x == 0x9c
is_control held.General x = false
is_control held.Punctuation x = (nat_le 0x8b x && nat_le x 0x8f) || (nat_le 0xa8 x && nat_le x 0xae)
is_control held.Isolates x = nat_le 0xa6 x && nat_le x 0xa9
is_control held.High x = false
is_control held.Forms x = x == 0xbf

-- that character
abbrev pub code : HeldBack → ℕ → ℕ
code held.Nothing x = x
code held.Latin x = x
code held.Arabic x = 0x600 + (x - 0x80)
code held.General x = 0
code held.Punctuation x = 0x2000 + (x - 0x80)
code held.Isolates x = 0x2040 + (x - 0x80)
code held.High x = 0
code held.Forms x = 0xfec0 + (x - 0x80)

-- what is held back behind a byte with which no such character ends
abbrev pub begun : ℕ → HeldBack
begun x =
    if x == 0xc2 then held.Latin else if x == 0xd8 then held.Arabic else if x == 0xe2 then held.General else
    if x == 0xef then held.High else held.Nothing

abbrev pub next : HeldBack → ℕ → HeldBack
next held.Nothing x = begun x
next held.General x = if x == 0x80 then held.Punctuation else if x == 0x81 then held.Isolates else held.Nothing
next held.High x = if x == 0xbb then held.Forms else held.Nothing
next _ x = held.Nothing

abbrev pub after : HeldBack → ℕ → HeldBack
after h x = if is_control h x then held.Nothing else next h x

abbrev pub is_nothing : HeldBack → Bool
is_nothing held.Nothing = true
is_nothing _ = false

-- a backslash, a u and four hexadecimal digits
abbrev pub escape_of : ℕ → List ℕ
escape_of u =
    92 ∷ 117 ∷ digit_char (u / 4096) ∷ digit_char (u / 256 % 16) ∷ digit_char (u / 16 % 16) ∷ digit_char (u % 16) ∷ []

-- what is known to stand in the text at a byte, behind the bytes that are held back
abbrev pub emitted : HeldBack → ℕ → List ℕ
emitted h x =
    if is_control h x then escape_of (code h x) else (if is_nothing (next h x) then held_bytes h ++ x ∷ [] else [])

-- the text, behind bytes that are held back
abbrev pub shown : HeldBack → List ℕ → List ℕ
shown h [] = held_bytes h
shown h (x ∷ xs) = emitted h x ++ shown (after h x) xs

-- the text, with its control characters escaped
abbrev pub shown_text : List ℕ → List ℕ
shown_text text = shown held.Nothing text
