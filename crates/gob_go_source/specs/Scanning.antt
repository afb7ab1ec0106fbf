-- Where the pieces of source end. (The Go Programming Language Specification, Comments, Tokens, Identifiers, String
-- literals.)
use Rattle.std.specs.Prelude.{ℕ, ◌+◌, List, [], ◌∷◌, Bool, true, false, ◌==◌, ◌&&◌, ◌||◌, not, if◌then◌else◌}
use Rattle.std.specs.Prelude.{Option, Some, None, nat_le, option_map}
use Rattle.std.specs.Char.{is_ascii_digit, is_ascii_alphabetic}
use Rattle.gob_go_source.specs.declared.scan.Scan.{Scan}
use Rattle.gob_go_source.specs.declared.scan.Scan.TheVariants as scan
use Rattle.gob_go_source.specs.declared.scan.Step.{Step}
use Rattle.gob_go_source.specs.declared.scan.Step.TheVariants as steps

abbrev pub is_blank : ℕ → Bool
is_blank b = (b == 32) || ((b == 9) || (b == 13))

-- a letter of ASCII, the underline, or a byte of a character beyond ASCII: these hold Go's other letters and digits
abbrev pub is_letter_byte : ℕ → Bool
is_letter_byte b = is_ascii_alphabetic b || ((b == 95) || nat_le 128 b)

abbrev pub is_word_byte : ℕ → Bool
is_word_byte b = is_letter_byte b || is_ascii_digit b

abbrev pub on_while : Bool → Scan → Step
on_while goes s = if goes then steps.On s else steps.Before

abbrev pub up_to : Bool → Scan → Step
up_to ends s = if ends then steps.Behind else steps.On s

-- a comment ends behind a star and a slash
abbrev pub step_block : Bool → ℕ → Step
step_block star b = up_to (star && (b == 47)) (scan.Block (b == 42))

-- a string ends behind its mark, which no backslash escapes, and stands on one line
abbrev pub step_quoted : ℕ → Bool → ℕ → Step
step_quoted q escaped b =
    if b == 10 then steps.Broken
    else up_to (not escaped && (b == q)) (scan.Quoted q (not escaped && (b == 92)))

-- what a byte is to a piece that goes on so
abbrev pub step : Scan → ℕ → Step
step scan.Nothing b = steps.Before
step scan.Blanks b = on_while (is_blank b) scan.Blanks
step scan.Word b = on_while (is_word_byte b) scan.Word
step scan.Digits b = on_while (is_ascii_digit b) scan.Digits
step scan.Line b = on_while (not (b == 10)) scan.Line
step (scan.Block star) b = step_block star b
step scan.Raw b = up_to (b == 96) scan.Raw
step (scan.Quoted q escaped) b = step_quoted q escaped b

abbrev pub may_end : Scan → Bool
may_end scan.Nothing = true
may_end scan.Blanks = true
may_end scan.Word = true
may_end scan.Digits = true
may_end scan.Line = true
may_end _ = false

-- what a byte is to a piece says where it ends, by where one that goes on does
abbrev pub end_by : Step → (Scan → Option ℕ) → Option ℕ
end_by (steps.On s) end = option_map (λ n. n + 1) (end s)
end_by steps.Before end = Some 0
end_by steps.Behind end = Some 1
end_by steps.Broken end = None

-- how many bytes are of a piece that goes on so, if it ends
abbrev pub end_of : Scan → List ℕ → Option ℕ
end_of s [] = if may_end s then Some 0 else None
end_of s (b ∷ bs) = end_by (step s b) (λ next. end_of next bs)
