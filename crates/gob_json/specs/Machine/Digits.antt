-- Text written straight from the bytes of a value.
use Rattle.std.specs.Prelude.{◌≡◌, ℕ, ◌+◌, ◌/◌, ◌%◌, ◌<◌, List, [], ◌∷◌, length, slice_index, true}
use Rattle.json.specs.Run.{is_plain}

-- each byte is an ASCII character that stands for itself in a JSON string
abbrev pub IsPlainAscii : List ℕ → Type 0
IsPlainAscii bytes = (k : ℕ) → k < length bytes
    → (is_plain (slice_index bytes k) ≡ true) × (slice_index bytes k < 128)

-- the last three decimal digits of a number
abbrev pub three_digits : ℕ → List ℕ
three_digits n = (48 + n / 100 % 10) ∷ (48 + n / 10 % 10) ∷ (48 + n % 10) ∷ []
