-- Numbers in decimal.
use Rattle.std.specs.Prelude.{◌≡◌, ◌≢◌, ℕ, ◌^◌, ◌<◌, List, Option, Some, None, decimal}

-- the number below 2 ^ 64 whose decimal form the text is, where there is one
abbrev pub IsNumberOf : List ℕ → Option ℕ → Type 0
IsNumberOf text (Some n) = decimal n ≡ text
IsNumberOf text None = (n : ℕ) → n < 2 ^ 64 → decimal n ≢ text
