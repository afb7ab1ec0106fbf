-- How a stream spells an unsigned number.
-- Source: Go's encoding/gob documentation, Encoding Details; docs/FORMAT.md, Numbers.
use Rattle.std.specs.Prelude.{◌≡◌, ◌≢◌, ℕ, ◌+◌, ◌*◌, ◌^◌, ◌<◌, ◌≤◌, ◌⊎◌, List, [], ◌∷◌, ◌++◌, length}
use Rattle.std.specs.List.{AllByRecursion}

-- each of the numbers is a byte
abbrev pub AreBytes : List ℕ → Type 0
AreBytes bytes = AllByRecursion (λ b. b < 256) bytes

-- the number that the digits to base 256 stand for, the high one first
abbrev pub big_endian : List ℕ → ℕ
big_endian [] = 0
big_endian (d ∷ ds) = d * 256 ^ length ds + big_endian ds

-- a head of 256 minus the count of the digits after it, of which there are as few as hold the number, and eight at most
pub record IsCounted (n head : ℕ) (digits : List ℕ) : Type 0 where
  pub large : 128 ≤ n
  pub head_counts : head + length digits ≡ 256
  pub few : length digits ≤ 8
  pub bytes : AreBytes digits
  pub value : big_endian digits ≡ n
  pub least : (k : ℕ) → k < length digits → 256 ^ k ≤ n

-- the bytes spell the number: one byte below 128, or else a head and the number's digits
pub data IsUnsigned : ℕ → List ℕ → Type 0 where
  short : {n : ℕ} → n < 128 → IsUnsigned n (n ∷ [])
  long : {n head : ℕ} {digits : List ℕ} → IsCounted n head digits → IsUnsigned n (head ∷ digits)

-- the bytes are a proper prefix of a spelling: it goes on after them
pub record IsUnsignedPrefix (bytes : List ℕ) : Type 0 where
  pub number : ℕ
  pub rest : List ℕ
  pub more : rest ≢ []
  pub spelled : IsUnsigned number (bytes ++ rest)

-- the bytes begin a number: a head, and fewer digits than it counts, the first of them not 0
abbrev pub BeginsNumber : List ℕ → Type 0
BeginsNumber [] = Unit {0}
BeginsNumber (head ∷ []) = (248 ≤ head) × (head < 256)
BeginsNumber (head ∷ d ∷ ds) = (248 ≤ head) × (head + length (d ∷ ds) < 256) × (0 < d) × AreBytes (d ∷ ds)

-- a whole spelling and something after it
pub record GoesPastNumber (bytes : List ℕ) : Type 0 where
  pub number : ℕ
  pub prefix : List ℕ
  pub rest : List ℕ
  pub more : rest ≢ []
  pub spelled : IsUnsigned number prefix
  pub whole : bytes ≡ prefix ++ rest

-- the first byte is neither a number below 128 nor a head that counts eight digits at most
abbrev pub IsBadHead : List ℕ → Type 0
IsBadHead [] = ⊥
IsBadHead (head ∷ bytes) = (128 ≤ head) × (head < 248)

-- the first digit shows that fewer would do: one digit below 128, or a 0 before others
abbrev pub IsNotMinimal : List ℕ → Type 0
IsNotMinimal [] = ⊥
IsNotMinimal (head ∷ []) = ⊥
IsNotMinimal (head ∷ d ∷ bytes) = ((head ≡ 255) × (d < 128)) ⊎ ((248 ≤ head) × (head < 255) × (d ≡ 0))
