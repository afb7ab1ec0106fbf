-- Numbers that stand whole at a place of bytes.
use Rattle.std.specs.Prelude.{◌≡◌, ℕ, suc, ◌+◌, ◌-◌, ◌<◌, ◌≤◌, List, length, take, drop}
use Rattle.gob_num.specs.Unsigned.{IsUnsigned}

-- the bytes from one place up to the other spell the number
pub record IsUnsignedAt (n : ℕ) (bytes : List ℕ) (at end : ℕ) : Type 0 where
  pub order : at < end
  pub inside : end ≤ length bytes
  pub spelled : IsUnsigned n (take (end - at) (drop at bytes))

-- they spell some number
abbrev pub NumberStandsAt : List ℕ → ℕ → ℕ → Type 0
NumberStandsAt bytes at end = (n : ℕ) × IsUnsignedAt n bytes at end

-- no bytes from the place on spell a number
abbrev pub NoNumberStandsAt : List ℕ → ℕ → Type 0
NoNumberStandsAt bytes at = (n end : ℕ) → ¬ IsUnsignedAt n bytes at end

-- where a number stands at the place, it is this one and ends there
abbrev pub IsOnlyNumberAt : List ℕ → ℕ → ℕ → ℕ → Type 0
IsOnlyNumberAt bytes at number end = (n e : ℕ) → IsUnsignedAt n bytes at e → (number ≡ n) × (end ≡ e)

-- the bytes from one place up to the other spell so many numbers, one behind another
pub data AreUnsignedAt (bytes : List ℕ) : ℕ → ℕ → ℕ → Type 0 where
  no_number : {at : ℕ} → AreUnsignedAt bytes 0 at at
  one_more : {n count at next end : ℕ} → IsUnsignedAt n bytes at next → AreUnsignedAt bytes count next end
      → AreUnsignedAt bytes (suc count) at end

-- from the first place on so many numbers stand exactly where from the second on so many fewer do
pub record PassesNumbers (bytes : List ℕ) (most begin left at : ℕ) : Type 0 where
  pub fewer : left ≤ most
  pub more : (end : ℕ) → AreUnsignedAt bytes left at end → AreUnsignedAt bytes most begin end
  pub all : (end : ℕ) → AreUnsignedAt bytes most begin end → AreUnsignedAt bytes left at end

-- a head that isn't a number itself counts the digits behind it
abbrev pub CountsDigits : ℕ → ℕ → Type 0
CountsDigits head count = 128 ≤ head → (248 ≤ head) × (head + count ≡ 256)
