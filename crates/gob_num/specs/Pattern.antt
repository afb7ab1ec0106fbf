-- How a stream spells the 64-bit pattern of a float: by the unsigned number with its eight bytes in the other order.
-- Source: Go's encoding/gob documentation, Encoding Details; docs/FORMAT.md, Numbers.
use Rattle.std.specs.Prelude.{◌≡◌, ℕ, List, length, reverse}
use Rattle.gob_num.specs.Unsigned.{AreBytes, big_endian, IsUnsigned}

-- the digits are the pattern's eight bytes, the high one first
pub record AreEightBytes (pattern : ℕ) (digits : List ℕ) : Type 0 where
  pub eight : length digits ≡ 8
  pub bytes : AreBytes digits
  pub value : big_endian digits ≡ pattern

-- the bytes spell the pattern
pub record IsPattern (pattern : ℕ) (bytes : List ℕ) : Type 0 where
  pub digits : List ℕ
  pub eight : AreEightBytes pattern digits
  pub spelled : IsUnsigned (big_endian (reverse digits)) bytes
