-- How a stream spells a signed number: by an unsigned one, whose last bit is the sign.
-- Source: Go's encoding/gob documentation, Encoding Details; docs/FORMAT.md, Numbers.
use Rattle.std.specs.Prelude.{ℕ, ℤ, pos, negsuc, ◌+◌, ◌*◌, List}
use Rattle.gob_num.specs.Unsigned.{IsUnsigned}

-- the bytes spell the number: n as 2 * n, and -n - 1, which is `negsuc n`, as 2 * n + 1
pub data IsSigned : ℤ → List ℕ → Type 0 where
  not_negative : {n : ℕ} {bytes : List ℕ} → IsUnsigned (2 * n) bytes → IsSigned (pos n) bytes
  negative : {n : ℕ} {bytes : List ℕ} → IsUnsigned (2 * n + 1) bytes → IsSigned (negsuc n) bytes
