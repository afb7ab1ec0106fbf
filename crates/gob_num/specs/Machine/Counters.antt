-- The bytes that a number under way has taken, as its counters tell them.
use Rattle.std.specs.Prelude.{ℕ, zero, suc, ◌-◌, ◌/◌, ◌%◌, ◌^◌, ◌<◌, ◌≤◌, List, [], ◌∷◌, ◌++◌}
use Rattle.gob_num.specs.Unsigned.{BeginsNumber}

-- the low k digits to base 256, the high one first
unfoldable pub digits : ℕ → ℕ → List ℕ
digits zero n = []
digits (suc k) n = digits k (n / 256) ++ (n % 256) ∷ []

-- the head tells the count of digits, and left of them are still to come
abbrev pub pushed : ℕ → ℕ → ℕ → List ℕ
pushed zero left value = []
pushed (suc count) left value = (255 - count) ∷ digits (suc count - left) value

-- the counters of a number under way
pub record AreCounters (count left value : ℕ) : Type 0 where
  pub few : count ≤ 8
  pub left_le : left ≤ count
  pub some_left : 0 < count → 0 < left
  pub fits : value < 256 ^ (count - left)
  pub prefix : BeginsNumber (pushed count left value)
