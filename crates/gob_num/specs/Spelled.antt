-- What is said alike of every kind of number and its spellings.
use Rattle.std.specs.Prelude.{◌≡◌, ℕ, List, ◌++◌}

-- some bytes are spelled so
pub record IsSpelled (Spells : List ℕ → Type 0) : Type 0 where
  pub bytes : List ℕ
  pub spelled : Spells bytes

-- new is old with bytes at its end that are spelled so
pub record Appends (Spells : List ℕ → Type 0) (old new : List ℕ) : Type 0 where
  pub bytes : List ℕ
  pub spelled : Spells bytes
  pub appended : new ≡ old ++ bytes

-- two readings of one list, of v spelled by b before x and of w spelled by c before y, are one
pub record Same {A : Type 0} (v w : A) (b c x y : List ℕ) : Type 0 where
  pub value : v ≡ w
  pub bytes : b ≡ c
  pub rest : x ≡ y
