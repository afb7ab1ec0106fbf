-- What holds of the elements of two lists that have the same number.
use Rattle.std.specs.Prelude.{◌≡◌, ℕ, List, length, Some, slice_get}

-- of the old element, and of the one of this number in the new list
pub record HoldsAt {A : Type 0} (R : ℕ → A → A → Type 0) (new : List A) (number : ℕ) (old : A) : Type 0 where
  pub element : A
  pub is : slice_get new number ≡ Some element
  pub holds : R number old element

-- of each element of the one list, and that of the other
pub record HoldsOfEach {A : Type 0} (R : ℕ → A → A → Type 0) (old new : List A) : Type 0 where
  pub all : length new ≡ length old
  pub each : (number : ℕ) (x : A) → slice_get old number ≡ Some x → HoldsAt R new number x
