-- What holds of the first elements of a list, as a loop over the list comes on.
use Rattle.std.proofs.Common.{◌≡◌, ℕ, zero, suc, ◌+◌, ◌-◌, ◌<◌, ◌≤◌, ◌⊎◌, inl, inr, List, [], ◌∷◌, ◌++◌, length, get_or}
use Rattle.std.proofs.Common.{Contains, Some, None, arith, refl, sym, ap, ◌∙◌, subst}
use Rattle.std.specs.Prelude.{slice_get}
use Rattle.std.proofs.Math.Nat.{eq-or-lt_of_le}
use Rattle.std.proofs.lemmas.Option.{none-some, slice_get_within, get_or_from_slice_get, slice_get-get_or}
use Rattle.std.proofs.lemmas.Option.{slice_get_read}
use Rattle.gob_types.proofs.GrowthLaws.{some_injective}

-- what stands in the first list stands there in both together
pub slice_get-append_left : {X : Type 0} (xs ys : List X) (k : ℕ) → k < length xs
    → slice_get (xs ++ ys) k ≡ slice_get xs k
slice_get-append_left [] ys k within = absurd (omega arith)
slice_get-append_left (x ∷ xs) ys zero within = refl
slice_get-append_left (x ∷ xs) ys (suc k) within = slice_get-append_left xs ys k (omega arith)

-- it holds of the first n elements
pub record FirstAre {X : Type 0} (P : X → Type 0) (xs : List X) (n : ℕ) : Type 0 where
  pub each : (k : ℕ) (x : X) → k < n → slice_get xs k ≡ Some x → P x

pub none_first : {X : Type 0} {P : X → Type 0} {xs : List X} → FirstAre P xs 0
none_first = record { each = λ k x below there. absurd (omega arith) }

-- one more, which stands at n
pub more_first : {X : Type 0} {P : X → Type 0} {xs : List X} {n : ℕ} {x : X} → FirstAre P xs n → slice_get xs n ≡ Some x
    → P x → FirstAre P xs (n + 1)
more_first {X = X} {P = P} {xs = xs} {n = n} {x = x} first here holds =
    record { each = λ k y below there. by k y there (eq-or-lt_of_le (omega arith)) }
  where
    by : (k : ℕ) (y : X) → slice_get xs k ≡ Some y → (k ≡ n) ⊎ (k < n) → P y
    by k y there (inr below) = first.each k y below there
    by k y there (inl same) = subst P (some_injective (sym here ∙ sym (ap (slice_get xs) same) ∙ there)) holds

-- none stands at n
pub none_more : {X : Type 0} {P : X → Type 0} {xs : List X} {n : ℕ} → FirstAre P xs n → slice_get xs n ≡ None
    → FirstAre P xs (n + 1)
none_more {X = X} {P = P} {xs = xs} {n = n} first none =
    record { each = λ k y below there. by k y there (eq-or-lt_of_le (omega arith)) }
  where
    by : (k : ℕ) (y : X) → slice_get xs k ≡ Some y → (k ≡ n) ⊎ (k < n) → P y
    by k y there (inr below) = first.each k y below there
    by k y there (inl same) = absurd (none-some _ (sym none ∙ sym (ap (slice_get xs) same) ∙ there))

-- of the first n, whatever comes behind them
pub first_grown : {X : Type 0} {P : X → Type 0} {xs : List X} {n : ℕ} (more : List X) → FirstAre P xs n → n ≤ length xs
    → FirstAre P (xs ++ more) n
first_grown {X = X} {P = P} {xs = xs} {n = n} more first within =
    record {
      each = λ k x below there. first.each k x below
          (sym (slice_get-append_left xs more k (omega (arith, below, within))) ∙ there);
    }

pub first_as : {X : Type 0} {P Q : X → Type 0} {xs : List X} {n : ℕ} → FirstAre P xs n → ((x : X) → P x → Q x)
    → FirstAre Q xs n
first_as first on = record { each = λ k x below there. on x (first.each k x below there) }

-- of all of them
pub all_first : {X : Type 0} {P : X → Type 0} {xs : List X} {n : ℕ} {x : X} → FirstAre P xs n → length xs ≤ n
    → Contains xs x → P x
all_first {xs = xs} {x = x} first whole there = first.each there.0 x (omega (arith, there.1))
    (slice_get_read xs (length xs) there.0 x refl there.1 (sym there.2))

pub contains_read : {X : Type 0} (xs : List X) (k : ℕ) (x : X) → slice_get xs k ≡ Some x → Contains xs x
contains_read xs k x there = (k, slice_get_within xs k x there, get_or_from_slice_get xs k x x there)

pub contains_at : {X : Type 0} (xs : List X) (x : X) → Contains xs x → (k : ℕ) × (y : X) × (slice_get xs k ≡ Some y)
    × (y ≡ x)
contains_at xs x there = (there.0, x, slice_get_read xs (length xs) there.0 x refl there.1 (sym there.2), refl)

-- what is read from an equal list
pub read_at : {X : Type 0} {items xs : List X} (n : ℕ) (d : X) → items ≡ xs → n < length xs
    → slice_get xs n ≡ Some (get_or items n d)
read_at {items = items} {xs = xs} n d e within = subst (λ (ys : List _). slice_get ys n ≡ Some (get_or items n d)) e
    (slice_get-get_or items n d (omega (arith, within, ap length e)))

-- the room that is left falls with each place of a list
pub next_less : {next count room : ℕ} → next < count → count < room → room - (next + 1) < room - next
next_less below within = omega (arith, below, within)
