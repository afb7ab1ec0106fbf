-- One byte of a text, in each place.
use Rattle.std.proofs.Common.{◌≡◌, ℕ, Bool, true, false, not, ◌==◌, List, [], ◌∷◌, refl, sym}
use Rattle.std.proofs.Common.{ap, ◌∙◌, inl, inr, ◌⊎◌}
use Rattle.std.specs.Char.{is_ascii_digit}
use Rattle.std.proofs.lemmas.Bool.{cases_Bool, ne_eqb, or_parts, true≢false}
use Rattle.json_number_texts.specs.Texts.{begins_number, goes_on, with_texts}
use Rattle.json_number_texts.specs.declared.place.Place.TheVariants as place

-- the first byte of a text is in no number
abbrev pub ends_number : List ℕ → Bool
ends_number [] = false
ends_number (x ∷ xs) = not (goes_on x)

-- what begins a number may stand in it
pub begins_on : (x : ℕ) → goes_on x ≡ false → begins_number x ≡ false
begins_on x e =
    let p = or_parts (is_ascii_digit x) _ e in
    let q = or_parts (x == 45) _ p.1 in
    rw (p.0, q.0) refl

pub number_ends : (x : ℕ) (xs : List ℕ) → goes_on x ≡ false
    → with_texts place.InNumber (x ∷ xs) ≡ 34 ∷ with_texts place.Outside (x ∷ xs)
number_ends x xs e = rw (e, begins_on x e) refl

pub text_ends : (r : List ℕ) → ends_number r ≡ true → with_texts place.InNumber r ≡ 34 ∷ with_texts place.Outside r
text_ends [] e = absurd (true≢false (sym e))
text_ends (x ∷ xs) e = by (cases_Bool (goes_on x))
  where
    by : (goes_on x ≡ true) ⊎ (goes_on x ≡ false)
        → with_texts place.InNumber (x ∷ xs) ≡ 34 ∷ with_texts place.Outside (x ∷ xs)
    by (inl g) = absurd (true≢false (sym e ∙ ap not g))
    by (inr g) = number_ends x xs g

pub number_begins : (x : ℕ) (xs : List ℕ) → begins_number x ≡ true → (x ≡ 34 → ⊥)
    → with_texts place.Outside (x ∷ xs) ≡ 34 ∷ x ∷ with_texts place.InNumber xs
number_begins x xs e q = rw (e, ne_eqb x 34 q) refl

pub number_goes_on : (x : ℕ) (xs : List ℕ) → goes_on x ≡ true
    → with_texts place.InNumber (x ∷ xs) ≡ x ∷ with_texts place.InNumber xs
number_goes_on x xs e = rw e refl
