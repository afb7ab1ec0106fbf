-- Loops over a list that make another one, item after item.
use Rattle.std.proofs.Common.{◌≡◌, ℕ, zero, suc, ◌+◌, ◌≤◌, List, [], ◌∷◌, ◌++◌, length, drop, Some, arith, refl, sym}
use Rattle.std.proofs.Common.{ap, ◌∙◌, subst, append_assoc, append-nil, true≢false, is_some}
use Rattle.std.specs.Prelude.{slice_get}
use Rattle.gob_types.proofs.PublicLaws.{some_injective}

-- what is left of a list at an item of it
pub drop_at : {A : Type 0} (xs : List A) (n : ℕ) (x : A) → slice_get xs n ≡ Some x → drop n xs ≡ x ∷ drop (n + 1) xs
drop_at {A = A} xs n x there = let e : suc n ≡ n + 1 = omega arith in by xs n x there ∙ ap (λ m. x ∷ drop m xs) e
  where
    by : {A : Type 0} (xs : List A) (n : ℕ) (x : A) → slice_get xs n ≡ Some x → drop n xs ≡ x ∷ drop (suc n) xs
    by [] n x there = absurd (true≢false (sym (ap is_some there)))
    by (y ∷ ys) zero x there = ap (λ z. z ∷ ys) (some_injective there)
    by (y ∷ ys) (suc n) x there = by ys n x there

pub drop_all : {A : Type 0} (n : ℕ) (xs : List A) → length xs ≤ n → drop n xs ≡ []
drop_all zero [] w = refl
drop_all zero (x ∷ xs) w = absurd (omega arith)
drop_all (suc n) [] w = refl
drop_all (suc n) (x ∷ xs) w = drop_all n xs (omega arith)

-- what is made so far, before what is made of the rest, is made of the whole
pub record Completes {A B : Type 0} (Makes : List A → List B → Type 0) (whole rest : List A) (made : List B)
    : Type 0 where
  pub completes : (more : List B) → Makes rest more → Makes whole (made ++ more)

module _ {A B : Type 0} {Makes : List A → List B → Type 0} {whole : List A} where
  pub completes_start : {made : List B} → made ≡ [] → Completes Makes whole whole made
  completes_start e = record { completes = λ more m. subst (λ l. Makes whole (l ++ more)) (sym e) m }

  -- of the next item these are made
  pub completes_on : (items : List B) (n : ℕ) {x : A} {made new : List B} → Completes Makes whole (drop n whole) made
      → slice_get whole n ≡ Some x → new ≡ made ++ items
      → ((more : List B) → Makes (drop (n + 1) whole) more → Makes (x ∷ drop (n + 1) whole) (items ++ more))
      → Completes Makes whole (drop (n + 1) whole) new
  completes_on items n {x = x} {made = made} c there grown step = record {
    completes = λ more m.
        subst (Makes whole) (sym (ap (λ l. l ++ more) grown ∙ append_assoc made items more))
        (c.completes (items ++ more) (subst (λ l. Makes l (items ++ more)) (sym (drop_at whole n x there))
        (step more m)));
  }

  pub completes_end : (n : ℕ) {made : List B} → Completes Makes whole (drop n whole) made → length whole ≤ n
      → Makes [] [] → Makes whole made
  completes_end n {made = made} c w none = subst (Makes whole) (append-nil made)
      (c.completes [] (subst (λ l. Makes l []) (sym (drop_all n whole w)) none))
