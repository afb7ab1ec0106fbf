use Rattle.std.proofs.Common.{◌≡◌, ◌∙◌, ◌⊎◌, inl, inr, ℕ, zero, suc, List, [], ◌∷◌, ◌++◌, length, Some}
use Rattle.std.proofs.Common.{Result, Ok, Err, is_ok, is_some, ap, refl, subst, sym, true, true≢false}
use Rattle.std.specs.Prelude.{slice_get}
use Rattle.std.specs.Result.{result_ok}
use Rattle.gob_types.proofs.PublicLaws.{some_injective}
use Rattle.gob_tidy.proofs.part.put_place.Goals as goal

-- what stands in a list to which one more was appended
appended : {A : Type 0} (xs : List A) (x : A) (n : ℕ) (y : A) → slice_get (xs ++ x ∷ []) n ≡ Some y
    → (slice_get xs n ≡ Some y) ⊎ ((n ≡ length xs) × (y ≡ x))
appended [] x zero y there = inr (refl, sym (some_injective there))
appended [] x (suc n) y there = absurd (true≢false (sym (ap is_some there)))
appended (z ∷ xs) x zero y there = inl there
appended (z ∷ xs) x (suc n) y there =
    elim (appended xs x n y there) as (λ _. (slice_get xs n ≡ Some y) ⊎ ((suc n ≡ suc (length xs)) × (y ≡ x))) [
      | inl before ↦ inl before
      | inr last ↦ inr (ap suc last.0, last.1)
    ]

was_ok : {T E : Type 0} (r : Result T E) {x : T} → result_ok r ≡ Some x → is_ok r ≡ true
was_ok (Ok x) e = refl
was_ok (Err f) e = absurd (true≢false (sym (ap is_some e)))

pub returns-in_ok-ok : goal.returns-in_ok-ok
returns-in_ok-ok c =
    let part = c.args.part in
    let form = c.args.form.now in
    let pushed = was_ok c.push.result (sym c.ok.ensures.value ∙ c.in_ok-ok.was) in
    record {
      bytes = refl;
      each = λ number q there.
          elim
          (appended form.places.items c.len-then-is_asked.result number q
          (subst (λ l. slice_get l number ≡ Some q) (rw pushed at c.push.ensures.items) there))
          as
          (λ _. (slice_get form.places.items number ≡ Some q)
          ⊎ ((slice_get part.nils.now number ≡ Some part.at) × (q ≡ length form.bytes.items))) [
            | inl before ↦ inl before
            | inr last ↦ inr (
              subst (λ n. slice_get part.nils.now n ≡ Some part.at)
                  ((c.len.ensures ∙ form.places.ok.0) ∙ sym last.0) (c.is_asked.ensures c.if-is_asked.true),
              last.1 ∙ (c.len-then-is_asked.ensures ∙ form.bytes.ok.0),
            )
          ];
    }
