-- What holds of the elements that were visited, one after another.
use Rattle.std.proofs.Common.{◌≡◌, ◌∙◌, ℕ, suc, ◌+◌, ◌<◌, ◌≤◌, List, [], ◌∷◌, length, Some, arith, refl, sym, ap, subst}
use Rattle.std.proofs.Common.{get_or, set, inl, inr, length-set}
use Rattle.std.proofs.lemmas.Bool.{cases_lt}
use Rattle.std.proofs.lemmas.List.{get_or-set_other, get_or-set_same}
use Rattle.std.proofs.lemmas.Option.{get_or_from_slice_get, slice_get-get_or, slice_get_within}
use Rattle.std.specs.Prelude.{slice_get}
use Rattle.gob_types.proofs.PublicLaws.{some_injective}
use Rattle.gob_go_writer.specs.Machine.Each.{HoldsAt, HoldsOfEach}

-- the first of them, and the others
pub record FirstHolds {A : Type 0} (R : ℕ → A → A → Type 0) (old : A) (olds news : List A) : Type 0 where
  pub first : A
  pub others : List A
  pub whole : news ≡ first ∷ others
  pub holds : R 0 old first
  pub others_hold : HoldsOfEach (λ number. R (suc number)) olds others

pub first_holds : {A : Type 0} {R : ℕ → A → A → Type 0} {old : A} {olds : List A} (news : List A)
    → HoldsOfEach R (old ∷ olds) news → FirstHolds R old olds news
first_holds {old = old} [] h = absurd (let l = h.all in omega arith)
first_holds {R = R} {old = old} (new ∷ news) h =
    let at = h.each 0 old refl in
    let all = h.all in
    record {
      first = new;
      others = news;
      whole = refl;
      holds = subst (R 0 old) (sym (some_injective at.is)) at.holds;
      others_hold = record {
        all = omega arith;
        each = λ number x there. let k = h.each (suc number) x there in record {
          element = k.element;
          is = k.is;
          holds = k.holds;
        };
      };
    }

-- those up to a number, where it is that of the last
pub all_hold : {A : Type 0} {R : ℕ → A → A → Type 0} (olds news : List A) (i : ℕ) → length news ≡ length olds
    → length olds ≤ i → ((number : ℕ) (x : A) → number < i → slice_get olds number ≡ Some x → HoldsAt R news number x)
    → HoldsOfEach R olds news
all_hold olds news i same end each = record {
  all = same;
  each = λ number x there. each number x (let l = slice_get_within olds number x there in omega arith) there;
}

-- those behind the number stay
pub unvisited_on : {A : Type 0} (olds news : List A) (i : ℕ) (new : A) → length news ≡ length olds
    → ((k : ℕ) (d : A) → i ≤ k → get_or news k d ≡ get_or olds k d)
    → (length (set news i new) ≡ length olds)
    × ((k : ℕ) (d : A) → i + 1 ≤ k → get_or (set news i new) k d ≡ get_or olds k d)
unvisited_on olds news i new same stays = (
  omega (arith, length-set news i new),
  λ k d l. get_or-set_other news i k new d (λ e. omega arith) ∙ stays k d (omega arith),
)

-- one more
pub next_holds : {A : Type 0} {R : ℕ → A → A → Type 0} (olds news : List A) (i : ℕ) (old new : A)
    → length news ≡ length olds → i < length news → old ≡ get_or news i old → get_or news i old ≡ get_or olds i old
    → R i old new
    → ((number : ℕ) (x : A) → number < i → slice_get olds number ≡ Some x → HoldsAt R news number x)
    → (number : ℕ) (x : A) → number < i + 1 → slice_get olds number ≡ Some x → HoldsAt R (set news i new) number x
next_holds {R = R} olds news i old new same l is stays holds each number x below there = elim (cases_lt number i) [
  | inl less ↦
      let h = each number x less there in
      let k = slice_get_within news number h.element h.is in
      record {
        element = h.element;
        is = slice_get-get_or (set news i new) number h.element (omega (arith, length-set news i new))
            ∙ ap Some (get_or-set_other news i number new h.element (λ e. omega arith)
            ∙ get_or_from_slice_get news number h.element h.element h.is);
        holds = h.holds;
      }
  | inr more ↦
      let one : number ≡ i = omega arith in
      let x_is : old ≡ x = is ∙ stays ∙ get_or_from_slice_get olds i x old
      (subst (λ n. slice_get olds n ≡ Some x) one there) in
      record {
        element = new;
        is = subst (λ n. slice_get (set news i new) n ≡ Some new) (sym one)
            (slice_get-get_or (set news i new) i new (omega (arith, length-set news i new))
            ∙ ap Some (get_or-set_same news i new new l));
        holds = subst (λ n. R n x new) (sym one) (subst (λ o. R i o new) x_is holds);
      }
]
