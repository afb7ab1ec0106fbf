-- Text, and where something stands first.
use Rattle.std.proofs.Common.{◌≡◌, ℕ, ◌-◌, ◌<◌, ◌≤◌, Bool, true, false, IsTrue, ◌==◌, not, List, length, take, drop}
use Rattle.std.proofs.Common.{sym, subst, ap, ◌∙◌, inl, inr, arith, nat_eq}
use Rattle.std.proofs.lemmas.Bool.{cases_lt, true≢false}
use Rattle.std.proofs.lemmas.Bool.Decides.{Decides-eqb, nat_tests}
use Rattle.std.proofs.lemmas.List.{length-take-le}
use Rattle.std.proofs.lemmas.Slice.Eq.{starts_is}
use Rattle.std.specs.List.{starts_with}
use Rattle.std.specs.Str.{IsUtf8}
use Rattle.gob_num.proofs.PlaceLaws.{all_taken}
use Rattle.gob_forms.specs.Texts.{IsCutUtf8, IsHttpHead, StandsAt, StandsFirst, begins_message, line_end}

-- ---- UTF-8
-- where the bytes are that without so many at the end, they are it exactly if some are left
pub is_cut : {bytes front : List ℕ} {cut left : ℕ} (is_empty : Bool) → cut < 4 → left ≡ length bytes - cut
    → front ≡ take left bytes → IsUtf8 (take left bytes) → is_empty ≡ (length front == 0)
    → ((k : ℕ) → k < cut → IsUtf8 (take (length bytes - k) bytes) → ⊥)
    → (IsTrue (not is_empty) → IsCutUtf8 bytes) × (IsCutUtf8 bytes → IsTrue (not is_empty))
is_cut {bytes = bytes} {front = front} {cut = cut} {left = left} is_empty few counts is utf8 empty none =
    let size : length front ≡ left = ap length is ∙ length-take-le left bytes (omega arith) in (
      λ t. record {
        cut = cut;
        few = few;
        more = (let some : 0 < length front = grind (arith, nat_tests) in omega arith);
        utf8 = subst (λ n. IsUtf8 (take n bytes)) counts utf8;
      },
      λ u. (let more = u.more in
          let behind : cut ≤ u.cut = elim (cases_lt u.cut cut) [ inl l ↦ absurd (none u.cut l u.utf8) | inr l ↦ l ] in
          let some : 0 < length front = omega arith in
          grind (arith, nat_tests)),
    )

-- ---- where a text stands
pub stands_at : (text bytes : List ℕ) (place : ℕ) (r : Bool) → r ≡ starts_with nat_eq
    (take (length bytes - place) (drop place bytes)) text
    → (r ≡ true → StandsAt text bytes place) × (StandsAt text bytes place → r ≡ true)
stands_at text bytes place r e =
    let s = take (length bytes - place) (drop place bytes) in
    let begun = starts_is Decides-eqb s text r e in
    let all = all_taken bytes place in
    (λ t. (drop (length text) s, sym all ∙ begun.0 t), λ (rest, is). begun.1 rest (all ∙ is))

-- it does so first at one place
first_place : {text bytes : List ℕ} {p q : ℕ} → StandsFirst text bytes p → StandsFirst text bytes q → p ≡ q
first_place {p = p} {q = q} a b = elim (cases_lt p q) [
  | inl l ↦ absurd (b.first p l a.stands)
  | inr l ↦ elim (cases_lt q p) [ inl k ↦ absurd (a.first q k b.stands) | inr k ↦ omega arith ]
]

-- a first line that is none of a message
pub no_message : {front : List ℕ} {line : ℕ} → StandsFirst line_end front line
    → begins_message (take line front) ≡ false → (size : ℕ) → IsHttpHead front size → ⊥
no_message {front = front} first other size h =
    true≢false (sym h.begins ∙ ap (λ n. begins_message (take n front)) (first_place h.ends_line first) ∙ other)
