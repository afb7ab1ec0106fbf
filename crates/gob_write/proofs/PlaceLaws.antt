-- Places in an input.
use Rattle.std.proofs.Common.{◌≡◌, ◌≢◌, ℕ, ◌+◌, ◌<◌, ◌≤◌, ◌==◌, List, [], ◌∷◌, ◌++◌, length, take, drop, get_or}
use Rattle.std.proofs.Common.{refl, sym, ap, subst, ◌∙◌, add-one}
use Rattle.std.proofs.Math.ListN.{drop_of_length-le}
use Rattle.std.proofs.Math.Seq.{drop-cons, take-suc}
use Rattle.std.proofs.lemmas.Bool.{cond_both, eqb-true}
use Rattle.gob_stream.specs.Devices.{counts_up}
use Rattle.gob_write.specs.Place.{IsLineIn, IsPlaceIn, first_place, next_place, place_behind, place_from}
use Rattle.gob_write.specs.declared.place.Place.{Place}

pub place_append : (p : Place) (a b : List ℕ) → place_from p (a ++ b) ≡ place_from (place_from p a) b
place_append p [] b = refl
place_append p (x ∷ xs) b = place_append (next_place p x) xs b

-- the place behind one text more
pub place_more : (place : Place) (front text : List ℕ) → place ≡ place_behind front
    → place_from place text ≡ place_behind (front ++ text)
place_more place front text is = ap (λ (p : Place). place_from p text) is ∙ sym (place_append first_place front text)

pub place_at : {start place : Place} {text : List ℕ} (at : ℕ) → place ≡ place_from start (take at text)
    → IsPlaceIn start text place.line place.column
place_at at is = record { at = at; is = sym is }

pub line_in : {start place : Place} {text : List ℕ} → IsPlaceIn start text place.line place.column
    → IsLineIn start text place.line
line_in {place = place} is = record { column = place.column; place = is }

-- ---- byte by byte

pub behind_feed : (p : Place) (x line : ℕ) → x ≡ 10 → line ≡ counts_up p.line 1
    → record { line = line; column = 1 } ≡ next_place p x
behind_feed p x line is up = subst (λ (y : ℕ). record { line = line; column = 1 } ≡ next_place p y) (sym is)
    (ap (λ (n : ℕ). record { line = n; column = 1 }) up)

pub behind_other : (p : Place) (x column : ℕ) → x ≢ 10 → column ≡ counts_up p.column 1
    → record { line = p.line; column = column } ≡ next_place p x
behind_other p x column other up =
    cond_both (x == 10) (record { line = counts_up p.line 1; column = 1 })
    (record { line = p.line; column = counts_up p.column 1 })
    (λ (q : Place). record { line = p.line; column = column } ≡ q) (λ is. absurd (other (eqb-true x 10 is)))
    (λ no. ap (λ (n : ℕ). record { line = p.line; column = n }) up)

-- one byte of those that are left
pub one_place : (p q r : Place) (bytes : List ℕ) (k : ℕ) → k < length bytes → r ≡ next_place q (get_or bytes k 0)
    → p ≡ place_from q (drop k bytes) → p ≡ place_from r (drop (k + 1) bytes)
one_place p q r bytes k within step is =
    is ∙ ap (λ (l : List ℕ). place_from q l) (drop-cons bytes k 0 within
    ∙ ap (λ (n : ℕ). get_or bytes k 0 ∷ drop n bytes) (sym (add-one k)))
    ∙ ap (λ (s : Place). place_from s (drop (k + 1) bytes)) (sym step)

pub all_placed : (p q : Place) (bytes : List ℕ) (k : ℕ) → length bytes ≤ k → p ≡ place_from q (drop k bytes) → q ≡ p
all_placed p q bytes k past is = sym (is ∙ ap (λ (l : List ℕ). place_from q l) (drop_of_length-le bytes past))

-- one byte more of those in front
pub one_blank : (start place r : Place) (bytes : List ℕ) (k : ℕ) → k < length bytes
    → r ≡ next_place place (get_or bytes k 0) → place ≡ place_from start (take k bytes)
    → r ≡ place_from start (take (k + 1) bytes)
one_blank start place r bytes k within step is =
    step ∙ ap (λ (p : Place). next_place p (get_or bytes k 0)) is
    ∙ sym (place_append start (take k bytes) (get_or bytes k 0 ∷ []))
    ∙ ap (λ (l : List ℕ). place_from start l) (sym (take-suc bytes k 0 within)
    ∙ ap (λ (n : ℕ). take n bytes) (sym (add-one k)))
