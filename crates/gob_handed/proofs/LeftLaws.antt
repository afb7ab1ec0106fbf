-- Lists of which some elements were changed: what is so of those that are left, behind the first.
use Rattle.std.proofs.Common.{◌≡◌, ℕ, zero, suc, ◌+◌, ◌-◌, ◌<◌, ◌≤◌, List, [], ◌∷◌, ◌++◌, length, map, set, get_or}
use Rattle.std.proofs.Common.{take, drop, slice_get, arith, ap, refl, sym, ◌∙◌, append_assoc, append-nil}
use Rattle.std.proofs.Common.{length-append, length-drop}
use Rattle.std.proofs.Math.Seq.{drop-append-add}
use Rattle.std.proofs.lemmas.List.{length-map, length-take, drop_all, drop_more, get_or_at, set_at, map_more, take_all}

-- one more is what a function makes of it
pub put_here : {X : Type 0} (f : X → X) (xs ys : List X) (i : ℕ) (d : X) → i < length xs
    → ys ≡ map f (take i xs) ++ drop i xs
    → set ys i (f (get_or ys i d)) ≡ map f (take (i + 1) xs) ++ drop (i + 1) xs
put_here f xs ys i d lt h =
    let prefix = map f (take i xs) in
    let rest = drop (i + 1) xs in
    let long : length prefix ≡ i = length-map (take i xs) f ∙ omega (arith, length-take i xs) in
    let parts : ys ≡ prefix ++ get_or xs i d ∷ rest = h ∙ ap (λ l. prefix ++ l) (drop_more xs i d lt) in
    let same : get_or ys i d ≡ get_or xs i d =
    ap (λ l. get_or l i d) parts ∙ get_or_at prefix (get_or xs i d) rest d i long in
    ap (λ y. set ys i (f y)) same ∙ ap (λ l. set l i (f (get_or xs i d))) parts
    ∙ set_at prefix _ _ (f (get_or xs i d)) i long ∙ sym (append_assoc prefix (f (get_or xs i d) ∷ []) rest)
    ∙ ap (λ l. l ++ rest) (sym (map_more f xs i d lt))

-- the element at a place is the first of what is left from there on
slice_get_from : {X : Type 0} (xs : List X) (i : ℕ) → slice_get xs i ≡ slice_get (drop i xs) 0
slice_get_from [] zero = refl
slice_get_from [] (suc i) = refl
slice_get_from (x ∷ xs) zero = refl
slice_get_from (x ∷ xs) (suc i) = slice_get_from xs i

-- all of it is as many as are behind them
all_left : {X : Type 0} (xs : List X) (t k : ℕ) → k ≡ length xs - t → take k (drop t xs) ≡ drop t xs
all_left xs t k is = take_all k (drop t xs) (omega (arith, length-drop t xs, is))

-- where some of it was changed, what is behind that is as it was
pub get_left : {X : Type 0} (xs ys : List X) (t k n : ℕ) → k ≡ length xs - t → drop n ys ≡ drop n (take k (drop t xs))
    → slice_get ys n ≡ slice_get (drop t xs) n
get_left xs ys t k n is same =
    slice_get_from ys n ∙ ap (λ l. slice_get l 0) (same ∙ ap (λ l. drop n l) (all_left xs t k is))
    ∙ sym (slice_get_from (drop t xs) n)

pub drop_left : {X : Type 0} (xs ys : List X) (t k n : ℕ) → k ≡ length xs - t → t ≤ length xs
    → drop n ys ≡ drop n (take k (drop t xs))
    → drop (t + n) (take t xs ++ (ys ++ drop k (drop t xs))) ≡ drop n (drop t xs)
drop_left xs ys t k n is within same =
    let none : drop k (drop t xs) ≡ [] = drop_all k (drop t xs) (omega (arith, length-drop t xs, is)) in
    let long : t ≡ length (take t xs) = omega (arith, length-take t xs, within) in
    ap (λ l. drop (t + n) (take t xs ++ (ys ++ l))) none ∙ ap (λ l. drop (t + n) (take t xs ++ l)) (append-nil ys)
    ∙ ap (λ m. drop (m + n) (take t xs ++ ys)) long ∙ drop-append-add (take t xs) ys n ∙ same
    ∙ ap (λ l. drop n l) (all_left xs t k is)

pub length_left : {X : Type 0} (xs ys : List X) (t k : ℕ) → k ≡ length xs - t → t ≤ length xs
    → length ys ≡ length (take k (drop t xs)) → length (take t xs ++ (ys ++ drop k (drop t xs))) ≡ length xs
length_left xs ys t k is within same =
    let rest = drop t xs in
    omega (
      arith,
      length-append (take t xs) (ys ++ drop k rest),
      length-append ys (drop k rest),
      length-take t xs,
      length-take k rest,
      length-drop t xs,
      length-drop k rest,
      same,
      is,
      within,
    )
