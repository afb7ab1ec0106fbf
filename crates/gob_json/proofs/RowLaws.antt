-- Tables of bytes in rows of one length: each row is looked at once, and then found by its number.
use Rattle.std.proofs.Common.{◌≡◌, ℕ, zero, suc, ◌+◌, ◌*◌, ◌<◌, Bool, true, false, ◌&&◌, T, eqb, eqb→eq, List, [], ◌∷◌}
use Rattle.std.proofs.Common.{take, drop, refl, ap, ◌∙◌, subst, arith}
use Rattle.std.proofs.lemmas.List.{drop-drop}
use lib.Ieee.Fits.{and_l, and_r}

abbrev same : (xs ys : List ℕ) → Bool
same [] [] = true
same [] (y ∷ ys) = false
same (x ∷ xs) [] = false
same (x ∷ xs) (y ∷ ys) = eqb x y && same xs ys

are_same : (xs ys : List ℕ) → T (same xs ys) → xs ≡ ys
are_same [] [] t = refl
are_same [] (y ∷ ys) t = absurd t
are_same (x ∷ xs) [] t = absurd t
are_same (x ∷ xs) (y ∷ ys) t =
    let first : x ≡ y = eqb→eq _ _ (and_l _ _ t) in
    rw (first, are_same xs ys (and_r (eqb x y) _ t)) refl

-- so many rows of this width, each of which begins with these bytes, those of n first
abbrev pub are_rows : (width size : ℕ) → (ℕ → List ℕ) → List ℕ → (n rows : ℕ) → Bool
are_rows width size shown l n zero = true
are_rows width size shown l n (suc rows) =
    same (take size l) (shown n) && are_rows width size shown (drop width l) (suc n) rows

pub row : (width size : ℕ) (shown : ℕ → List ℕ) (l : List ℕ) (n rows i m : ℕ) → m ≡ n + i
    → T (are_rows width size shown l n rows) → i < rows → take size (drop (i * width) l) ≡ shown m
row width size shown l n zero i m e t h = absurd (omega arith)
row width size shown l n (suc rows) zero m e t h =
    let here : n ≡ m = omega arith in
    let prefix : zero * width ≡ 0 = omega arith in
    ap (λ (k : ℕ). take size (drop k l)) prefix ∙ are_same (take size l) (shown n) (and_l _ _ t) ∙ ap shown here
row width size shown l n (suc rows) (suc i) m e t h =
    let behind : width + i * width ≡ suc i * width = omega arith in
    let place : drop (i * width) (drop width l) ≡ drop (suc i * width) l =
    drop-drop (i * width) width l ∙ ap (λ (k : ℕ). drop k l) behind in
    subst (λ (r : List ℕ). take size r ≡ shown m) place
    (row width size shown (drop width l) (suc n) rows i m (omega arith) (and_r (same (take size l) (shown n)) _ t)
    (omega arith))
