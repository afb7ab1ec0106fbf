-- The bytes from one place of a room to another.
use Rattle.std.proofs.Common.{◌≡◌, ℕ, ◌+◌, ◌-◌, ◌≤◌, arith, List, ◌++◌, length, take, drop, slice_range, ◌∙◌, ap, sym}
use Rattle.std.proofs.Common.{length-take, drop-drop, take-add}
use Rattle.std.proofs.lemmas.List.{drop-take}

pub advance : (xs : List ℕ) (a e n : ℕ) → n ≤ length (slice_range xs a e)
    → slice_range xs (a + n) e ≡ drop n (slice_range xs a e)
advance xs a e n few =
    let size = length-take (e - a) (drop a xs) in
    let whole : n + (e - (a + n)) ≡ e - a = omega (arith, size) in
    ap (λ l. take (e - (a + n)) l) (sym (drop-drop n a xs)) ∙ sym (drop-take n (e - (a + n)) (drop a xs))
    ∙ ap (λ k. drop n (take k (drop a xs))) whole

-- those before the end stay where others come behind
pub prefix_same : (xs ys : List ℕ) (s e : ℕ) → s ≤ e → take e ys ≡ take e xs → slice_range ys s e ≡ slice_range xs s e
prefix_same xs ys s e l same =
    let whole : s + (e - s) ≡ e = omega arith in
    sym (drop-take s (e - s) ys) ∙ ap (λ k. drop s (take k ys)) whole ∙ ap (λ l. drop s l) same
    ∙ ap (λ k. drop s (take k xs)) (sym whole) ∙ drop-take s (e - s) xs

pub range_grown : (xs : List ℕ) (s e n : ℕ) → s ≤ e
    → slice_range xs s (e + n) ≡ slice_range xs s e ++ take n (drop e xs)
range_grown xs s e n l =
    let parts : (e + n) - s ≡ (e - s) + n = omega arith in
    let at : s + (e - s) ≡ e = omega arith in
    ap (λ k. take k (drop s xs)) parts ∙ take-add (e - s) n (drop s xs)
    ∙ ap (λ l. slice_range xs s e ++ take n l) (drop-drop (e - s) s xs ∙ ap (λ k. drop k xs) at)
