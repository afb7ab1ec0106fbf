-- What stays of bytes, item by item.
use Rattle.std.proofs.Common.{◌≡◌, ℕ, zero, suc, ◌+◌, ◌-◌, ◌<◌, ◌≤◌, true, false, List, [], ◌∷◌, ◌++◌, length}
use Rattle.std.proofs.Common.{take, drop, arith, refl, sym, ap, ◌∙◌, subst, append-nil, Option, None, Some, nat_lt}
use Rattle.std.proofs.Common.{inl, inr}
use Rattle.std.proofs.lemmas.Bool.{cases_Bool, cond_both, ltb-false}
use Rattle.std.proofs.lemmas.List.{length-drop}
use Rattle.gob_appended.specs.Front.{are_least, front_at, is_definition, number_at, of_count, of_size, with_digits}
use Rattle.std.specs.Prelude.{slice_range}
use Rattle.gob_num.specs.Unsigned.{big_endian}
use Rattle.gob_appended.specs.Known.{is_known, with_definition}
use Rattle.gob_appended.specs.Laws.{IsOnce, NoneAgain, as_it_is, again, defined, kept, new, nothing, plain}
use Rattle.gob_appended.specs.Once.{Byte, bytes_from, once_from, staying}
use Rattle.gob_appended.specs.declared.front.Front.{Front}
use Rattle.gob_appended.specs.declared.front.Front.TheVariants as front
use Rattle.gob_appended.proofs.OnceLaws.{bytes_split, known_leave, last_stays, new_stays, plain_stays, rest_stays}
use Rattle.gob_appended.proofs.OnceLaws.{so_many_stay}

-- ---- an item has some bytes, and a definition stands whole

digits_some : (k : ℕ) (ds : List ℕ) (n : ℕ × ℕ) → with_digits k ds ≡ Some n → 0 < n.1
digits_some k ds n =
    cond_both (are_least ds) _ _ (λ (r : Option (ℕ × ℕ)). r ≡ Some n → 0 < n.1)
    (λ t e. let same : (big_endian ds, suc k) ≡ n = cc in let one = ap (λ (p : ℕ × ℕ). p.1) same in omega arith)
    (λ t e. cc)

number_some : (xs : List ℕ) (n : ℕ × ℕ) → number_at xs ≡ Some n → 0 < n.1
number_some [] n = λ e. cc
number_some (h ∷ xs) n =
    cond_both (nat_lt h 128) _ _ (λ (r : Option (ℕ × ℕ)). r ≡ Some n → 0 < n.1)
    (λ t e. let same : (h, 1) ≡ n = cc in let one = ap (λ (p : ℕ × ℕ). p.1) same in omega arith)
    (λ t. cond_both (nat_lt h 248) _ _ (λ (r : Option (ℕ × ℕ)). r ≡ Some n → 0 < n.1) (λ u e. cc)
    (λ u. cond_both (nat_lt (length xs) (256 - h)) _ _ (λ (r : Option (ℕ × ℕ)). r ≡ Some n → 0 < n.1) (λ v e. cc)
    (λ v. digits_some (256 - h) (take (256 - h) xs) n)))

-- what the front of bytes says of itself
abbrev IsSized : List ℕ → Front → Type 0
IsSized xs front.Nothing = Unit {0}
IsSized xs (front.Plain n) = 0 < n
IsSized xs (front.Definition n) = (0 < n) × (n ≤ length xs)

size_some : (xs : List ℕ) (a n : ℕ) → 0 < n → IsSized xs (of_size xs a n)
size_some xs a n l =
    cond_both (nat_lt 65536 n) _ _ (IsSized xs) (λ t. l)
    (λ t. cond_both (nat_lt (length xs) n) _ _ (IsSized xs) (λ u. tt)
    (λ u. cond_both (is_definition (slice_range xs a n)) _ _ (IsSized xs)
    (λ v. (l, ltb-false (length xs) n u)) (λ v. l)))

count_some : (xs : List ℕ) (r : Option (ℕ × ℕ)) → ((n : ℕ × ℕ) → r ≡ Some n → 0 < n.1) → IsSized xs (of_count xs r)
count_some xs None p = tt
count_some xs (Some n) p = let l = p n refl in size_some xs n.1 (n.0 + n.1) (omega arith)

pub sized : (xs : List ℕ) (f : Front) → front_at xs ≡ f → IsSized xs f
sized xs f e = subst (IsSized xs) e (count_some xs (number_at xs) (number_some xs))

-- ---- item by item

alone : (f : List ℕ → List Byte) (xs : List ℕ) → f (xs ++ []) ≡ f xs
alone f xs = ap f (append-nil xs)

pub nothing_once : (met : List (List ℕ)) (i : ℕ) (xs : List ℕ) → front_at xs ≡ front.Nothing
    → once_from i met (staying 0) xs ≡ bytes_from i xs
nothing_once met i xs e =
    sym (alone (once_from i met (staying 0)) xs) ∙ last_stays i met xs [] e refl ∙ rest_stays i met (xs ++ [])
    ∙ alone (bytes_from i) xs

pub plain_once : (met : List (List ℕ)) (i : ℕ) (xs : List ℕ) (n : ℕ) → front_at xs ≡ front.Plain n
    → once_from i met (staying 0) xs ≡ bytes_from i (take n xs) ++ once_from (i + n) met (staying 0) (drop n xs)
plain_once met i xs n e =
    sym (alone (once_from i met (staying 0)) xs) ∙ plain_stays i met n xs [] e (sized xs (front.Plain n) e)
    ∙ alone (once_from i met (staying n)) xs ∙ so_many_stay i met n xs

pub new_once : (met : List (List ℕ)) (i : ℕ) (xs : List ℕ) (n : ℕ) → front_at xs ≡ front.Definition n
    → is_known met (take n xs) ≡ false
    → once_from i met (staying 0) xs
    ≡ bytes_from i (take n xs) ++ once_from (i + n) (with_definition met (take n xs)) (staying 0) (drop n xs)
new_once met i xs n e k =
    let s = sized xs (front.Definition n) e in
    sym (alone (once_from i met (staying 0)) xs) ∙ new_stays i met n xs [] e s.0 s.1 k
    ∙ alone (once_from i (with_definition met (take n xs)) (staying n)) xs
    ∙ so_many_stay i (with_definition met (take n xs)) n xs

pub again_once : (met : List (List ℕ)) (i : ℕ) (xs : List ℕ) (n : ℕ) → front_at xs ≡ front.Definition n
    → is_known met (take n xs) ≡ true
    → once_from i met (staying 0) xs ≡ once_from (i + n) met (staying 0) (drop n xs)
again_once met i xs n e k =
    let s = sized xs (front.Definition n) e in
    sym (alone (once_from i met (staying 0)) xs) ∙ known_leave i met n xs [] e s.0 s.1 k
    ∙ alone (once_from (i + n) met (staying 0)) (drop n xs)

pub only : (met : List (List ℕ)) (i : ℕ) (xs : List ℕ) (bs : List Byte) → IsOnce met i xs bs
    → bs ≡ once_from i met (staying 0) xs
only met i xs bs (as_it_is e) = sym (nothing_once met i xs e)
only met i xs bs (kept {bs = cs} {n = n} e o) =
    ap (λ l. bytes_from i (take n xs) ++ l) (only met (i + n) (drop n xs) cs o) ∙ sym (plain_once met i xs n e)
only met i xs bs (new {bs = cs} {n = n} e k o) =
    ap (λ l. bytes_from i (take n xs) ++ l) (only (with_definition met (take n xs)) (i + n) (drop n xs) cs o)
    ∙ sym (new_once met i xs n e k)
only met i xs bs (again {n = n} e k o) = only met (i + n) (drop n xs) bs o ∙ sym (again_once met i xs n e k)

pub unchanged : (met : List (List ℕ)) (i : ℕ) (xs : List ℕ) → NoneAgain met xs
    → once_from i met (staying 0) xs ≡ bytes_from i xs
unchanged met i xs (nothing e) = nothing_once met i xs e
unchanged met i xs (plain {n = n} e o) =
    plain_once met i xs n e ∙ ap (λ l. bytes_from i (take n xs) ++ l) (unchanged met (i + n) (drop n xs) o)
    ∙ bytes_split i n xs
unchanged met i xs (defined {n = n} e k o) =
    new_once met i xs n e k
    ∙ ap (λ l. bytes_from i (take n xs) ++ l) (unchanged (with_definition met (take n xs)) (i + n) (drop n xs) o)
    ∙ bytes_split i n xs

-- ---- of any bytes, by their length

shorter : (xs : List ℕ) (n most : ℕ) → 0 < n → length xs ≤ suc most → length (drop n xs) ≤ most
shorter xs n most l m = omega (arith, length-drop n xs)

by_front : (most : ℕ)
    → ((met : List (List ℕ)) (i : ℕ) (xs : List ℕ) → length xs ≤ most
    → IsOnce met i xs (once_from i met (staying 0) xs))
    → (met : List (List ℕ)) (i : ℕ) (xs : List ℕ) → length xs ≤ suc most → (f : Front) → front_at xs ≡ f
    → IsOnce met i xs (once_from i met (staying 0) xs)
by_front most behind met i xs l front.Nothing e =
    subst (IsOnce met i xs) (sym (nothing_once met i xs e)) (as_it_is e)
by_front most behind met i xs l (front.Plain n) e =
    subst (IsOnce met i xs) (sym (plain_once met i xs n e))
    (kept e (behind met (i + n) (drop n xs) (shorter xs n most (sized xs (front.Plain n) e) l)))
by_front most behind met i xs l (front.Definition n) e =
    let s = sized xs (front.Definition n) e in
    elim (cases_Bool (is_known met (take n xs))) [
      | inl k ↦ subst (IsOnce met i xs) (sym (again_once met i xs n e k))
          (again e k (behind met (i + n) (drop n xs) (shorter xs n most s.0 l)))
      | inr k ↦ subst (IsOnce met i xs) (sym (new_once met i xs n e k))
          (new e k (behind (with_definition met (take n xs)) (i + n) (drop n xs) (shorter xs n most s.0 l)))
    ]

pub by_length : (most : ℕ) (met : List (List ℕ)) (i : ℕ) (xs : List ℕ) → length xs ≤ most
    → IsOnce met i xs (once_from i met (staying 0) xs)
by_length zero met i [] l = as_it_is refl
by_length zero met i (x ∷ xs) l = absurd (omega arith)
by_length (suc most) met i xs l = by_front most (by_length most) met i xs l (front_at xs) refl
