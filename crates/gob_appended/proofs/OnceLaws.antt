-- What stays of bytes, part by part.
use Rattle.std.proofs.Common.{◌≡◌, ℕ, zero, suc, ◌+◌, ◌-◌, ◌<◌, ◌≤◌, Bool, true, false, List, [], ◌∷◌, ◌++◌, length}
use Rattle.std.proofs.Common.{take, drop, arith, refl, sym, ap, ◌∙◌, append-nil, if◌then◌else◌}
use Rattle.std.proofs.lemmas.Bool.{true≢false}
use Rattle.std.proofs.lemmas.List.{drop-append-le, map-append, take-append-le}
use Rattle.gob_appended.specs.Front.{front_at}
use Rattle.gob_appended.specs.Known.{is_known, with_definition}
use Rattle.gob_appended.specs.Left.{Covers, goes_on, without}
use Rattle.gob_appended.specs.Once.{Byte, Part, Place, StaysAlike, at, behind, byte_at, bytes_from, judged, leaving}
use Rattle.gob_appended.specs.Once.{once, once_from, rest, settled, staying, stays, values}
use Rattle.gob_appended.specs.declared.front.Front.TheVariants as front
use Rattle.gob_appended.proofs.FrontLaws.{front_long, front_more}

-- the bytes before a place and those from there on are all
pub bytes_split : (i n : ℕ) (xs : List ℕ) → bytes_from i (take n xs) ++ bytes_from (i + n) (drop n xs) ≡ bytes_from i xs
bytes_split i zero xs = let here : i + 0 ≡ i = omega arith in ap (λ j. bytes_from j xs) here
bytes_split i (suc n) [] = refl
bytes_split i (suc n) (x ∷ xs) =
    let there : i + suc n ≡ suc i + n = omega arith in
    ap (λ l. byte_at i x ∷ l) (ap (λ j. bytes_from (suc i) (take n xs) ++ bytes_from j (drop n xs)) there
    ∙ bytes_split (suc i) n xs)

pub rest_stays : (i : ℕ) (ds : List (List ℕ)) (xs : List ℕ) → once_from i ds rest xs ≡ bytes_from i xs
rest_stays i ds [] = refl
rest_stays i ds (x ∷ xs) = ap (λ l. byte_at i x ∷ l) (rest_stays (suc i) ds xs)

pub so_many_stay : (i : ℕ) (ds : List (List ℕ)) (n : ℕ) (xs : List ℕ)
    → once_from i ds (staying n) xs ≡ bytes_from i (take n xs) ++ once_from (i + n) ds (staying 0) (drop n xs)
so_many_stay i ds zero xs = let here : i ≡ i + 0 = omega arith in ap (λ j. once_from j ds (staying 0) xs) here
so_many_stay i ds (suc n) [] = refl
so_many_stay i ds (suc n) (x ∷ xs) =
    let there : suc i + n ≡ i + suc n = omega arith in
    ap (λ l. byte_at i x ∷ l) (so_many_stay (suc i) ds n xs
    ∙ ap (λ j. bytes_from (suc i) (take n xs) ++ once_from j ds (staying 0) (drop n xs)) there)

none_leave : (i : ℕ) (ds : List (List ℕ)) (xs : List ℕ) → once_from i ds (leaving 0) xs ≡ once_from i ds (staying 0) xs
none_leave i ds [] = refl
none_leave i ds (x ∷ xs) = refl

pub so_many_leave : (i : ℕ) (ds : List (List ℕ)) (n : ℕ) (xs : List ℕ)
    → once_from i ds (leaving n) xs ≡ once_from (i + n) ds (staying 0) (drop n xs)
so_many_leave i ds zero xs =
    let here : i ≡ i + 0 = omega arith in none_leave i ds xs ∙ ap (λ j. once_from j ds (staying 0) xs) here
so_many_leave i ds (suc n) [] = refl
so_many_leave i ds (suc n) (x ∷ xs) =
    let there : suc i + n ≡ i + suc n = omega arith in
    so_many_leave (suc i) ds n xs ∙ ap (λ j. once_from j ds (staying 0) (drop n xs)) there

-- some of the bytes that stay, of which a piece is here
pub some_stay : (i : ℕ) (ds : List (List ℕ)) (n k : ℕ) (w ys : List ℕ) → k ≤ n → k ≤ length w
    → once_from i ds (staying n) (w ++ ys)
    ≡ bytes_from i (take k w) ++ once_from (i + k) ds (staying (n - k)) (drop k w ++ ys)
some_stay i ds n zero w ys l m =
    let same : n ≡ n - 0 = omega arith in
    let here : i ≡ i + 0 = omega arith in
    ap (λ k. once_from i ds (staying k) (w ++ ys)) same ∙ ap (λ j. once_from j ds (staying (n - 0)) (w ++ ys)) here
some_stay i ds zero (suc k) w ys l m = absurd (omega arith)
some_stay i ds (suc n) (suc k) [] ys l m = absurd (omega arith)
some_stay i ds (suc n) (suc k) (x ∷ w) ys l m =
    let same : n - k ≡ suc n - suc k = omega arith in
    let there : suc i + k ≡ i + suc k = omega arith in
    ap (λ l. byte_at i x ∷ l) (some_stay (suc i) ds n k w ys (omega arith) (omega arith)
    ∙ ap (λ j. bytes_from (suc i) (take k w) ++ once_from j ds (staying (n - k)) (drop k w ++ ys)) there
    ∙ ap (λ m. bytes_from (suc i) (take k w) ++ once_from (i + suc k) ds (staying m) (drop k w ++ ys)) same)

on_again : (x : ℕ) (xs : List ℕ) (ds : List (List ℕ)) (p : Part) → goes_on p ≡ true → settled ds p (x ∷ xs) ≡ at ds p
on_again x xs ds (staying zero) g = absurd (true≢false (sym g))
on_again x xs ds (staying (suc n)) g = refl
on_again x xs ds (leaving zero) g = absurd (true≢false (sym g))
on_again x xs ds (leaving (suc n)) g = refl
on_again x xs ds rest g = refl

-- where an item is to begin, it goes on as that is judged
pub judged_on : (i : ℕ) (ds : List (List ℕ)) (xs : List ℕ) (s : Place) → judged ds xs (front_at xs) ≡ s
    → goes_on s.part ≡ true → once_from i ds (staying 0) xs ≡ once_from i s.known s.part xs
judged_on i ds [] s e g = refl
judged_on i ds (x ∷ xs) s e g =
    let give = λ (t : Place).
    (if stays t.part then byte_at i x ∷ [] else []) ++ once_from (suc i) t.known (behind t.part) xs in
    ap give e ∙ sym (ap give (on_again x xs s.known s.part g))

-- ---- what stays of a piece and of what comes behind it

pub covered_stay : (i : ℕ) (ds : List (List ℕ)) (p : Part) (k : ℕ) (w ys : List ℕ) → Covers p k → k ≤ length w
    → once_from i ds p (w ++ ys) ≡ bytes_from i (take k w) ++ once_from (i + k) ds (without p k) (drop k w ++ ys)
covered_stay i ds (staying n) k w ys c m = some_stay i ds n k w ys c m
covered_stay i ds (leaving n) k w ys c m = absurd c
covered_stay i ds rest k w ys c m =
    rest_stays i ds (w ++ ys) ∙ sym (bytes_split i k (w ++ ys))
    ∙ ap (λ l. bytes_from i l ++ bytes_from (i + k) (drop k (w ++ ys))) (take-append-le k w ys m)
    ∙ ap (λ l. bytes_from i (take k w) ++ bytes_from (i + k) l) (drop-append-le k w ys m)
    ∙ ap (λ l. bytes_from i (take k w) ++ l) (sym (rest_stays (i + k) ds (drop k w ++ ys)))

on_from : (n : ℕ) → 0 < n → goes_on (staying n) ≡ true
on_from zero l = absurd (omega arith)
on_from (suc n) l = refl

off_from : (n : ℕ) → 0 < n → goes_on (leaving n) ≡ true
off_from zero l = absurd (omega arith)
off_from (suc n) l = refl

pub plain_stays : (i : ℕ) (ds : List (List ℕ)) (n : ℕ) (w ys : List ℕ) → front_at w ≡ front.Plain n → 0 < n
    → once_from i ds (staying 0) (w ++ ys) ≡ once_from i ds (staying n) (w ++ ys)
plain_stays i ds n w ys e l =
    judged_on i ds (w ++ ys) (at ds (staying n))
    (ap (judged ds (w ++ ys)) (front_more w ys (front.Plain n) (λ z. cc) e)) (on_from n l)

-- a definition is noted, and stays if it is new
pub defined : (i : ℕ) (ds : List (List ℕ)) (n : ℕ) (w ys : List ℕ) (s : Place)
    → front_at w ≡ front.Definition n → n ≤ length w → judged ds w (front.Definition n) ≡ s → goes_on s.part ≡ true
    → once_from i ds (staying 0) (w ++ ys) ≡ once_from i s.known s.part (w ++ ys)
defined i ds n w ys s e m j g =
    judged_on i ds (w ++ ys) s
    (ap (judged ds (w ++ ys)) (front_more w ys (front.Definition n) (λ z. cc) e)
    ∙ ap (λ d. at (with_definition ds d) (if is_known ds d then leaving n else staying n)) (take-append-le n w ys m)
    ∙ j) g

pub new_stays : (i : ℕ) (ds : List (List ℕ)) (n : ℕ) (w ys : List ℕ) → front_at w ≡ front.Definition n → 0 < n
    → n ≤ length w → is_known ds (take n w) ≡ false
    → once_from i ds (staying 0) (w ++ ys) ≡ once_from i (with_definition ds (take n w)) (staying n) (w ++ ys)
new_stays i ds n w ys e l m k =
    defined i ds n w ys (at (with_definition ds (take n w)) (staying n)) e m
    (ap (λ (b : Bool). at (with_definition ds (take n w)) (if b then leaving n else staying n)) k) (on_from n l)

pub known_leaves : (i : ℕ) (ds : List (List ℕ)) (n : ℕ) (w ys : List ℕ) → front_at w ≡ front.Definition n → 0 < n
    → n ≤ length w → is_known ds (take n w) ≡ true
    → once_from i ds (staying 0) (w ++ ys)
    ≡ once_from (i + n) (with_definition ds (take n w)) (staying 0) (drop n w ++ ys)
known_leaves i ds n w ys e l m k =
    defined i ds n w ys (at (with_definition ds (take n w)) (leaving n)) e m
    (ap (λ (b : Bool). at (with_definition ds (take n w)) (if b then leaving n else staying n)) k) (off_from n l)
    ∙ so_many_leave i (with_definition ds (take n w)) n (w ++ ys)
    ∙ ap (once_from (i + n) (with_definition ds (take n w)) (staying 0)) (drop-append-le n w ys m)

pub nothing_stays : (i : ℕ) (ds : List (List ℕ)) (w ys : List ℕ) → front_at w ≡ front.Nothing → 65536 ≤ length w
    → once_from i ds (staying 0) (w ++ ys) ≡ once_from i ds rest (w ++ ys)
nothing_stays i ds w ys e m =
    judged_on i ds (w ++ ys) (at ds rest) (ap (judged ds (w ++ ys)) (front_long w ys m ∙ e)) refl

pub last_stays : (i : ℕ) (ds : List (List ℕ)) (w ys : List ℕ) → front_at w ≡ front.Nothing → ys ≡ []
    → once_from i ds (staying 0) (w ++ ys) ≡ once_from i ds rest (w ++ ys)
last_stays i ds w ys e none =
    judged_on i ds (w ++ ys) (at ds rest)
    (ap (judged ds (w ++ ys)) (ap front_at (ap (λ l. w ++ l) none ∙ append-nil w) ∙ e)) refl

pub known_leave : (i : ℕ) (ds : List (List ℕ)) (n : ℕ) (w ys : List ℕ) → front_at w ≡ front.Definition n → 0 < n
    → n ≤ length w → is_known ds (take n w) ≡ true
    → once_from i ds (staying 0) (w ++ ys) ≡ once_from (i + n) ds (staying 0) (drop n w ++ ys)
known_leave i ds n w ys e l m k =
    known_leaves i ds n w ys e l m k
    ∙ ap (λ (b : Bool). once_from (i + n) (if b then ds else ds ++ take n w ∷ []) (staying 0) (drop n w ++ ys)) k

-- an item that stays behind so many bytes
pub run_on : (n m : ℕ) (w : List ℕ) → n ≤ length w → front_at (drop n w) ≡ front.Plain m → 0 < m
    → StaysAlike w n (n + m)
run_on n m w l e s i ds ys =
    let none : n - n ≡ 0 = omega arith in
    let more : n + m - n ≡ m = omega arith in
    some_stay i ds n n w ys (omega arith) l
    ∙ ap (λ k. bytes_from i (take n w) ++ once_from (i + n) ds (staying k) (drop n w ++ ys)) none
    ∙ ap (λ r. bytes_from i (take n w) ++ r) (plain_stays (i + n) ds m (drop n w) ys e s)
    ∙ ap (λ k. bytes_from i (take n w) ++ once_from (i + n) ds (staying k) (drop n w ++ ys)) (sym more)
    ∙ sym (some_stay i ds (n + m) n w ys (omega arith) l)

-- ---- without offsets

pub values_from : (i : ℕ) (xs : List ℕ) → values (bytes_from i xs) ≡ xs
values_from i [] = refl
values_from i (x ∷ xs) = ap (λ l. x ∷ l) (values_from (suc i) xs)

one_value : (b : Bool) (i j x : ℕ) (ks ls : List Byte) → values ks ≡ values ls
    → values ((if b then byte_at i x ∷ [] else []) ++ ks) ≡ values ((if b then byte_at j x ∷ [] else []) ++ ls)
one_value true i j x ks ls e = ap (λ l. x ∷ l) e
one_value false i j x ks ls e = e

same_values : (i j : ℕ) (ds : List (List ℕ)) (p : Part) (xs : List ℕ)
    → values (once_from i ds p xs) ≡ values (once_from j ds p xs)
same_values i j ds p [] = refl
same_values i j ds p (x ∷ xs) =
    let s = settled ds p (x ∷ xs) in
    one_value (stays s.part) i j x _ _ (same_values (suc i) (suc j) s.known (behind s.part) xs)

-- the same bytes come of what goes on so, wherever that is
pub once_on : (i : ℕ) (ds es : List (List ℕ)) (p q : Part) (xs ys : List ℕ)
    → once_from 0 ds p xs ≡ once_from i es q ys → once ds p xs ≡ once es q ys
once_on i ds es p q xs ys e = ap values e ∙ same_values i 0 es q ys

pub once_covered : (ds : List (List ℕ)) (p : Part) (k : ℕ) (w ys : List ℕ) → Covers p k → k ≤ length w
    → once ds p (w ++ ys) ≡ take k w ++ once ds (without p k) (drop k w ++ ys)
once_covered ds p k w ys c m =
    ap values (covered_stay 0 ds p k w ys c m)
    ∙ map-append (λ (b : Byte). b.value) (bytes_from 0 (take k w)) _
    ∙ ap (λ l. l ++ values (once_from (0 + k) ds (without p k) (drop k w ++ ys))) (values_from 0 (take k w))
    ∙ ap (λ l. take k w ++ l) (same_values (0 + k) 0 ds (without p k) (drop k w ++ ys))
