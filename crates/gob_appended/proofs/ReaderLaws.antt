-- What is still to be given stays the same when a reader goes on.
use Rattle.std.proofs.Common.{◌≡◌, ℕ, zero, suc, ◌+◌, ◌<◌, ◌≤◌, Bool, true, false, List, [], ◌∷◌, ◌++◌, length, take}
use Rattle.std.proofs.Common.{arith, refl, sym, ap, ◌∙◌, Option, None, Some, append_assoc, if◌then◌else◌}
use Rattle.std.proofs.Common.{drop, subst, length-append}
use Rattle.std.proofs.Common.{◌⊎◌, inl, inr, ◌&&◌, ◌||◌, nat_lt}
use Rattle.std.specs.Io.KnownBytes.{Consumes, IsAtEnd, Keeps}
use Rattle.std.specs.Prelude.{option_map}
use Rattle.std.proofs.lemmas.Bool.{and_parts, cases_lt, le-ltb, or_cases, true≢false}
use Rattle.std.proofs.lemmas.List.{length-drop, length-take-le}
use Rattle.std.proofs.Math.Seq.{take-append_seam}
use Rattle.gob_appended.specs.Front.{front_at}
use Rattle.gob_appended.specs.Known.{is_known, with_definition}
use Rattle.gob_appended.specs.Left.{Covers, goes_on, part_of, without}
use Rattle.gob_appended.specs.Once.{Part, StaysAlike, bytes_from, once, once_from, rest, staying}
use Rattle.gob_appended.specs.Reader.{Gives, comes_of}
use Rattle.gob_appended.specs.declared.front.Front.TheVariants as front
use Rattle.gob_appended.specs.declared.left.Left.{Left}
use Rattle.gob_appended.specs.declared.left.Left.TheVariants as left
use Rattle.gob_appended.proofs.OnceLaws.{covered_stay, known_leave, last_stays, new_stays, nothing_stays}
use Rattle.gob_appended.proofs.OnceLaws.{once_covered, once_on, plain_stays}

-- known bytes of which the same comes
pub same_comes : (known : Option (List ℕ)) (f g : List ℕ → List ℕ) → ((ys : List ℕ) → f ys ≡ g ys)
    → Keeps (option_map f known) (option_map g known)
same_comes None f g e = tt
same_comes (Some ys) f g e = sym (e ys)

-- and where no more come
pub last_comes : (known : Option (List ℕ)) (f g : List ℕ → List ℕ) → ((ys : List ℕ) → ys ≡ [] → f ys ≡ g ys)
    → Keeps (option_map f (option_map (λ _. []) known)) (option_map g (option_map (λ _. []) known))
last_comes None f g e = tt
last_comes (Some ys) f g e = sym (e [] refl)

-- more was read
pub filled : (ds : List (List ℕ)) (p : Part) (a b : Option (List ℕ)) (old new more : List ℕ) → Consumes a b more
    → new ≡ old ++ more → Keeps (comes_of ds p old a) (comes_of ds p new b)
filled ds p None b old new more c e = tt
filled ds p (Some x) None old new more c e = absurd c
filled ds p (Some x) (Some y) old new more c e =
    ap (once ds p) (ap (λ l. l ++ y) e ∙ append_assoc old more y ∙ ap (λ l. old ++ l) (sym c))

pub at_end : (f : List ℕ → List ℕ) (b : Option (List ℕ)) → IsAtEnd b
    → Keeps (option_map f b) (option_map f (option_map (λ _. []) b))
at_end f None e = tt
at_end f (Some y) e = ap f (sym e)

pub due_is : (l : Left) → goes_on (part_of l) ≡ false → part_of l ≡ staying 0
due_is (left.Bytes zero) e = refl
due_is (left.Bytes (suc n)) e = absurd (true≢false e)
due_is left.All e = absurd (true≢false e)

-- some of it was given
pub given : (ds : List (List ℕ)) (p : Part) (k : ℕ) (w : List ℕ) (known : Option (List ℕ)) → Covers p k → k ≤ length w
    → Consumes (comes_of ds p w known) (comes_of ds (without p k) (drop k w) known) (take k w)
given ds p k w None c m = tt
given ds p k w (Some ys) c m = once_covered ds p k w ys c m

-- where the same comes of bytes that go on so, wherever that is
pub goes_on_so : (ds es : List (List ℕ)) (p q : Part) (w v : List ℕ) (i : ℕ) (known : Option (List ℕ))
    → ((ys : List ℕ) → once_from 0 ds p (w ++ ys) ≡ once_from i es q (v ++ ys))
    → Keeps (comes_of ds p w known) (comes_of es q v known)
goes_on_so ds es p q w v i known e =
    same_comes known (λ ys. once ds p (w ++ ys)) (λ ys. once es q (v ++ ys))
    (λ ys. once_on i ds es p q (w ++ ys) (v ++ ys) (e ys))

pub ends_so : (ds : List (List ℕ)) (p q : Part) (w : List ℕ) (known : Option (List ℕ)) (ended : Bool) → ended ≡ true
    → ((ys : List ℕ) → ys ≡ [] → once_from 0 ds p (w ++ ys) ≡ once_from 0 ds q (w ++ ys))
    → Keeps (comes_of ds p w (if ended then option_map (λ _. []) known else known))
    (comes_of ds q w (if ended then option_map (λ _. []) known else known))
ends_so ds p q w known false end e = absurd (true≢false (sym end))
ends_so ds p q w known true end e =
    last_comes known (λ ys. once ds p (w ++ ys)) (λ ys. once ds q (w ++ ys))
    (λ ys none. once_on 0 ds ds p q (w ++ ys) (w ++ ys) (e ys none))

-- ---- a definition at the front

pub left_out : (i : ℕ) (ds : List (List ℕ)) (p : Part) (n : ℕ) (w shown new : List ℕ) (has : Bool)
    → p ≡ staying 0 → front_at w ≡ front.Definition n → 0 < n → n ≤ length w → shown ≡ w
    → has ≡ is_known ds (take n shown) → has ≡ true → new ≡ drop n w
    → (ys : List ℕ) → once_from i ds p (w ++ ys) ≡ once_from (i + n) ds p (new ++ ys)
left_out i ds p n w shown new has due e l m same is true_it drops ys =
    ap (λ q. once_from i ds q (w ++ ys)) due
    ∙ known_leave i ds n w ys e l m (ap (λ v. is_known ds (take n v)) (sym same) ∙ sym is ∙ true_it)
    ∙ ap (λ q. once_from (i + n) ds q (drop n w ++ ys)) (sym due)
    ∙ ap (λ v. once_from (i + n) ds p (v ++ ys)) (sym drops)

pub taken_in : (i : ℕ) (ds new : List (List ℕ)) (p : Part) (n : ℕ) (w shown again : List ℕ) (has : Bool)
    → p ≡ staying 0 → front_at w ≡ front.Definition n → 0 < n → n ≤ length w → shown ≡ w → again ≡ w
    → has ≡ is_known ds (take n shown) → has ≡ false → new ≡ with_definition ds (take n again)
    → (ys : List ℕ) → once_from i ds p (w ++ ys) ≡ once_from i new (staying n) (w ++ ys)
taken_in i ds new p n w shown again has due e l m same too is false_it noted ys =
    ap (λ q. once_from i ds q (w ++ ys)) due
    ∙ new_stays i ds n w ys e l m (ap (λ v. is_known ds (take n v)) (sym same) ∙ sym is ∙ false_it)
    ∙ ap (λ d. once_from i d (staying n) (w ++ ys)) (sym (noted ∙ ap (λ v. with_definition ds (take n v)) too))

-- ---- anything else at the front

pub plain_comes : (i : ℕ) (ds : List (List ℕ)) (p : Part) (n m : ℕ) (w shown : List ℕ)
    → p ≡ staying 0 → shown ≡ w → front.Plain n ≡ front_at shown → 0 < n → StaysAlike shown n m
    → (ys : List ℕ) → once_from i ds p (w ++ ys) ≡ once_from i ds (staying m) (w ++ ys)
plain_comes i ds p n m w shown due same e l run ys =
    ap (λ q. once_from i ds q (w ++ ys)) due
    ∙ plain_stays i ds n w ys (ap front_at (sym same) ∙ sym e) l ∙ subst (λ v. StaysAlike v n m) same run i ds ys

pub rest_comes : (i : ℕ) (ds : List (List ℕ)) (p : Part) (w : List ℕ) → p ≡ staying 0 → front_at w ≡ front.Nothing
    → 65536 ≤ length w → (ys : List ℕ) → once_from i ds p (w ++ ys) ≡ once_from i ds rest (w ++ ys)
rest_comes i ds p w due e l ys = ap (λ q. once_from i ds q (w ++ ys)) due ∙ nothing_stays i ds w ys e l

pub last_rest : (i : ℕ) (ds : List (List ℕ)) (p : Part) (w : List ℕ) → p ≡ staying 0 → front_at w ≡ front.Nothing
    → (ys : List ℕ) → ys ≡ [] → once_from i ds p (w ++ ys) ≡ once_from i ds rest (w ++ ys)
last_rest i ds p w due e ys none = ap (λ q. once_from i ds q (w ++ ys)) due ∙ last_stays i ds w ys e none

-- ---- some of it is given

nothing_left : (ds : List (List ℕ)) (p : Part) (w : List ℕ) (known : Option (List ℕ)) (ended : Bool) → ended ≡ true
    → w ≡ [] → IsAtEnd (comes_of ds p w (if ended then option_map (λ _. []) known else known))
nothing_left ds p w known false end none = absurd (true≢false (sym end))
nothing_left ds p w None true end none = tt
nothing_left ds p w (Some ys) true end none = ap (λ v. once ds p (v ++ [])) none

-- with their offsets
pub given_part : (ds : List (List ℕ)) (p q : Part) (k : ℕ) (w new : List ℕ) → Covers p k → k ≤ length w
    → new ≡ drop k w → q ≡ without p k
    → (i : ℕ) (ys : List ℕ) → once_from i ds p (w ++ ys)
    ≡ bytes_from i (take k w) ++ once_from (i + k) ds q (new ++ ys)
given_part ds p q k w new covers few drops left i ys =
    covered_stay i ds p k w ys covers few
    ∙ ap (λ v. bytes_from i (take k w) ++ once_from (i + k) ds (without p k) (v ++ ys)) (sym drops)
    ∙ ap (λ r. bytes_from i (take k w) ++ once_from (i + k) ds r (new ++ ys)) (sym left)

empty : (w : List ℕ) → length w ≡ 0 → w ≡ []
empty [] e = refl
empty (x ∷ w) e = absurd (omega arith)

pub given_some : (ds : List (List ℕ)) (p q : Part) (w new copied buf : List ℕ) (known : Option (List ℕ)) (ended : Bool)
    (count : ℕ) → (goes_on p && (ended || nat_lt 0 (length w))) ≡ true → count ≤ length w → count ≤ length buf
    → Covers p count → (goes_on p ≡ true → 0 < length w → 0 < length buf → 0 < count) → copied ≡ take count w
    → new ≡ drop count w → q ≡ without p count
    → Gives (comes_of ds p w (if ended then option_map (λ _. []) known else known))
    (comes_of ds q new (if ended then option_map (λ _. []) known else known)) (copied ++ drop count buf) count
given_some ds p q w new copied buf known ended count ready few room covers some copies drops left =
    let on = and_parts (goes_on p) (ended || nat_lt 0 (length w)) ready in
    let a : Option (List ℕ) = if ended then option_map (λ _. []) known else known in
    let size : length copied ≡ count = ap length copies ∙ length-take-le count w few in
    let all : length (copied ++ drop count buf) ≡ length buf =
    length-append copied (drop count buf) ∙ omega (arith, size, length-drop count buf) in
    let head : take count (copied ++ drop count buf) ≡ take count w =
    ap (λ k. take k (copied ++ drop count buf)) (sym size) ∙ take-append_seam copied (drop count buf) ∙ copies in
    record {
      bound = omega arith;
      bytes = subst (λ r. Consumes (comes_of ds p w a) (comes_of ds r new a) (take count (copied ++ drop count buf)))
          (sym left) (subst (λ v. Consumes (comes_of ds p w a) (comes_of ds (without p count) v a)
          (take count (copied ++ drop count buf))) (sym drops)
          (subst (Consumes (comes_of ds p w a) (comes_of ds (without p count) (drop count w) a)) (sym head)
          (given ds p count w a covers few)));
      end = λ none space. ends (cases_lt 0 (length w)) none space on all;
    }
  where
    ends : (0 < length w) ⊎ (length w ≤ 0) → count ≡ 0 → 0 < length (copied ++ drop count buf)
        → (goes_on p ≡ true) × ((ended || nat_lt 0 (length w)) ≡ true)
        → length (copied ++ drop count buf) ≡ length buf
        → IsAtEnd (comes_of ds q new (if ended then option_map (λ _. []) known else known))
    ends (inl l) none space on all = absurd (let k = some on.0 l (omega arith) in omega arith)
    ends (inr l) none space on all =
        let low = le-ltb 0 (length w) l in
        elim (or_cases ended (nat_lt 0 (length w)) on.1) [
          | inl e ↦ nothing_left ds q new known ended e
              (drops ∙ ap (λ k. drop k w) none ∙ empty w (omega arith))
          | inr e ↦ absurd (true≢false (sym e ∙ low))
        ]
