-- Lists of definitions that grow, and of which one gets its kind.
use Rattle.std.proofs.Common.{◌≡◌, ◌∙◌, ◌⊎◌, ℕ, zero, suc, List, [], ◌∷◌, ◌++◌, refl, sym, ap, subst, inl, inr, true}
use Rattle.std.proofs.Common.{false}
use Rattle.std.proofs.Common.{append_assoc, Some, None, map, take, length, ◌≤◌, ◌<◌, ◌+◌, arith}
use Rattle.std.specs.Prelude.{reverse, slice_get, slice_set}
use Rattle.std.proofs.lemmas.List.{reverse-append, take-append-le}
use Rattle.std.proofs.lemmas.Option.{none-some}
use Rattle.gob_types.specs.declared.id.TypeId.{TypeId}
use Rattle.gob_types.specs.declared.kind.Kind.{Kind}
use Rattle.gob_go_types.specs.declared.numbers.Defined.{Defined}
use Rattle.gob_go_types.specs.declared.numbers.Form.{Form}
use Rattle.gob_go_types.specs.declared.numbers.Form.TheVariants as form
use Rattle.gob_go_types.specs.declared.numbers.Slot.{Slot}
use Rattle.gob_go_types.specs.Machine.{AllDone, finished, finished_by, finished_one, ids_of, is_open}
use Rattle.gob_go_types.specs.Types.{Has, defined}

-- ---- lists

pub kept : {A : Type 0} (xs ys : List A) (n : ℕ) {x : A} → slice_get xs n ≡ Some x → slice_get (xs ++ ys) n ≡ Some x
kept [] ys n e = absurd (none-some _ e)
kept (y ∷ xs) ys zero e = e
kept (y ∷ xs) ys (suc n) e = kept xs ys n e

pub has_front : {A : Type 0} (xs ys : List A) (x : A) → Has xs x → Has (xs ++ ys) x
has_front xs ys x h = (h.0, kept xs ys h.0 h.1)

pub has_back : {A : Type 0} (xs ys : List A) (x : A) → Has ys x → Has (xs ++ ys) x
has_back [] ys x h = h
has_back (y ∷ xs) ys x h = let r = has_back xs ys x h in (suc r.0, r.1)

pub has_last : {A : Type 0} (xs : List A) (x : A) → Has (xs ++ x ∷ []) x
has_last xs x = has_back xs (x ∷ []) x (0, refl)

cases_at : {A : Type 0} (xs ys : List A) (x : A) (n : ℕ) → slice_get (xs ++ ys) n ≡ Some x → Has xs x ⊎ Has ys x
cases_at [] ys x n e = inr (n, e)
cases_at (y ∷ xs) ys x zero e = inl (0, e)
cases_at (y ∷ xs) ys x (suc n) e = elim (cases_at xs ys x n e) [ inl h ↦ inl (suc h.0, h.1) | inr h ↦ inr h ]

pub has_cases : {A : Type 0} (xs ys : List A) (x : A) → Has (xs ++ ys) x → Has xs x ⊎ Has ys x
has_cases xs ys x h = cases_at xs ys x h.0 h.1

pub set_stands : {A : Type 0} (xs : List A) (n : ℕ) (x y : A) → slice_get xs n ≡ Some x
    → slice_get (slice_set xs n y) n ≡ Some y
set_stands [] n x y e = absurd (none-some _ e)
set_stands (z ∷ xs) zero x y e = refl
set_stands (z ∷ xs) (suc n) x y e = set_stands xs n x y e

pub within_some : {A : Type 0} (xs : List A) (n : ℕ) → n < length xs → slice_get xs n ≡ None → ⊥
within_some [] n l e = omega (arith, l)
within_some (x ∷ xs) zero l e = none-some _ (sym e)
within_some (x ∷ xs) (suc n) l e = within_some xs n (omega (arith, l)) e

-- ---- more definitions

pub finished-append : (xs ys : List Slot) → finished (xs ++ ys) ≡ finished xs ++ finished ys
finished-append [] ys = refl
finished-append (x ∷ xs) ys =
    ap (λ (l : List Defined). finished_one x ++ l) (finished-append xs ys)
    ∙ sym (append_assoc (finished_one x) (finished xs) (finished ys))

pub finished_front : (xs ys zs : List Slot) (d : Defined) → zs ≡ xs ++ ys → Has (finished xs) d → Has (finished zs) d
finished_front xs ys zs d e h =
    subst (λ (l : List Defined). Has l d) (sym (ap finished e ∙ finished-append xs ys))
    (has_front (finished xs) (finished ys) d h)

pub finished_last : (xs zs : List Slot) (x : Slot) (k : Kind) → zs ≡ xs ++ x ∷ [] → x.form ≡ form.Done k
    → Has (finished zs) (defined x.id x.name.now k)
finished_last xs zs x k e f =
    subst (λ (l : List Defined). Has l (defined x.id x.name.now k)) (sym (ap finished e ∙ finished-append xs (x ∷ [])))
    (has_back (finished xs) (finished (x ∷ [])) _ (subst (λ (g : Form). Has (finished_by x.id x.name.now g ++ [])
    (defined x.id x.name.now k)) (sym f) (0, refl)))

pub ids-append : (xs ys : List Slot) → ids_of (xs ++ ys) ≡ ids_of xs ++ ids_of ys
ids-append [] ys = refl
ids-append (x ∷ xs) ys = ap (λ (l : List TypeId). x.id ∷ l) (ids-append xs ys)

-- ---- a definition that gets its kind

open_none : (x : Slot) → is_open x.form ≡ true → finished_one x ≡ []
open_none x e = by x.form e
  where
    by : (f : Form) → is_open f ≡ true → finished_by x.id x.name.now f ≡ []
    by (form.Open n) e = refl
    by (form.Done k) e = cc

pub closed_keeps : (xs : List Slot) (n : ℕ) (x y : Slot) (d : Defined) → slice_get xs n ≡ Some x
    → is_open x.form ≡ true → Has (finished xs) d → Has (finished (slice_set xs n y)) d
closed_keeps [] n x y d e o h = absurd (none-some _ e)
closed_keeps (z ∷ xs) zero x y d e o h =
    has_back (finished_one y) (finished xs) d
    (subst (λ (l : List Defined). Has (l ++ finished xs) d)
    (let same : z ≡ x = cc in ap finished_one same ∙ open_none x o) h)
closed_keeps (z ∷ xs) (suc n) x y d e o h =
    elim (has_cases (finished_one z) (finished xs) d h) [
      | inl f ↦ has_front (finished_one z) (finished (slice_set xs n y)) d f
      | inr b ↦ has_back (finished_one z) (finished (slice_set xs n y)) d (closed_keeps xs n x y d e o b)
    ]

pub closed_has : (xs : List Slot) (n : ℕ) (x y : Slot) (k : Kind) → slice_get xs n ≡ Some x → y.form ≡ form.Done k
    → Has (finished (slice_set xs n y)) (defined y.id y.name.now k)
closed_has [] n x y k e f = absurd (none-some _ e)
closed_has (z ∷ xs) zero x y k e f =
    has_front (finished_one y) (finished xs) _
    (subst (λ (g : Form). Has (finished_by y.id y.name.now g) (defined y.id y.name.now k)) (sym f) (0, refl))
closed_has (z ∷ xs) (suc n) x y k e f =
    has_back (finished_one z) (finished (slice_set xs n y)) _ (closed_has xs n x y k e f)

-- another definition stays
pub closed_others : (xs : List Slot) (n j : ℕ) (x y z : Slot) → slice_get xs n ≡ Some x → slice_get xs j ≡ Some z
    → (slice_get (slice_set xs n y) j ≡ Some z) ⊎ (z ≡ x)
closed_others [] n j x y z e f = absurd (none-some _ e)
closed_others (w ∷ xs) zero zero x y z e f = inr cc
closed_others (w ∷ xs) zero (suc j) x y z e f = inl f
closed_others (w ∷ xs) (suc n) zero x y z e f = inl f
closed_others (w ∷ xs) (suc n) (suc j) x y z e f = closed_others xs n j x y z e f

pub closed_ids : (xs : List Slot) (n : ℕ) (x y : Slot) → slice_get xs n ≡ Some x → y.id ≡ x.id
    → ids_of (slice_set xs n y) ≡ ids_of xs
closed_ids [] n x y e f = refl
closed_ids (z ∷ xs) zero x y e f =
    let same : z ≡ x = cc in ap (λ t. t ∷ ids_of xs) (f ∙ sym (ap (λ (w : Slot). w.id) same))
closed_ids (z ∷ xs) (suc n) x y e f = ap (λ (l : List TypeId). z.id ∷ l) (closed_ids xs n x y e f)

-- ---- all are done

done_at : (xs : List Slot) (x : Slot) (n : ℕ) → AllDone xs → slice_get xs n ≡ Some x → is_open x.form ≡ false
done_at [] x n a e = absurd (none-some _ e)
done_at (y ∷ xs) x zero a e =
    let same : y ≡ x = cc in subst (λ (w : Slot). is_open w.form ≡ false) same a.0
done_at (y ∷ xs) x (suc n) a e = done_at xs x n a.1 e

pub done_open : (xs : List Slot) (x : Slot) → AllDone xs → Has xs x → is_open x.form ≡ false
done_open xs x a h = done_at xs x h.0 a h.1

pub done_ids : (xs : List Slot) → AllDone xs → map (λ d. d.id) (finished xs) ≡ ids_of xs
done_ids [] a = refl
done_ids (x ∷ xs) a = by x.form a.0 (done_ids xs a.1)
  where
    by : (f : Form) → is_open f ≡ false → map (λ d. d.id) (finished xs) ≡ ids_of xs
        → map (λ d. d.id) (finished_by x.id x.name.now f ++ finished xs) ≡ x.id ∷ ids_of xs
    by (form.Open n) o rest = cc
    by (form.Done k) o rest = ap (λ (l : List TypeId). x.id ∷ l) rest

done_next : (xs : List Slot) (n : ℕ) (x : Slot) → slice_get xs n ≡ Some x → is_open x.form ≡ false
    → AllDone (take n xs) → AllDone (take (suc n) xs)
done_next [] n x e o a = absurd (none-some _ e)
done_next (y ∷ xs) zero x e o a =
    let same : y ≡ x = cc in (subst (λ (w : Slot). is_open w.form ≡ false) (sym same) o, tt)
done_next (y ∷ xs) (suc n) x e o a = (a.0, done_next xs n x e o a.1)

-- one more is done
pub done_more : (xs : List Slot) (n m : ℕ) (x : Slot) → m ≡ n + 1 → slice_get xs n ≡ Some x → is_open x.form ≡ false
    → AllDone (take n xs) → AllDone (take m xs)
done_more xs n m x i e o a =
    let next : suc n ≡ m = omega arith in
    subst (λ k. AllDone (take k xs)) next (done_next xs n x e o a)

-- those in front of one that gets its kind stay done
pub done_front : (xs : List Slot) (n : ℕ) (y : Slot) → AllDone (take n xs) → AllDone (take n (slice_set xs n y))
done_front [] n y a = a
done_front (x ∷ xs) zero y a = tt
done_front (x ∷ xs) (suc n) y a = (a.0, done_front xs n y a.1)

-- and of more definitions
pub done_grown : (xs ys : List Slot) (n : ℕ) → n ≤ length xs → AllDone (take n xs) → AllDone (take n (xs ++ ys))
done_grown xs ys n l a = subst AllDone (sym (take-append-le n xs ys l)) a

-- ---- definitions that are taken off the end

append_none : {A : Type 0} (xs : List A) → xs ++ [] ≡ xs
append_none [] = refl
append_none (x ∷ xs) = ap (λ l. x ∷ l) (append_none xs)

pub none_taken : (xs : List Slot) (ds : List Defined) → ds ≡ [] → finished xs ++ reverse ds ≡ finished xs
none_taken xs ds e = ap (λ (l : List Defined). finished xs ++ reverse l) e ∙ append_none (finished xs)

pub last_done : (xs ys : List Slot) (x : Slot) → ys ≡ xs ++ x ∷ [] → AllDone ys → is_open x.form ≡ false
last_done xs ys x e a = done_open ys x a (subst (λ (l : List Slot). Has l x) (sym e) (has_last xs x))

front_done : (xs ys : List Slot) → AllDone (xs ++ ys) → AllDone xs
front_done [] ys a = tt
front_done (x ∷ xs) ys a = (a.0, front_done xs ys a.1)

pub others_done : (xs ys : List Slot) (x : Slot) → ys ≡ xs ++ x ∷ [] → AllDone ys → AllDone xs
others_done xs ys x e a = front_done xs (x ∷ []) (subst AllDone e a)

pub one_taken : (xs ys : List Slot) (x : Slot) (d : Defined) (ds es all : List Defined) → ys ≡ xs ++ x ∷ []
    → finished_one x ≡ d ∷ [] → es ≡ ds ++ d ∷ [] → finished ys ++ reverse ds ≡ all
    → finished xs ++ reverse es ≡ all
one_taken xs ys x d ds es all e f g h =
    ap (λ (l : List Defined). finished xs ++ reverse l) g
    ∙ ap (λ (l : List Defined). finished xs ++ l) (reverse-append ds (d ∷ []))
    ∙ sym (append_assoc (finished xs) (d ∷ []) (reverse ds))
    ∙ ap (λ (l : List Defined). finished xs ++ l ++ reverse ds) (sym (append_none (finished_one x) ∙ f))
    ∙ ap (λ (l : List Defined). l ++ reverse ds) (sym (ap finished e ∙ finished-append xs (x ∷ [])))
    ∙ h
