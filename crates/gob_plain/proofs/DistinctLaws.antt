-- Texts that were seen, and those of which no two are one.
use Rattle.std.proofs.Common.{◌≡◌, ◌∙◌, ℕ, List, [], ◌∷◌, ◌++◌, map, Bor, Bool, true, false, not, nat_eq, refl, sym, ap}
use Rattle.std.proofs.Common.{if◌then◌else◌, ◌||◌, ◌&&◌, append_assoc, ◌+◌, ◌<◌, length}
use Rattle.std.proofs.Common.{get_or, drop}
use Rattle.std.proofs.lemmas.List.{drop_more}
use Rattle.std.specs.Cmp.Lexicographic.{pointwise, bytes_decides}
use Rattle.std.specs.Str.{bytes_eq}
use Rattle.std.specs.List.{list_any}
use Rattle.gob_plain.specs.Plain.{all_differ}
use Rattle.gob_plain.specs.Machine.Naming.{has_text, with_text}

-- ---- a text that was inserted was added

abbrev pub Kept : Type 0
Kept = Bor (List ℕ)

abbrev pub same_text : Kept → Kept → Bool
same_text x y = pointwise nat_eq x.now y.now

abbrev pub bytes_of : List Kept → List (List ℕ)
bytes_of = map (λ (text : Kept). text.now)

any_text : (k : Kept) (keys : List Kept) → list_any (same_text k) keys ≡ has_text k.now (bytes_of keys)
any_text k [] = refl
any_text k (x ∷ xs) = ap (λ b. same_text k x || b) (any_text k xs)

map-push : (xs : List Kept) (x : Kept) → bytes_of (xs ++ x ∷ []) ≡ bytes_of xs ++ x.now ∷ []
map-push [] x = refl
map-push (y ∷ xs) x = ap (λ zs. y.now ∷ zs) (map-push xs x)

pub text_added : (keys new : List Kept) (k : Kept) (r : Bool)
    → new ≡ (if list_any (same_text k) keys then keys else keys ++ k ∷ []) → r ≡ not (list_any (same_text k) keys)
    → (r ≡ not (has_text k.now (bytes_of keys))) × (bytes_of new ≡ with_text (bytes_of keys) k.now)
text_added keys new k r e f = (f ∙ ap not (any_text k keys), by (list_any (same_text k) keys) refl)
  where
    by : (b : Bool) → list_any (same_text k) keys ≡ b → bytes_of new ≡ with_text (bytes_of keys) k.now
    by true any =
        ap bytes_of (e ∙ ap (λ b. if b then keys else keys ++ k ∷ []) any)
        ∙ ap (λ b. if b then bytes_of keys else bytes_of keys ++ k.now ∷ []) (sym any ∙ any_text k keys)
    by false any =
        ap bytes_of (e ∙ ap (λ b. if b then keys else keys ++ k ∷ []) any) ∙ map-push keys k
        ∙ ap (λ b. if b then bytes_of keys else bytes_of keys ++ k.now ∷ []) (sym any ∙ any_text k keys)

-- ---- texts of which no two are one

same_back : (x y : List ℕ) → bytes_eq x y ≡ true → bytes_eq y x ≡ true
same_back x y e = (bytes_decides y x).1 (sym ((bytes_decides x y).0 e))

apart_back : (x y : List ℕ) → bytes_eq x y ≡ false → bytes_eq y x ≡ false
apart_back x y e = by (bytes_eq y x) refl
  where
    by : (b : Bool) → bytes_eq y x ≡ b → bytes_eq y x ≡ false
    by false s = s
    by true s =
        let both : true ≡ false = sym (same_back y x s) ∙ e in cc

or_true : (a b : Bool) → b ≡ true → (a || b) ≡ true
or_true true b e = refl
or_true false b e = e

pub and_false : (a b : Bool) → b ≡ false → (a && b) ≡ false
and_false true b e = e
and_false false b e = refl

any_at : (p : List ℕ → Bool) (ys : List (List ℕ)) (x : List ℕ) (rest : List (List ℕ)) → p x ≡ true
    → list_any p (ys ++ x ∷ rest) ≡ true
any_at p [] x rest e = ap (λ b. b || list_any p rest) e
any_at p (y ∷ ys) x rest e = or_true (p y) (list_any p (ys ++ x ∷ rest)) (any_at p ys x rest e)

none_at : (p : List ℕ → Bool) (ys : List (List ℕ)) (x : List ℕ) → list_any p ys ≡ false → p x ≡ false
    → list_any p (ys ++ x ∷ []) ≡ false
none_at p [] x a e = ap (λ b. b || false) e
none_at p (y ∷ ys) x a e = by (p y) a (λ a. none_at p ys x a e)
  where
    by : (b : Bool) → (b || list_any p ys) ≡ false
        → (list_any p ys ≡ false → list_any p (ys ++ x ∷ []) ≡ false) → (b || list_any p (ys ++ x ∷ [])) ≡ false
    by true a rest = a
    by false a rest = rest a

-- a text that was seen comes again
pub come_again : (seen rest : List (List ℕ)) (x : List ℕ) → has_text x seen ≡ true
    → all_differ (seen ++ x ∷ rest) ≡ false
come_again [] rest x e = cc
come_again (y ∷ ys) rest x e = by (bytes_eq x y) refl e (come_again ys rest x)
  where
    by : (b : Bool) → bytes_eq x y ≡ b → (b || has_text x ys) ≡ true
        → (has_text x ys ≡ true → all_differ (ys ++ x ∷ rest) ≡ false)
        → (not (list_any (λ z. bytes_eq y z) (ys ++ x ∷ rest)) && all_differ (ys ++ x ∷ rest)) ≡ false
    by true s e more = ap (λ b. not b && all_differ (ys ++ x ∷ rest))
        (any_at (λ z. bytes_eq y z) ys x rest (same_back x y s))
    by false s e more = and_false (not (list_any (λ z. bytes_eq y z) (ys ++ x ∷ rest))) (all_differ (ys ++ x ∷ rest))
        (more e)

-- a text that wasn't seen comes
pub come_new : (seen : List (List ℕ)) (x : List ℕ) → all_differ seen ≡ true → has_text x seen ≡ false
    → all_differ (seen ++ x ∷ []) ≡ true
come_new [] x d e = refl
come_new (y ∷ ys) x d e = by (bytes_eq x y) refl e (list_any (λ z. bytes_eq y z) ys) refl d (come_new ys x)
  where
    by : (b : Bool) → bytes_eq x y ≡ b → (b || has_text x ys) ≡ false
        → (a : Bool) → list_any (λ z. bytes_eq y z) ys ≡ a → (not a && all_differ ys) ≡ true
        → (all_differ ys ≡ true → has_text x ys ≡ false → all_differ (ys ++ x ∷ []) ≡ true)
        → (not (list_any (λ z. bytes_eq y z) (ys ++ x ∷ [])) && all_differ (ys ++ x ∷ [])) ≡ true
    by true s e a t d more = cc
    by false s e true t d more = cc
    by false s e false t d more =
        ap (λ b. not b && all_differ (ys ++ x ∷ [])) (none_at (λ z. bytes_eq y z) ys x t (apart_back x y s))
        ∙ more d e

-- ---- a loop over texts

-- those that were seen, and those that are left
pub seen_more : {X : Type 0} (f : X → List ℕ) (xs : List X) (i : ℕ) (x : X) (seen new : List (List ℕ)) (r : Bool)
    → i < length xs → x ≡ get_or xs i x → seen ++ map f (drop i xs) ≡ map f xs → all_differ seen ≡ true
    → r ≡ true → (r ≡ not (has_text (f x) seen)) × (new ≡ with_text seen (f x))
    → (new ++ map f (drop (i + 1) xs) ≡ map f xs) × (all_differ new ≡ true)
seen_more f xs i x seen new r l is all d e a =
    let fresh = not_is (has_text (f x) seen) (sym a.0 ∙ e) in
    let added : new ≡ seen ++ f x ∷ [] = a.1 ∙ ap (λ b. if b then seen else seen ++ f x ∷ []) fresh in (
      ap (λ (l : List (List ℕ)). l ++ map f (drop (i + 1) xs)) added
          ∙ append_assoc seen (f x ∷ []) (map f (drop (i + 1) xs)) ∙ ap (λ (l : List (List ℕ)). seen ++ l) (sym (left))
          ∙ all,
      ap all_differ added ∙ come_new seen (f x) d fresh,
    )
  where
    left : map f (drop i xs) ≡ f x ∷ map f (drop (i + 1) xs)
    left = ap (map f) (drop_more xs i x l) ∙ ap (λ y. f y ∷ map f (drop (i + 1) xs)) (sym is)

    not_is : (b : Bool) → not b ≡ true → b ≡ false
    not_is true e = sym e
    not_is false e = refl

pub seen_again : {X : Type 0} (f : X → List ℕ) (xs : List X) (i : ℕ) (x : X) (seen : List (List ℕ)) (r : Bool)
    → i < length xs → x ≡ get_or xs i x → seen ++ map f (drop i xs) ≡ map f xs
    → r ≡ false → r ≡ not (has_text (f x) seen) → false ≡ all_differ (map f xs)
seen_again f xs i x seen r l is all e a =
    sym (ap all_differ (sym all ∙ ap (λ (l : List (List ℕ)). seen ++ l) left)
    ∙ come_again seen (map f (drop (i + 1) xs)) (f x) (is_not (has_text (f x) seen) (sym a ∙ e)))
  where
    left : map f (drop i xs) ≡ f x ∷ map f (drop (i + 1) xs)
    left = ap (map f) (drop_more xs i x l) ∙ ap (λ y. f y ∷ map f (drop (i + 1) xs)) (sym is)

    is_not : (b : Bool) → not b ≡ false → b ≡ true
    is_not true e = refl
    is_not false e = sym e
