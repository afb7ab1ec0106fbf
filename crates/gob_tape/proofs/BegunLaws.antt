-- The stack of open parts, innermost first.
use Rattle.std.proofs.Common.{◌≡◌, ℕ, ◌+◌, ◌-◌, ◌^◌, ◌<◌, suc, min, List, [], ◌∷◌, ◌++◌, length, get_or, set, take}
use Rattle.std.proofs.Common.{drop, reverse, arith, refl, sym, ap, ◌∙◌}
use Rattle.std.proofs.lemmas.List.{reverse-append, set_split}
use Rattle.std.proofs.lemmas.Grind.{common_steps}
use Rattle.gob_tape.specs.declared.node.Begun.{Begun}
use Rattle.gob_tape.specs.Machine.State.{counted}

drop_all : {X : Type 0} (xs : List X) (i : ℕ) → length xs ≡ i → drop i xs ≡ []
drop_all xs i h = grind (arith, common_steps)

set_last : {X : Type 0} (xs : List X) (i : ℕ) (y : X) → i + 1 ≡ length xs → set xs i y ≡ take i xs ++ y ∷ []
set_last xs i y h = set_split xs i y (omega arith) ∙ ap (λ l. take i xs ++ y ∷ l) (drop_all xs (suc i) (omega arith))

set_same : {X : Type 0} (xs : List X) (i : ℕ) (x : X) → i < length xs → x ≡ get_or xs i x → set xs i x ≡ xs
set_same xs i x h e = grind (arith, common_steps)

-- the last is the innermost
pub last_first : {X : Type 0} (xs : List X) (i : ℕ) (x : X) → i + 1 ≡ length xs → x ≡ get_or xs i x
    → reverse xs ≡ x ∷ reverse (take i xs)
last_first xs i x h e = ap reverse (sym (set_same xs i x (omega arith) e) ∙ set_last xs i x h)
    ∙ reverse-append (take i xs) (x ∷ [])

-- and is changed
pub last_changed : {X : Type 0} (xs : List X) (i : ℕ) (y : X) → i + 1 ≡ length xs
    → reverse (set xs i y) ≡ y ∷ reverse (take i xs)
last_changed xs i y h = ap reverse (set_last xs i y h) ∙ reverse-append (take i xs) (y ∷ [])

-- one more part in the last
pub last_counted : (xs : List Begun) (i : ℕ) (x y : Begun) → i + 1 ≡ length xs → x ≡ get_or xs i x → y.node ≡ x.node
    → y.parts ≡ min (x.parts + 1) (2 ^ 64 - 1) → reverse (set xs i y) ≡ counted (reverse xs)
last_counted xs i x y h e n p =
    let left : reverse (set xs i y) ≡ y ∷ reverse (take i xs) = ap reverse (set_last xs i y h)
    ∙ reverse-append (take i xs) (y ∷ []) in
    let right : x ∷ reverse (take i xs) ≡ reverse xs = sym (reverse-append (take i xs) (x ∷ []))
    ∙ ap reverse (sym (set_last xs i x h) ∙ set_same xs i x (omega arith) e) in
    let z : Begun = record { node = x.node; parts = min (x.parts + 1) (2 ^ 64 - 1) } in
    let same : y ≡ z = ap (λ n. record { node = n; parts = y.parts }) n ∙ ap (λ p. record { node = x.node; parts = p })
    p in
    left ∙ ap (λ y. y ∷ reverse (take i xs)) same ∙ ap counted right

pub none_counted : (xs : List Begun) → length xs ≡ 0 → reverse xs ≡ counted (reverse xs)
none_counted [] h = refl
none_counted (x ∷ xs) h = absurd (omega arith)
