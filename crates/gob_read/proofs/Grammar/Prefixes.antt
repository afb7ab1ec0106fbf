-- Of two beginnings of the same bytes the shorter begins the longer.
use Rattle.std.proofs.Common.{◌≡◌, ℕ, ◌<◌, ◌≤◌, ◌+◌, List, [], ◌∷◌, ◌++◌, length, arith, refl, ap, ◌∙◌, append_assoc}
use Rattle.std.proofs.Common.{length-append}

pub record Prefix (p q : List ℕ) : Type 0 where
  pub rest : List ℕ
  pub whole : q ≡ p ++ rest

pub prefix_of : (p q x y : List ℕ) → p ++ x ≡ q ++ y → length p ≤ length q → Prefix p q
prefix_of [] q x y e l = record { rest = q; whole = refl }
prefix_of (a ∷ p) [] x y e l = absurd (omega arith)
prefix_of (a ∷ p) (b ∷ q) x y e l =
    let t : p ++ x ≡ q ++ y = cc in
    let heads : a ≡ b = cc in
    let r = prefix_of p q x y t (omega arith) in
    let w : q ≡ p ++ r.rest = r.whole in
    record { rest = r.rest; whole = cc }

pub same_end : (p x y : List ℕ) → p ++ x ≡ p ++ y → x ≡ y
same_end [] x y e = e
same_end (a ∷ p) x y e = let t : p ++ x ≡ p ++ y = cc in same_end p x y t

pub append_nil : {A : Type 0} (q : List A) → q ++ [] ≡ q
append_nil [] = refl
append_nil (x ∷ q) = ap (λ l. x ∷ l) (append_nil q)

-- the third of four lists goes to the two before it
pub joined_three : (a b c d : List ℕ) → a ++ (b ++ (c ++ d)) ≡ (a ++ (b ++ c)) ++ d
joined_three a b c d = simp append_assoc

pub nothing_left : (a b : List ℕ) → a ++ b ≡ [] → b ≡ []
nothing_left [] b e = e
nothing_left (x ∷ a) b e = cc

pub some_bytes : (s : List ℕ) → (s ≡ [] → ⊥) → 0 < length s
some_bytes [] z = absurd (z refl)
some_bytes (x ∷ s) z = omega arith

-- what is left behind the shorter one
pub rest_behind : (p q x y : List ℕ) → p ++ x ≡ q ++ y → (f : Prefix p q) → x ≡ f.rest ++ y
rest_behind p q x y e f = same_end p x (f.rest ++ y) (e ∙ ap (λ l. l ++ y) f.whole ∙ append_assoc p f.rest y)

pub prefix_length : (p q : List ℕ) → (f : Prefix p q) → length q ≡ length p + length f.rest
prefix_length p q f = omega (arith, ap length f.whole, length-append p f.rest)
