-- What is said of any values and their spellings: readings of parts one after another, and what is appended.
use Rattle.std.proofs.Common.{◌≡◌, List, ℕ, ◌++◌, sym, ap, ◌∙◌, append_assoc}
use Rattle.gob_num.specs.Spelled.{Appends, Same}

-- ---- `Same`
-- the readings of a value are those of what it is made of
pub mapped : {A B : Type 0} {v w : A} {b c x y : List ℕ} (f : A → B) → Same v w b c x y → Same (f v) (f w) b c x y
mapped f r = record { value = ap f r.value; bytes = r.bytes; rest = r.rest }

pub regroup : (b p x c q y : List ℕ) → (b ++ p) ++ x ≡ (c ++ q) ++ y → b ++ (p ++ x) ≡ c ++ (q ++ y)
regroup b p x c q y e = sym (append_assoc b p x) ∙ e ∙ append_assoc c q y

-- one part after another
pub joined : {A B C : Type 0} {v w : A} {v' w' : B} {b c p q x y : List ℕ} (f : A → B → C)
    → Same v w b c (p ++ x) (q ++ y) → Same v' w' p q x y → Same (f v v') (f w w') (b ++ p) (c ++ q) x y
joined {v = v} {w = w} {v' = v'} {w' = w'} {b = b} {c = c} {p = p} {q = q} f r s =
    let ev : v ≡ w = r.value in
    let ew : v' ≡ w' = s.value in
    let eb : b ≡ c = r.bytes in
    let ep : p ≡ q = s.bytes in
    record { value = cc; bytes = cc; rest = s.rest }

-- ---- `Appends`
-- what spells one value spells another too
pub appends_as : {P Q : List ℕ → Type 0} {old new : List ℕ} → ((bytes : List ℕ) → P bytes → Q bytes) → Appends P old new
    → Appends Q old new
appends_as f a = record { bytes = a.bytes; spelled = f a.bytes a.spelled; appended = a.appended }

-- one part after another
pub appends_then : {P Q R : List ℕ → Type 0} {old mid new : List ℕ} → ((b c : List ℕ) → P b → Q c → R (b ++ c))
    → Appends P old mid → Appends Q mid new → Appends R old new
appends_then {old = old} f a b = record {
  bytes = a.bytes ++ b.bytes;
  spelled = f a.bytes b.bytes a.spelled b.spelled;
  appended = b.appended ∙ ap (λ l. l ++ b.bytes) a.appended ∙ append_assoc old a.bytes b.bytes;
}
