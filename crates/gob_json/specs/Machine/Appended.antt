-- Appended pieces are one piece.
use Rattle.std.specs.Prelude.{◌≡◌, ℕ, List, ◌++◌, Result, Ok, Err, OnOk}
use Rattle.std.proofs.Common.{ap, ◌∙◌, append_assoc}

pub appended_behind : {E : Type 0} (a b c x y : List ℕ) (r : Result (Unit {0}) E) → b ≡ a ++ x → OnOk r (c ≡ b ++ y)
    → OnOk r (c ≡ a ++ (x ++ y))
appended_behind a b c x y (Ok u) e f = f ∙ ap (λ l. l ++ y) e ∙ append_assoc a x y
appended_behind a b c x y (Err g) e f = tt
