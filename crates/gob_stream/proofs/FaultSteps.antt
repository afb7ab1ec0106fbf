-- How faults and bytes pass from a call to its caller.
use Rattle.std.proofs.Common.{◌≡◌, ℕ, List, ◌++◌, Result, Ok, Err, IfErr, OnOk, IsErrAnd, sym, ap, subst, ◌∙◌}
use Rattle.std.proofs.Common.{append_assoc}
use Rattle.gob_num.specs.Spelled.{Appends}

-- the fault that a `?` returns is the callee's
pub passed : {A E : Type 0} (r : Result A E) {e : E} (P : E → Type 0) → IsErrAnd r (λ y. y ≡ e) → P e → IfErr r P
passed (Ok a) P is p = absurd is
passed (Err y) P is p = subst P (sym is) p

-- and what it returns is that fault
pub is_fault : {A E : Type 0} (r : Result A E) {e : E} → IsErrAnd r (λ y. y ≡ e) → r ≡ Err e
is_fault (Ok a) is = absurd is
is_fault (Err y) is = ap (λ z. Err z) is

-- bytes behind bytes that were appended
pub appends_more : {A E : Type 0} (P : List ℕ → Type 0) {Q : List ℕ → Type 0} (r : Result A E) (x : List ℕ) {y : List ℕ}
    (z a : List ℕ) → y ≡ x ++ a → OnOk r (Appends Q y z)
    → ((b : List ℕ) → Q b → P (a ++ b)) → OnOk r (Appends P x z)
appends_more P (Ok u) x z a first more both =
    record {
      bytes = a ++ more.bytes;
      spelled = both more.bytes more.spelled;
      appended = more.appended
          ∙ ap (λ l. l ++ more.bytes) first ∙ append_assoc x a more.bytes;
    }
appends_more P (Err e) x z a first more both = tt
