-- What is so of what a handle held and of what it holds is so of the handle.
use Rattle.std.proofs.Common.{◌≡◌, subst, sym}
use Rattle.std.specs.Prelude.{Option, Some}
use Rattle.gob_c.specs.Held.{GoesOn}

pub goes_on : {A : Type 0} {held holds : Option A} {old new : A} (P : A → A → Type 0) → held ≡ Some old
    → holds ≡ Some new → P old new → GoesOn held holds P
goes_on {holds = holds} {old = old} P was is so =
    subst (λ h. GoesOn h holds P) (sym was) (subst (λ h. GoesOn (Some old) h P) (sym is) so)
