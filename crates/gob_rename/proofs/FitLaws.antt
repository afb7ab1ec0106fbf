-- Which of the words have been found to fit.
use Rattle.std.proofs.Common.{◌≡◌, ℕ, ◌+◌, ◌<◌, ◌≤◌, ◌⊎◌, inl, inr, List, length, take, Some, get_or, arith, ap, sym}
use Rattle.std.proofs.Common.{subst, ◌∙◌}
use Rattle.std.specs.Prelude.{slice_get}
use Rattle.std.proofs.Math.Nat.{eq-or-lt_of_le}
use Rattle.std.proofs.lemmas.Option.{slice_get-get_or, slice_get_within}
use Rattle.gob_types.specs.Table.{Table}
use Rattle.gob_types.proofs.PublicLaws.{some_injective}
use Rattle.gob_rename.specs.declared.rename.Rename.{Rename}
use Rattle.gob_rename.specs.declared.fault.Misfit.{Misfit}
use Rattle.gob_rename.specs.Fitting.{AllFit, Fits, IsMisfit, Misfits}
use Rattle.gob_rename.specs.Renaming.{renamed}

pub record FirstFit (rs : List Rename) (T : Table) (n : ℕ) : Type 0 where
  pub each : (k : ℕ) (r : Rename) → k < n → slice_get rs k ≡ Some r → Fits r (renamed (take k rs) T)

pub none_fit : {rs : List Rename} {T : Table} → FirstFit rs T 0
none_fit = record { each = λ k r below there. absurd (omega arith) }

pub more_fit : {rs : List Rename} {T : Table} {n : ℕ} {r : Rename} → FirstFit rs T n → slice_get rs n ≡ Some r
    → Fits r (renamed (take n rs) T) → FirstFit rs T (n + 1)
more_fit {rs = rs} {T = T} {n = n} {r = r} first here fits =
    record { each = λ k q below there. by k q there (eq-or-lt_of_le (omega arith)) }
  where
    by : (k : ℕ) (q : Rename) → slice_get rs k ≡ Some q → (k ≡ n) ⊎ (k < n) → Fits q (renamed (take k rs) T)
    by k q there (inr below) = first.each k q below there
    by k q there (inl same) =
        let one : r ≡ q = some_injective (sym here ∙ ap (λ (i : ℕ). slice_get rs i) (sym same) ∙ there) in
        subst (λ (q : Rename). Fits q (renamed (take k rs) T)) one
        (subst (λ (i : ℕ). Fits r (renamed (take i rs) T)) (sym same) fits)

pub all_fit : {rs : List Rename} {T : Table} {n : ℕ} → FirstFit rs T n → length rs ≤ n → AllFit rs T
all_fit {rs = rs} first all k r there =
    first.each k r (omega (arith, slice_get_within rs k r there, all)) there

-- and that one of them doesn't
pub misfit_at : {rs : List Rename} {T : Table} {n : ℕ} {r : Rename} {why : Misfit} → slice_get rs n ≡ Some r
    → IsMisfit r (renamed (take n rs) T) why → Misfits rs T n why
misfit_at {r = r} there is = record { rename = r; there = there; is = is }

-- ---- as a loop comes to one of them
pub next_fits : {rs : List Rename} {T U : Table} {n : ℕ} (d : Rename) → FirstFit rs T n → n < length rs
    → U ≡ renamed (take n rs) T → Fits (get_or rs n d) U → FirstFit rs T (n + 1)
next_fits {rs = rs} {T = T} {n = n} d first within e fits =
    more_fit first (slice_get-get_or rs n d within) (subst (λ (U : Table). Fits (get_or rs n d) U) e fits)

pub next_misfits : {rs : List Rename} {T U : Table} {n : ℕ} (d : Rename) (why : Misfit) → n < length rs
    → U ≡ renamed (take n rs) T → IsMisfit (get_or rs n d) U why → Misfits rs T n why
next_misfits {rs = rs} {T = T} {n = n} d why within e is =
    misfit_at (slice_get-get_or rs n d within) (subst (λ (U : Table). IsMisfit (get_or rs n d) U why) e is)
