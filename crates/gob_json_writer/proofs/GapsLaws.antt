-- The gaps of the fillings so far, and what nils show by all of them.
use Rattle.std.proofs.Common.{◌≡◌, ◌∙◌, ℕ, ◌+◌, ◌-◌, List, [], ◌∷◌, ◌++◌, append_assoc, append-nil, arith, refl, sym}
use Rattle.std.proofs.Common.{ap, subst, take}
use Rattle.serde_json.specs.Data.{Data}
use Rattle.gob_types.specs.declared.id.TypeId.{TypeId}
use Rattle.gob_types.specs.Table.{Table}
use Rattle.gob_read.specs.Held.{IsHeld}
use Rattle.gob_read.specs.declared.builder.Stores.TheVariants.{Parts}
use Rattle.gob_read.proofs.Grammar.HeldLaws.{held_once}
use Rattle.gob_filled.specs.Filled.{Fillings}
use Rattle.gob_go.specs.Meaning.{AreFillings, no_fillings, filling_then}
use Rattle.gob_go.specs.declared.filled.Filling.{Filling, out-Filling}
use Rattle.gob_json_writer.specs.FilledJson.{FillingsShow, none_left, then_shown}
use Rattle.gob_json_writer.specs.Gaps.{AreGaps, end_of_gaps, gap_before}
use Rattle.gob_json_writer.specs.Machine.Holding.{FillingShows, filling_shows, GapsShow, no_gap, gap_then}

-- ---- filling by filling

-- with those of the fillings that are left, behind so many parts, they are the gaps of all
abbrev pub GapsSoFar : (T : Table) (t : TypeId) (b : List ℕ) (number : ℕ) (rest all : List Filling) (gaps : List ℕ)
    → Type 0
GapsSoFar T t b number rest all gaps = (gs : List ℕ) → AreGaps T t b number rest gs → AreGaps T t b 0 all (gaps ++ gs)

pub gaps_on : {T : Table} {t : TypeId} {b : List ℕ} {number begun behind : ℕ} {kept : Filling}
    {rest all : List Filling} {new : List ℕ} (gap : ℕ) (gaps : List ℕ) → GapsSoFar T t b number (kept ∷ rest) all gaps
    → IsHeld T t Parts (take (out-Filling kept).place b) begun → begun ≡ number + gap → behind ≡ begun + 1
    → new ≡ gaps ++ gap ∷ [] → GapsSoFar T t b behind rest all new
gaps_on {T = T} {t = t} {b = b} {number = number} {kept = kept} {rest = rest} {all = all} gap gaps so h e n l = λ gs g.
    subst (AreGaps T t b 0 all) (sym (append_assoc gaps (gap ∷ []) gs) ∙ ap (λ l. l ++ gs) (sym l))
    (so (gap ∷ gs) (gap_before (subst (λ k. IsHeld T t Parts (take (out-Filling kept).place b) k) e h)
    (subst (λ k. AreGaps T t b k rest gs) (n ∙ ap (λ k. k + 1) e) g)))

pub gaps_end : {T : Table} {t : TypeId} {b : List ℕ} {number : ℕ} {all : List Filling} {gaps : List ℕ}
    → GapsSoFar T t b number [] all gaps → AreGaps T t b 0 all gaps
gaps_end {T = T} {t = t} {b = b} {all = all} {gaps = gaps} so =
    subst (AreGaps T t b 0 all) (append-nil gaps) (so [] end_of_gaps)

-- ---- what nils show
pub gaps_show : {T : Table} {t : TypeId} {b : List ℕ} {from number : ℕ} {rest : List Filling} {gaps : List ℕ}
    {fs : Fillings} {N : ℕ → Data} → AreGaps T t b number rest gaps → AreFillings T rest fs
    → FillingsShow T t b from number fs N → GapsShow T number rest gaps N
gaps_show end_of_gaps no_fillings (none_left f) = no_gap f
gaps_show {T = T} {t = t} {b = b} {from = from} {N = N}
    (gap_before {number = number} {gap = gap} {kept = kept} {all = all} {gaps = gaps} h gs)
    (filling_then {w = w} {fs = fs} m a)
    (then_shown {n = n} {raws = raws} {v = v} {M = M} p q partial le nulls s is more) =
    let same : n ≡ number + gap = held_once Parts (record {
      parts = n;
      raws = raws;
      partial = partial;
      held_is = refl;
    }) h in
    let shows : FillingShows T kept (N n) = subst (FillingShows T kept) (sym is) (filling_shows m s) in
    gap_then (λ k l c. nulls k l (omega (arith, c, same)))
    (subst (λ n. FillingShows T kept (N n)) same shows)
    (gaps_show {from = (out-Filling kept).place} gs a
    (subst (λ n. FillingsShow T t b (out-Filling kept).place (n + 1) fs N) same more))
