-- What fills the part that is gone past, and what is due behind it.
use Rattle.std.proofs.Common.{◌≡◌, ℕ, ◌+◌, ◌-◌, ◌<◌, List, [], ◌∷◌, Option, Some, None, zero, suc, arith, refl}
use Rattle.std.proofs.Common.{sym, subst}
use Rattle.std.proofs.Common.{get_or, drop}
use Rattle.serde_json.specs.Data.{Data, null}
use Rattle.gob_types.specs.Table.{Table}
use Rattle.gob_go.specs.declared.filled.Filling.{Filling}
use Rattle.gob_json_writer.specs.Machine.Holding.{FillingShows, GapsShow, no_gap, gap_then, Fills, fills_none}
use Rattle.gob_json_writer.specs.Machine.Holding.{fills_some}
use Rattle.gob_json_writer.specs.Machine.Holding.{first_gap}

-- nothing fills the part, and what was due is due then
pub record PassedTo (T : Table) (given : Option Filling) (rest : List Filling) (gaps : List ℕ) (N : ℕ → Data) (n : ℕ) :
    Type 0 where
  pub fills : Fills T given (N n)
  pub shows : GapsShow T (n + 1) rest gaps N

nothing_fills : {T : Table} (N : ℕ → Data) (n : ℕ) → N n ≡ null → Fills T None (N n)
nothing_fills {T = T} N n e = subst (Fills T None) (sym e) fills_none

-- behind the last filling
pub past_all : {T : Table} {gaps : List ℕ} {N : ℕ → Data} {n : ℕ} → GapsShow T n [] gaps N
    → PassedTo T None [] gaps N n
past_all {N = N} {n = n} (no_gap f) = record {
  fills = nothing_fills N n (f n (omega arith));
  shows = no_gap (λ m h. f m (omega arith));
}

-- before the nil of the next one
pub before_next : {T : Table} {kept : Filling} {all : List Filling} {ahead : ℕ} {gaps : List ℕ} {N : ℕ → Data} {n : ℕ}
    → 0 < ahead → GapsShow T n (kept ∷ all) (ahead ∷ gaps) N
    → PassedTo T None (kept ∷ all) ((ahead - 1) ∷ gaps) N n
before_next {T = T} {kept = kept} {ahead = ahead} {N = N} {n = n} some (gap_then {all = all} {gaps = gaps} f s g) =
    let same : n + ahead ≡ n + 1 + (ahead - 1) = omega arith in record {
      fills = nothing_fills N n (f n (omega arith) (omega arith));
      shows = gap_then (λ m h l. f m (omega arith) (omega arith))
          (subst (λ k. FillingShows T kept (N k)) same s)
          (subst (λ k. GapsShow T (k + 1) all gaps N) same g);
    }

-- at that nil
pub at_next : {T : Table} {kept : Filling} {all : List Filling} {gaps : List ℕ} {N : ℕ → Data} {n : ℕ}
    → GapsShow T n (kept ∷ all) (0 ∷ gaps) N → PassedTo T (Some kept) all gaps N n
at_next {T = T} {kept = kept} {N = N} {n = n} (gap_then {all = all} {gaps = gaps} f s g) =
    let same : n + 0 ≡ n = omega arith in record {
      fills = fills_some (subst (λ k. FillingShows T kept (N k)) same s);
      shows = subst (λ k. GapsShow T (k + 1) all gaps N) same g;
    }

-- in whichever list

pub pass_before : {T : Table} {rest : List Filling} (ahead : ℕ) (gaps : List ℕ) {N : ℕ → Data} {n : ℕ} → 0 < ahead
    → GapsShow T n rest (first_gap ahead gaps) N → PassedTo T None rest (first_gap (ahead - 1) gaps) N n
pass_before {rest = []} ahead [] some g = past_all g
pass_before {rest = []} ahead (d ∷ gaps) some g = elim g [ ]
pass_before {rest = k ∷ ks} ahead [] some g = elim g [ ]
pass_before {rest = k ∷ ks} ahead (d ∷ gaps) some g = before_next some g

pub pass_next : {T : Table} {kept : Filling} {all : List Filling} (gaps : List ℕ) {N : ℕ → Data} {n : ℕ}
    → GapsShow T n (kept ∷ all) (first_gap 0 gaps) N → PassedTo T (Some kept) all (drop 1 gaps) N n
pass_next [] g = elim g [ ]
pass_next (d ∷ gaps) g = at_next g

pub first_is : (i : ℕ) (gaps : List ℕ) → first_gap (get_or gaps i 0) (drop i gaps) ≡ drop i gaps
first_is zero [] = refl
first_is zero (g ∷ gaps) = refl
first_is (suc i) [] = refl
first_is (suc i) (g ∷ gaps) = first_is i gaps

pub drop_next : (i : ℕ) (gaps : List ℕ) → drop 1 (drop i gaps) ≡ drop (suc i) gaps
drop_next zero [] = refl
drop_next zero (g ∷ gaps) = refl
drop_next (suc i) [] = refl
drop_next (suc i) (g ∷ gaps) = drop_next i gaps
