-- A filled value shows one JSON.
use Rattle.std.proofs.Common.{◌≡◌, ◌∙◌, ℕ, zero, suc, ◌+◌, ◌<◌, ◌≤◌, ◌⊎◌, inl, inr, List, arith, refl, sym, ap, subst}
use Rattle.serde_json.specs.Data.{Data}
use Rattle.gob_types.specs.declared.id.TypeId.{TypeId}
use Rattle.gob_types.specs.Table.{Table}
use Rattle.gob_value.specs.Tree.{Tree}
use Rattle.gob_value.proofs.PublicLaws.{one_top}
use Rattle.gob_read.specs.declared.builder.Stores.TheVariants.{Parts}
use Rattle.gob_read.proofs.Grammar.HeldLaws.{held_once}
use Rattle.gob_json_writer.specs.NilsJson.{value_json_with, interface_json}
use Rattle.gob_filled.specs.Filled.{Filled, Fillings}
use Rattle.gob_json_writer.specs.FilledJson.{FilledShows, filled_shows, FillingsShow, none_left, then_shown}

pub same_nils : {M N : ℕ → Data} → ((n : ℕ) → M n ≡ N n) → M ≡ N
same_nils h = λ i n. h n i

compared : (m k : ℕ) → (m < k) ⊎ ((m ≡ k) ⊎ (k < m))
compared zero zero = inr (inl refl)
compared zero (suc k) = inl (omega arith)
compared (suc m) zero = inr (inr (omega arith))
compared (suc m) (suc k) = elim (compared m k) [
  | inl h ↦ inl (omega (arith, h))
  | inr e ↦ elim e [ inl h ↦ inr (inl (ap suc h)) | inr h ↦ inr (inr (omega (arith, h))) ]
]

mutual
  pub shown_once : {T : Table} {t : TypeId} {w : Filled} {v other : Tree} {M N : ℕ → Data} → FilledShows T t w v M
      → FilledShows T t w other N → (v ≡ other) × ((n : ℕ) → M n ≡ N n)
  shown_once {T = T} {t = t} {N = N} (filled_shows {fs = fs} s f) (filled_shows z g) =
      (refl, λ n. fillings_once f (subst (λ b. FillingsShow T t b 0 0 fs N) (one_top z s) g) n (omega arith))

  fillings_once : {T : Table} {t : TypeId} {b : List ℕ} {from number : ℕ} {fs : Fillings} {M N : ℕ → Data}
      → FillingsShow T t b from number fs M → FillingsShow T t b from number fs N
      → (n : ℕ) → number ≤ n → M n ≡ N n
  fillings_once (none_left f) (none_left g) n h = f n h ∙ sym (g n h)
  fillings_once {T = T} {t = t} {b = b} {M = M} {N = N}
      (then_shown {u = u} {s = s} {place = place} {n = k} {raws = r} {fs = fs} {v = v} {M = K} a c p l nulls shows
      is more)
      (then_shown {n = j} {raws = q} {v = y} {M = O} a' c' p' l' nulls' shows' is' more') n h =
      let same : j ≡ k = held_once Parts (record { parts = j; raws = q; partial = p'; held_is = refl })
      (record { parts = k; raws = r; partial = p; held_is = refl }) in
      let value = shown_once shows shows' in
      let json = ap (λ v. interface_json s u (value_json_with K T u 0 v)) value.0
      ∙ ap (λ N. interface_json s u (value_json_with N T u 0 y)) (same_nils value.1) in
      elim (compared n k) [
        | inl below ↦ nulls n h below ∙ sym (nulls' n h (omega (arith, below, same)))
        | inr e ↦ elim e [
          | inl here ↦ ap M here ∙ is ∙ json ∙ sym is' ∙ ap N (same ∙ sym here)
          | inr above ↦ fillings_once more
              (subst (λ i. FillingsShow T t b place (i + 1) fs N) same more') n (omega (arith, above))
        ]
      ]
