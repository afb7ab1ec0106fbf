-- The places of nils, one after another.
use Rattle.std.proofs.Common.{◌≡◌, ◌∙◌, ℕ, ◌+◌, ◌<◌, ◌≤◌, List, [], ◌∷◌, ◌++◌, length, drop, get_or, sym, ap}
use Rattle.std.proofs.Common.{append_assoc, append-nil, subst}
use Rattle.std.proofs.lemmas.List.{drop_more}
use Rattle.gob_go.specs.declared.filled.Filling.{Filling, out-Filling}
use Rattle.gob_go.proofs.IdLaws.{item_left}
use Rattle.gob_go_writer.specs.Machine.Places.{AreCloser, last_closer, then_closer, places_in}

pub next_placed : {new : List ℕ} (ps : List ℕ) (fs : List Filling) (i : ℕ) (f : Filling) → f ≡ get_or fs i f
    → i < length fs
    → places_in fs ≡ ps ++ places_in (drop i fs) → new ≡ ps ++ (out-Filling f).place ∷ []
    → places_in fs ≡ new ++ places_in (drop (i + 1) fs)
next_placed {new = new} ps fs i f is l so e =
    let rest = places_in (drop (i + 1) fs) in
    so ∙ ap (λ l. ps ++ places_in l) (item_left fs i f is l)
    ∙ sym (append_assoc ps ((out-Filling f).place ∷ []) rest) ∙ ap (λ l. l ++ rest) (sym e)

pub all_placed : {ps : List ℕ} (fs : List Filling) (i : ℕ) → drop i fs ≡ []
    → places_in fs ≡ ps ++ places_in (drop i fs) → ps ≡ places_in fs
all_placed {ps = ps} fs i none so = sym (so ∙ ap (λ l. ps ++ places_in l) none ∙ append-nil ps)

-- one more is closer
pub one_closer : {size tidy_size from to : ℕ} (ps qs : List ℕ) (i : ℕ) → i < length ps → i < length qs
    → to ≤ get_or qs i 0 → get_or qs i 0 + from ≤ get_or ps i 0 + to
    → AreCloser size tidy_size (get_or ps i 0 + 1) (get_or qs i 0 + 1) (drop (i + 1) ps) (drop (i + 1) qs)
    → AreCloser size tidy_size from to (drop i ps) (drop i qs)
one_closer {size = size} {tidy_size = tidy_size} {from = from} {to = to} ps qs i l k low near h =
    subst (λ x. AreCloser size tidy_size from to x (drop i qs)) (sym (drop_more ps i 0 l))
    (subst (λ y. AreCloser size tidy_size from to (get_or ps i 0 ∷ drop (i + 1) ps) y) (sym (drop_more qs i 0 k))
    (then_closer low near h))

pub all_closer : {size tidy_size from to : ℕ} (ps qs : List ℕ) (i : ℕ) → drop i ps ≡ [] → drop i qs ≡ []
    → to ≤ tidy_size → tidy_size + from ≤ size + to → AreCloser size tidy_size from to (drop i ps) (drop i qs)
all_closer {size = size} {tidy_size = tidy_size} {from = from} {to = to} ps qs i none end low near =
    subst (λ x. AreCloser size tidy_size from to x (drop i qs)) (sym none)
    (subst (λ y. AreCloser size tidy_size from to [] y) (sym end) (last_closer low near))
