-- The first mark that stands, found by going over the rows of a table.
use Rattle.std.proofs.Common.{◌≡◌, ℕ, ◌+◌, ◌<◌, ◌≤◌, List, [], ◌∷◌, ◌++◌, Option, Some, None, Bool, false, IsTrue}
use Rattle.std.proofs.Common.{refl, sym, subst, ap, ◌∙◌, inl, inr, arith, length, drop, take, map, get_or}
use Rattle.std.proofs.lemmas.Bool.{true≢false}
use Rattle.std.proofs.lemmas.Grind.{common_steps}
use Rattle.std.proofs.lemmas.List.{drop_more, get_or-map, length-map, length-take-le}
use Rattle.std.proofs.Math.Seq.{drop-append_seam}
use Rattle.std.specs.List.{slice_range}
use Rattle.gob_forms.specs.Forms.{FormMark, IsFirstForm, Stands, mark_in}
use Rattle.gob_forms.specs.declared.form.Form.{Form}
use Rattle.gob_forms.specs.declared.form.Mark.{Mark}

-- what stands from the place on
from_place : (rows : List Mark) (i : ℕ) (row : Mark) → i < length rows
    → drop i (map mark_in rows) ≡ mark_in (get_or rows i row) ∷ drop (i + 1) (map mark_in rows)
from_place rows i row within = drop_more (map mark_in rows) i (mark_in row) (rw length-map within)
    ∙ ap (λ m. m ∷ drop (i + 1) (map mark_in rows)) (get_or-map mark_in rows i row (mark_in row) within)

-- the mark at the place stands there
pub stands_here : (rows : List Mark) (front : List ℕ) (i : ℕ) (row : Mark) → i < length rows
    → Stands (mark_in (get_or rows i row)) front
    → ((found : Option Form) → IsFirstForm (drop i (map mark_in rows)) front found
    → IsFirstForm (map mark_in rows) front found)
    → IsFirstForm (map mark_in rows) front (Some (get_or rows i row).form)
stands_here rows front i row within stands goes_on = goes_on _
    (subst (λ left. IsFirstForm left front (Some (get_or rows i row).form)) (sym (from_place rows i row within))
    (inl (stands, refl)))

-- it doesn't, so the first is behind it
pub stands_not : (rows : List Mark) (front : List ℕ) (i : ℕ) (row : Mark) (stood : Bool) → i < length rows
    → (Stands (mark_in (get_or rows i row)) front → IsTrue stood) → stood ≡ false
    → ((found : Option Form) → IsFirstForm (drop i (map mark_in rows)) front found
    → IsFirstForm (map mark_in rows) front found)
    → (found : Option Form) → IsFirstForm (drop (i + 1) (map mark_in rows)) front found
    → IsFirstForm (map mark_in rows) front found
stands_not rows front i row stood within stands not goes_on found first = goes_on found
    (subst (λ left. IsFirstForm left front found) (sym (from_place rows i row within)) (inr (none, first)))
  where
    none : Stands (mark_in (get_or rows i row)) front → ⊥
    none s = true≢false (sym (stands s) ∙ not)

-- none stands
pub none_left : (rows : List Mark) (front : List ℕ) (i : ℕ) → length rows ≤ i
    → ((found : Option Form) → IsFirstForm (drop i (map mark_in rows)) front found
    → IsFirstForm (map mark_in rows) front found) → IsFirstForm (map mark_in rows) front None
none_left rows front i past goes_on = goes_on None (subst (λ left. IsFirstForm left front None) (sym ended) refl)
  where
    ended : drop i (map mark_in rows) ≡ []
    ended = grind (arith, common_steps)

-- what stands behind the offset
pub behind : (front rest : List ℕ) (at : ℕ) → at ≤ length front → rest ≡ slice_range front at (length front)
    → front ≡ take at front ++ rest
behind front rest at within is = grind (arith, common_steps)

-- what is left there begins with the mark
pub behind_mark : (m : FormMark) (front rest : List ℕ) → front ≡ take m.at front ++ rest → (s : Stands m front)
    → m.at ≤ length front → rest ≡ m.bytes ++ s.rest
behind_mark m front rest whole s within =
    let lead = length-take-le m.at front within in
    let left : drop m.at front ≡ rest = ap (λ n. drop n front) (sym lead)
    ∙ ap (λ l. drop (length (take m.at front)) l) whole ∙ drop-append_seam (take m.at front) rest in
    let marked : drop m.at front ≡ m.bytes ++ s.rest = ap (λ n. drop n front) (sym s.offset)
    ∙ ap (λ l. drop (length s.before) l) s.whole ∙ drop-append_seam s.before (m.bytes ++ s.rest) in
    sym left ∙ marked
