-- Where names are declared, place by place from the last one on.
use Rattle.std.proofs.Common.{◌≡◌, ◌∙◌, ℕ, ◌+◌, ◌<◌, List, [], ◌∷◌, Bool, true, false, refl, sym, ap, subst, drop}
use Rattle.std.proofs.Common.{get_or, if◌then◌else◌, length, Bor, Some, None}
use Rattle.std.proofs.lemmas.List.{at_drop_more}
use Rattle.std.proofs.lemmas.Option.{none-some}
use Rattle.std.specs.Map.{lookup}
use Rattle.gob_go_source.specs.declared.go_type.Declaration.{Declaration}
use Rattle.gob_go_types.specs.Code.{DistinctNames, first_declared, is_name}
use Rattle.gob_go_types.specs.Names.{KnowsNames, PutsName, same_name}

-- the place of one more name, in front of those whose places are known
pub names_more : (ds : List Declaration) (n i : ℕ) (d : Declaration) (old new : List (Bor (List ℕ) × ℕ))
    → n ≡ i + 1 → i < length ds → d ≡ get_or ds i d → PutsName d i old new → KnowsNames ds n old
    → KnowsNames ds i new
names_more ds n i d old new e within at puts knows = record { each = each }
  where
    each : (w : Bor (List ℕ)) → lookup (same_name w) new ≡ first_declared i (drop i ds) w.now
    each w =
        let named = is_name d.name.now w.now in
        puts.each w ∙ ap (λ p. if named then Some i else p) (knows.each w)
        ∙ ap (λ m. if named then Some i else first_declared m (drop m ds) w.now) e
        ∙ sym (at_drop_more (λ l. first_declared i l w.now) ds i d within
        ∙ ap (λ (y : Declaration). first_declared i (y ∷ drop (i + 1) ds) w.now) (sym at))

drop-length : (ds : List Declaration) → drop (length ds) ds ≡ []
drop-length [] = refl
drop-length (d ∷ ds) = drop-length ds

-- behind all no name is declared, and none is known
pub names_none : (ds : List Declaration) (n : ℕ) (es : List (Bor (List ℕ) × ℕ)) → n ≡ length ds → es ≡ []
    → KnowsNames ds n es
names_none ds n es e empty = record { each = each }
  where
    each : (w : Bor (List ℕ)) → lookup (same_name w) es ≡ first_declared n (drop n ds) w.now
    each w =
        ap (λ l. lookup (same_name w) l) empty
        ∙ sym (ap (λ m. first_declared n (drop m ds) w.now) e
        ∙ ap (λ (l : List Declaration). first_declared n l w.now) (drop-length ds))

pub distinct_none : (ds : List Declaration) (n : ℕ) → n ≡ length ds → DistinctNames (drop n ds)
distinct_none ds n e = subst DistinctNames (sym (ap (λ m. drop m ds) e ∙ drop-length ds)) tt

-- a name that isn't declared from one place on isn't from another
none_from : (n m : ℕ) (ds : List Declaration) (w : List ℕ) → first_declared n ds w ≡ None
    → first_declared m ds w ≡ None
none_from n m [] w e = refl
none_from n m (d ∷ ds) w e = by (is_name d.name.now w) e (none_from (n + 1) (m + 1) ds w)
  where
    by : (b : Bool) → (if b then Some n else first_declared (n + 1) ds w) ≡ None
        → (first_declared (n + 1) ds w ≡ None → first_declared (m + 1) ds w ≡ None)
        → (if b then Some m else first_declared (m + 1) ds w) ≡ None
    by true f rest = absurd (none-some _ (sym f))
    by false f rest = rest f

pub distinct_more : (ds : List Declaration) (n i : ℕ) (d : Declaration) (old new : List (Bor (List ℕ) × ℕ))
    → n ≡ i + 1 → i < length ds → d ≡ get_or ds i d → PutsName d i old new → KnowsNames ds n old
    → DistinctNames (drop n ds) → DistinctNames (drop i ds)
distinct_more ds n i d old new e within at puts knows distinct =
    subst DistinctNames (sym stands)
    (none_from n 0 (drop (i + 1) ds) d.name.now none, subst DistinctNames next distinct)
  where
    next : drop n ds ≡ drop (i + 1) ds
    next = ap (λ m. drop m ds) e

    stands : drop i ds ≡ d ∷ drop (i + 1) ds
    stands =
        at_drop_more (λ (l : List Declaration). l) ds i d within
        ∙ ap (λ (y : Declaration). y ∷ drop (i + 1) ds) (sym at)

    none : first_declared n (drop (i + 1) ds) d.name.now ≡ None
    none =
        ap (λ (l : List Declaration). first_declared n l d.name.now) (sym next) ∙ sym (knows.each d.name)
        ∙ puts.absent
