-- Each id of a table has one shape. The trait `Shapes` wants the proof, so it stands here.
use Rattle.std.specs.Prelude.{◌≡◌, Bool, true, false, [], ◌∷◌, Some, None, ◌==◌, if◌then◌else◌}
use Rattle.std.proofs.Common.{refl, sym, subst}
use Rattle.std.proofs.lemmas.Option.{none-some}
use Rattle.gob_types.specs.declared.id.TypeId.{TypeId}
use Rattle.gob_types.specs.Table.{Table, shape_of, HasDistinctIds}
use Rattle.gob_types.specs.Defined.{Defined, types, without, first_entries}

-- an id that isn't there isn't there without some entries
without-none : (t u : TypeId) (T : Table) → shape_of T u ≡ None → shape_of (without t T) u ≡ None
without-none t u [] e = e
without-none t u (entry ∷ T) e = by (entry.0.0 == t.0) (entry.0.0 == u.0) refl e (without-none t u T)
  where
    by : (b d : Bool) → (entry.0.0 == u.0) ≡ d → (if d then Some entry.1 else shape_of T u) ≡ None
        → (shape_of T u ≡ None → shape_of (without t T) u ≡ None)
        → shape_of (if b then without t T else entry ∷ without t T) u ≡ None
    by b true f e rest = absurd (none-some _ (sym e))
    by true false f e rest = rest e
    by false false f e rest = subst (λ c. (if c then Some entry.1 else shape_of (without t T) u) ≡ None) (sym f)
        (rest e)

without-gone : (t : TypeId) (T : Table) → shape_of (without t T) t ≡ None
without-gone t [] = refl
without-gone t (entry ∷ T) = by (entry.0.0 == t.0) refl (without-gone t T)
  where
    by : (b : Bool) → (entry.0.0 == t.0) ≡ b → shape_of (without t T) t ≡ None
        → shape_of (if b then without t T else entry ∷ without t T) t ≡ None
    by true f rest = rest
    by false f rest = subst (λ c. (if c then Some entry.1 else shape_of (without t T) t) ≡ None) (sym f) rest

without-distinct : (t : TypeId) (T : Table) → HasDistinctIds T → HasDistinctIds (without t T)
without-distinct t [] d = d
without-distinct t (entry ∷ T) d = by (entry.0.0 == t.0) (without-distinct t T d.1)
  where
    by : (b : Bool) → HasDistinctIds (without t T) → HasDistinctIds (if b then without t T else entry ∷ without t T)
    by true rest = rest
    by false rest = (without-none t entry.0 T d.0, rest)

pub first_entries-distinct : (T : Table) → HasDistinctIds (first_entries T)
first_entries-distinct [] = tt
first_entries-distinct (entry ∷ T) = (
  without-gone entry.0 (first_entries T),
  without-distinct entry.0 (first_entries T)
      (first_entries-distinct T),
)

-- each id of the table has one shape
pub distinct-types : (d : Defined) → HasDistinctIds (types d)
distinct-types d = first_entries-distinct d.entries
