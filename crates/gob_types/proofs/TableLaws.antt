-- Tables whose ids are distinct, and how a map's look-ups and insertions read them.
use Rattle.std.proofs.Common.{◌≡◌, ℕ, suc, ◌≢◌, ◌⊎◌, inl, inr, Bool, true, false, cond, List, [], ◌∷◌, ◌++◌, ◌≤◌}
use Rattle.std.proofs.Common.{Contains, length, length-append, append_assoc, Some, None, arith, refl, sym, ap, ◌∙◌}
use Rattle.std.proofs.Common.{subst}
use Rattle.std.specs.Prelude.{◌==◌, slice_get}
use Rattle.std.specs.Map.{lookup}
use Rattle.std.specs.Cmp.{nat_eq_equiv}
use Rattle.std.proofs.lemmas.Bool.Decides.{eqb_tells}
use Rattle.std.proofs.lemmas.Option.{none-some}
use Rattle.gob_types.specs.declared.id.TypeId.{TypeId}
use Rattle.gob_types.specs.declared.kind.Shape.{Shape}
use Rattle.gob_types.specs.Table.{Table, shape_of, IsDefined, HasDistinctIds, Extends}
use Rattle.gob_types.specs.Base.{base_table}
use Rattle.gob_types.specs.Definable.{IsOwnId, IsDefinable}
use Rattle.gob_types.specs.Defined.{Defined, types, without, first_entries, IsTable, AreDefinitions, definition_count}
use Rattle.gob_types.specs.Machine.Distinct.{distinct-types}
use Rattle.gob_types.specs.Machine.Entered.{same_id, with_entry}
use Rattle.gob_types.proofs.GrowthLaws.{some_injective, shape_of-append_new}
use Rattle.gob_types.proofs.FirstLaws.{FirstAre, all_first, contains_read}

-- an id that isn't there is not missed
without-same : (t : TypeId) (T : Table) → shape_of T t ≡ None → without t T ≡ T
without-same t [] e = refl
without-same t (entry ∷ T) e = by (entry.0.0 == t.0) e (without-same t T)
  where
    by : (b : Bool) → cond b (Some entry.1) (shape_of T t) ≡ None → (shape_of T t ≡ None → without t T ≡ T)
        → cond b (without t T) (entry ∷ without t T) ≡ entry ∷ T
    by true e rest = absurd (none-some _ (sym e))
    by false e rest = ap (λ U. entry ∷ U) (rest e)

-- where the ids are distinct, the first entries are all
pub first_entries-same : (T : Table) → HasDistinctIds T → first_entries T ≡ T
first_entries-same [] d = refl
first_entries-same (entry ∷ T) d = ap (λ U. entry ∷ without entry.0 U) (first_entries-same T d.1)
    ∙ ap (λ U. entry ∷ U) (without-same entry.0 T d.0)

-- the types of a table are its entries
pub types_are : {d : Defined} {T : Table} {n : ℕ} → record { entries = T; most = n } ≡ d → IsTable T → types d ≡ T
types_are {T = T} e table = ap types (sym e) ∙ first_entries-same T table.distinct

-- a map finds what the table means
pub lookup-shape_of : (T : Table) (t : TypeId) → lookup (same_id t) T ≡ shape_of T t
lookup-shape_of [] t = refl
lookup-shape_of (entry ∷ T) t = ap (λ b. cond b (Some entry.1) (lookup (same_id t) T)) (nat_eq_equiv.symm t.0 entry.0.0)
    ∙ ap (λ o. cond (entry.0.0 == t.0) (Some entry.1) o) (lookup-shape_of T t)

-- an entry of a new id goes last
pub with_entry-new : (T : Table) (t : TypeId) (s : Shape) → shape_of T t ≡ None → with_entry T t s ≡ T ++ (t, s) ∷ []
with_entry-new [] t s e = refl
with_entry-new (entry ∷ T) t s e = ap (λ b. cond b ((entry.0, s) ∷ T) (entry ∷ with_entry T t s))
    (nat_eq_equiv.symm t.0 entry.0.0) ∙ by (entry.0.0 == t.0) e (with_entry-new T t s)
  where
    by : (b : Bool) → cond b (Some entry.1) (shape_of T t) ≡ None → (shape_of T t ≡ None → with_entry T t s ≡ T
        ++ (t, s) ∷ []) → cond b ((entry.0, s) ∷ T) (entry ∷ with_entry T t s) ≡ entry ∷ T ++ (t, s) ∷ []
    by true e rest = absurd (none-some _ (sym e))
    by false e rest = ap (λ U. entry ∷ U) (rest e)

pub distinct-push : (T : Table) (t : TypeId) (s : Shape) → HasDistinctIds T → shape_of T t ≡ None
    → HasDistinctIds (T ++ (t, s) ∷ [])
distinct-push [] t s d e = (refl, tt)
distinct-push (entry ∷ T) t s d e = by (entry.0.0 == t.0) refl e (distinct-push T t s d.1)
  where
    by : (b : Bool) → (entry.0.0 == t.0) ≡ b → cond b (Some entry.1) (shape_of T t) ≡ None
        → (shape_of T t ≡ None → HasDistinctIds (T ++ (t, s) ∷ [])) → HasDistinctIds (entry ∷ T ++ (t, s) ∷ [])
    by true f e rest = absurd (none-some _ (sym e))
    by false f e rest = (
      shape_of-append_new T ((t, s) ∷ []) entry.0 d.0
          ∙ ap (λ b. cond b (Some s) None) (nat_eq_equiv.symm t.0 entry.0.0 ∙ f),
      rest e,
    )

definitions-push : (T : Table) (t : TypeId) (s : Shape) → AreDefinitions T → IsOwnId t → IsDefinable s
    → AreDefinitions (T ++ (t, s) ∷ [])
definitions-push [] t s a own can = (own, can, tt)
definitions-push (entry ∷ T) t s a own can = (a.0, a.1, definitions-push T t s a.2 own can)

-- a definition of a new id
pub table-push : {T : Table} (t : TypeId) (s : Shape) → IsTable T → IsOwnId t → IsDefinable s → shape_of T t ≡ None
    → IsTable (T ++ (t, s) ∷ [])
table-push {T = T} t s table own can new = record {
  definitions = table.definitions ++ (t, s) ∷ [];
  behind_base = ap (λ U. U ++ (t, s) ∷ []) table.behind_base ∙ append_assoc base_table table.definitions ((t, s) ∷ []);
  definable = definitions-push table.definitions t s table.definable own can;
  distinct = distinct-push T t s table.distinct new;
}

-- the base table, with no definition
pub base_is_table : IsTable base_table
base_is_table = record { definitions = []; behind_base = refl; definable = tt; distinct = base_distinct }
  where
    base_distinct : HasDistinctIds base_table
    base_distinct = (
      refl,
      (
        refl,
        (
          refl,
          (
            refl,
            (refl, (refl, (refl, (refl, (refl, (refl, (refl, (refl, (refl, (refl, (refl, (refl, (refl, tt))))))))))))),
          ),
        ),
      ),
    )

-- the count of the definitions
pub definition_count-behind : {T : Table} (table : IsTable T) → definition_count T ≡ length table.definitions
definition_count-behind table = ap definition_count table.behind_base
    ∙ omega (arith, length-append base_table table.definitions)

-- the shape comes from the first table or from the second
shape_of-append_cases : (T U : Table) (t : TypeId) (s : Shape) → shape_of (T ++ U) t ≡ Some s → (shape_of T t ≡ Some s)
    ⊎ (shape_of U t ≡ Some s)
shape_of-append_cases [] U t s e = inr e
shape_of-append_cases (entry ∷ T) U t s e = by (entry.0.0 == t.0) e (shape_of-append_cases T U t s)
  where
    by : (b : Bool) → cond b (Some entry.1) (shape_of (T ++ U) t) ≡ Some s
        → (shape_of (T ++ U) t ≡ Some s → (shape_of T t ≡ Some s) ⊎ (shape_of U t ≡ Some s))
        → (cond b (Some entry.1) (shape_of T t) ≡ Some s) ⊎ (shape_of U t ≡ Some s)
    by true e rest = inl e
    by false e rest = rest e

definition_of : (T : Table) (t : TypeId) (s : Shape) → AreDefinitions T → shape_of T t ≡ Some s → IsOwnId t
    × IsDefinable s
definition_of [] t s a e = absurd (none-some _ e)
definition_of (entry ∷ T) t s a e = by (eqb_tells entry.0.0 t.0) (definition_of T t s a.2)
  where
    by : ((entry.0.0 == t.0) ≡ true) × (entry.0.0 ≡ t.0) ⊎ ((entry.0.0 == t.0) ≡ false) × (entry.0.0 ≢ t.0)
        → (shape_of T t ≡ Some s → IsOwnId t × IsDefinable s) → IsOwnId t × IsDefinable s
    by (inl h) rest =
        let same : entry.1 ≡ s = some_injective (sym (ap (λ b. cond b (Some entry.1) (shape_of T t)) h.0) ∙ e) in
        let id : entry.0 ≡ t = ap (λ (n : ℕ). let u : TypeId = record { 0 = n } in u) h.1 in
        (subst IsOwnId id a.0, subst IsDefinable same a.1)
    by (inr h) rest = rest (sym (ap (λ b. cond b (Some entry.1) (shape_of T t)) h.0) ∙ e)

-- what a type of a table is: one of the base table, or a definition that a stream can make
pub shape_of-table : {T : Table} (table : IsTable T) (t : TypeId) (s : Shape) → shape_of T t ≡ Some s
    → (shape_of base_table t ≡ Some s) ⊎ (IsOwnId t × IsDefinable s)
shape_of-table table t s e =
    by (shape_of-append_cases base_table table.definitions t s (subst (λ U. shape_of U t ≡ Some s) table.behind_base e))
  where
    by : (shape_of base_table t ≡ Some s) ⊎ (shape_of table.definitions t ≡ Some s) → (shape_of base_table t ≡ Some s)
        ⊎ (IsOwnId t × IsDefinable s)
    by (inl h) = inl h
    by (inr h) = inr (definition_of table.definitions t s table.definable h)

-- a table with one more definition extends the table
pub define_extends : (d e : Defined) (t : TypeId) (s : Shape) → types e ≡ types d ++ (t, s) ∷ []
    → Extends (types d) (types e)
define_extends d e t s grown = record { more = (t, s) ∷ []; grown = grown; distinct = distinct-types e }

-- a type that is defined has an entry
pub defined_read : (T : Table) (t : TypeId) (s : Shape) → shape_of T t ≡ Some s → (k : ℕ) × (entry : TypeId × Shape)
    × (slice_get T k ≡ Some entry) × (entry.0 ≡ t)
defined_read [] t s e = absurd (none-some _ e)
defined_read (entry ∷ T) t s e = by (eqb_tells entry.0.0 t.0) (defined_read T t s)
  where
    by : ((entry.0.0 == t.0) ≡ true) × (entry.0.0 ≡ t.0) ⊎ ((entry.0.0 == t.0) ≡ false) × (entry.0.0 ≢ t.0)
        → (shape_of T t ≡ Some s → (k : ℕ) × (other : TypeId × Shape) × (slice_get T k ≡ Some other) × (other.0 ≡ t))
        → (k : ℕ) × (other : TypeId × Shape) × (slice_get (entry ∷ T) k ≡ Some other) × (other.0 ≡ t)
    by (inl h) rest = (0, entry, refl, ap (λ (n : ℕ). let u : TypeId = record { 0 = n } in u) h.1)
    by (inr h) rest =
        let r = rest (sym (ap (λ b. cond b (Some entry.1) (shape_of T t)) h.0) ∙ e) in
        (suc r.0, r.1, r.2, r.3)

-- where the ids of the entries are there, the defined ones are
pub ids_read : {T : Table} {n : ℕ} (ids : List TypeId) → FirstAre (λ (entry : TypeId × Shape). Contains ids entry.0) T n
    → length T ≤ n → (t : TypeId) → IsDefined T t → Contains ids t
ids_read {T = T} ids first whole t d =
    let r = defined_read T t d.0 d.1 in
    subst (Contains ids) r.3 (all_first first whole (contains_read T r.0 r.1 r.2))
