-- The types that a table defines, read by their ids.
use Rattle.std.proofs.Common.{◌≡◌, ◌<◌, ◌==◌, ℕ, zero, suc, ◌+◌, ◌≤◌, ◌↔◌, IsTrue, Bool, true, false, cond, List, []}
use Rattle.std.proofs.Common.{◌∷◌}
use Rattle.std.proofs.Common.{◌++◌, Some, get_or, refl, sym, ap, ◌∙◌, subst, map, take, length, arith}
use Rattle.std.proofs.Common.{true≢false, append_assoc, append-nil, eq-eqb}
use Rattle.std.specs.Prelude.{slice_get}
use Rattle.std.proofs.lemmas.Bool.Decides.{Decides-eqb}
use Rattle.std.proofs.lemmas.List.{map_more, take_all}
use Rattle.std.proofs.Math.ListN.{length-map}
use Rattle.std.proofs.lemmas.Option.{slice_get-get_or, slice_get_within, get_or_from_slice_get}
use Rattle.gob_types.specs.declared.id.TypeId.{TypeId}
use Rattle.gob_types.specs.declared.kind.Shape.{Shape}
use Rattle.gob_types.specs.Base.{base_table}
use Rattle.gob_types.specs.Definable.{IsDefinable}
use Rattle.gob_types.specs.Defined.{AreDefinitions, IsTable}
use Rattle.gob_types.specs.Table.{HasDistinctIds, Table, shape_of}
use Rattle.gob_types.proofs.PublicLaws.{some_injective}
use Rattle.gob_types.proofs.FirstLaws.{FirstAre, more_first}
use Rattle.gob_rename.specs.declared.rename.Rename.{Rename}
use Rattle.gob_rename.specs.Fitting.{Defines}
use Rattle.gob_rename.specs.Renaming.{definitions_of, ids_defined, renamed, renamed_entry, renamed_shape}

-- what stands behind others is found by its id, where ids are distinct
found_behind : (B D : Table) (number : ℕ) (e : TypeId × Shape) → HasDistinctIds (B ++ D)
    → slice_get D number ≡ Some e → shape_of (B ++ D) e.0 ≡ Some e.1
found_behind [] [] number e distinct there = absurd (cc there)
found_behind [] (x ∷ D) zero e distinct there =
    let same = some_injective there in
    ap (λ (y : TypeId × Shape). cond (x.0.0 == y.0.0) (Some x.1) (shape_of D y.0)) (sym same)
    ∙ ap (λ b. cond b (Some x.1) (shape_of D x.0)) (eq-eqb x.0.0 x.0.0 refl)
    ∙ ap (λ (y : TypeId × Shape). Some y.1) same
found_behind [] (x ∷ D) (suc number) e distinct there =
    apart (x.0.0 == e.0.0) refl (found_behind [] D number e distinct.1 there)
  where
    apart : (b : Bool) → (x.0.0 == e.0.0) ≡ b → shape_of D e.0 ≡ Some e.1
        → cond (x.0.0 == e.0.0) (Some x.1) (shape_of D e.0) ≡ Some e.1
    apart true f rest =
        let same : x.0.0 ≡ e.0.0 = (Decides-eqb x.0.0 e.0.0).0 f in
        let id : x.0 ≡ e.0 = ap (λ (n : ℕ). record { 0 = n }) same in
        absurd (cc (sym distinct.0 ∙ ap (λ (t : TypeId). shape_of D t) id ∙ rest))
    apart false f rest = ap (λ b. cond b (Some x.1) (shape_of D e.0)) f ∙ rest
found_behind (x ∷ B) D number e distinct there =
    apart (x.0.0 == e.0.0) refl (found_behind B D number e distinct.1 there)
  where
    apart : (b : Bool) → (x.0.0 == e.0.0) ≡ b → shape_of (B ++ D) e.0 ≡ Some e.1
        → cond (x.0.0 == e.0.0) (Some x.1) (shape_of (B ++ D) e.0) ≡ Some e.1
    apart true f rest =
        let same : x.0.0 ≡ e.0.0 = (Decides-eqb x.0.0 e.0.0).0 f in
        let id : x.0 ≡ e.0 = ap (λ (n : ℕ). record { 0 = n }) same in
        absurd (cc (sym distinct.0 ∙ ap (λ (t : TypeId). shape_of (B ++ D) t) id ∙ rest))
    apart false f rest = ap (λ b. cond b (Some x.1) (shape_of (B ++ D) e.0)) f ∙ rest

-- an entry of this id
record HasEntry (D : Table) (number : ℕ) (id : TypeId) : Type 0 where
  pub shape : Shape
  pub there : slice_get D number ≡ Some (id, shape)

entry_of : (D : Table) (number : ℕ) (id : TypeId) → slice_get (map (λ e. e.0) D) number ≡ Some id
    → HasEntry D number id
entry_of [] number id e = absurd (cc e)
entry_of (x ∷ D) zero id e =
    record { shape = x.1; there = ap (λ (t : TypeId). Some (t, x.1)) (some_injective e) }
entry_of (x ∷ D) (suc number) id e = let h = entry_of D number id e in record { shape = h.shape; there = h.there }

definable_of : (D : Table) (number : ℕ) (e : TypeId × Shape) → AreDefinitions D → slice_get D number ≡ Some e
    → IsDefinable e.1
definable_of [] number e d there = absurd (cc there)
definable_of (x ∷ D) zero e d there =
    subst (λ (y : TypeId × Shape). IsDefinable y.1) (some_injective there) d.1
definable_of (x ∷ D) (suc number) e d there = definable_of D number e d.2 there

-- the type of one of the ids
pub record IsDefinedAt (T : Table) (number : ℕ) (id : TypeId) : Type 0 where
  pub shape : Shape
  pub there : slice_get (definitions_of T) number ≡ Some (id, shape)
  pub found : shape_of T id ≡ Some shape
  pub definable : IsDefinable shape

pub defined_at : {T : Table} {ids : List TypeId} {number : ℕ} {id : TypeId} → IsTable T → ids ≡ ids_defined T
    → slice_get ids number ≡ Some id → IsDefinedAt T number id
defined_at {T = T} {ids = ids} {number = number} {id = id} k e there =
    let D = k.definitions in
    let same : definitions_of T ≡ D = ap (λ (T : Table). definitions_of T) k.behind_base in
    let h = entry_of (definitions_of T) number id (ap (λ (l : List TypeId). slice_get l number) (sym e) ∙ there) in
    let in_definitions : slice_get D number ≡ Some (id, h.shape) =
    ap (λ (D : Table). slice_get D number) (sym same) ∙ h.there in
    record {
      shape = h.shape;
      there = h.there;
      found = ap (λ (T : Table). shape_of T id) k.behind_base
          ∙ found_behind base_table D number (id, h.shape) (subst HasDistinctIds k.behind_base k.distinct)
          in_definitions;
      definable = definable_of D number (id, h.shape) k.definable in_definitions;
    }

pub defined_within : {T : Table} {ids : List TypeId} {number : ℕ} (d : TypeId) → IsTable T → ids ≡ ids_defined T
    → number < length ids → IsDefinedAt T number (get_or ids number d)
defined_within {ids = ids} {number = number} d k e within = defined_at k e (slice_get-get_or ids number d within)

-- ---- a search among them
pub none_more_of : {P : Shape → Type 0} {T : Table} {number : ℕ} {id : TypeId} {answer : Bool}
    → FirstAre (λ (e : TypeId × Shape). ¬ P e.1) (definitions_of T) number → IsDefinedAt T number id
    → ((s : Shape) → shape_of T id ≡ Some s → IsTrue answer ↔ P s) → answer ≡ false
    → FirstAre (λ (e : TypeId × Shape). ¬ P e.1) (definitions_of T) (number + 1)
none_more_of first h judged e =
    more_first first h.there (λ holds. true≢false (sym ((judged h.shape h.found).1 holds) ∙ e))

pub one_of : {P : Shape → Type 0} {T : Table} {id : TypeId} {answer : Bool} (number : ℕ) → IsDefinedAt T number id
    → ((s : Shape) → shape_of T id ≡ Some s → IsTrue answer ↔ P s) → answer ≡ true → {b : Bool} → b ≡ true
    → IsTrue b ↔ Defines P T
one_of {id = id} number h judged told e = (
  λ _. record {
    number = number;
    entry = (id, h.shape);
    there = h.there;
    holds = (judged h.shape h.found).0 told;
  },
  λ _. e,
)

pub none_of : {P : Shape → Type 0} {T : Table} {ids : List TypeId} (number : ℕ)
    → FirstAre (λ (e : TypeId × Shape). ¬ P e.1) (definitions_of T) number → ids ≡ ids_defined T
    → length ids ≤ number → {b : Bool} → b ≡ false → IsTrue b ↔ Defines P T
none_of {T = T} number first e all f = (
  λ t. absurd (true≢false (sym t ∙ f)),
  λ h. absurd (first.each h.number h.entry (omega (
    arith,
    slice_get_within (definitions_of T) h.number h.entry h.there,
    all,
    ap length e ∙ length-map (definitions_of T) (λ (e : TypeId × Shape). e.0),
  )) h.there h.holds),
)

-- ---- the renamed table, as it grows
pub first_renamed : (rs : List Rename) (T : Table) → base_table
    ≡ base_table ++ map (λ entry. renamed_entry rs entry) (take 0 (definitions_of T))
first_renamed rs T = sym (append-nil base_table)

pub next_renamed : {T U V : Table} {number : ℕ} {id : TypeId} (rs : List Rename)
    → U ≡ base_table ++ map (λ entry. renamed_entry rs entry) (take number (definitions_of T))
    → IsDefinedAt T number id
    → ((s : Shape) → shape_of T id ≡ Some s → V ≡ U ++ (id, renamed_shape rs s) ∷ [])
    → V ≡ base_table ++ map (λ entry. renamed_entry rs entry) (take (number + 1) (definitions_of T))
next_renamed {T = T} {U = U} {number = number} {id = id} rs e h next =
    let D = definitions_of T in
    let there : TypeId × Shape = (id, h.shape) in
    next h.shape h.found ∙ ap (λ (U : Table). U ++ (id, renamed_shape rs h.shape) ∷ []) e
    ∙ append_assoc base_table (map (λ entry. renamed_entry rs entry) (take number D))
    ((id, renamed_shape rs h.shape) ∷ [])
    ∙ ap (λ (l : Table). base_table ++ l) (ap (λ (x : TypeId × Shape).
    map (λ entry. renamed_entry rs entry) (take number D) ++ renamed_entry rs x ∷ [])
    (sym (get_or_from_slice_get D number there there h.there))
    ∙ sym (map_more (λ entry. renamed_entry rs entry) D number there (slice_get_within D number there h.there)))

pub all_renamed : {U : Table} {ids : List TypeId} (T : Table) (rs : List Rename) (number : ℕ)
    → U ≡ base_table ++ map (λ entry. renamed_entry rs entry) (take number (definitions_of T)) → ids ≡ ids_defined T
    → length ids ≤ number → U ≡ renamed rs T
all_renamed T rs number e same all =
    e ∙ ap (λ (D : Table). base_table ++ map (λ entry. renamed_entry rs entry) D)
    (take_all number (definitions_of T) (omega (
      arith,
      all,
      ap length same ∙ length-map (definitions_of T) (λ (e : TypeId × Shape). e.0),
    )))

-- it has the same ids
pub ids_renamed : (rs : List Rename) (T : Table) → ids_defined T ≡ ids_defined (renamed rs T)
ids_renamed rs T = by (definitions_of T)
  where
    by : (D : Table) → map (λ (e : TypeId × Shape). e.0) D
        ≡ map (λ (e : TypeId × Shape). e.0) (map (λ entry. renamed_entry rs entry) D)
    by [] = refl
    by (x ∷ D) = ap (λ (l : List TypeId). x.0 ∷ l) (by D)

-- a description can give its shape
pub only_shape : {T : Table} {number : ℕ} {id : TypeId} → IsDefinedAt T number id
    → (s : Shape) → shape_of T id ≡ Some s → IsDefinable s
only_shape h s e = subst IsDefinable (some_injective (sym h.found ∙ e)) h.definable
