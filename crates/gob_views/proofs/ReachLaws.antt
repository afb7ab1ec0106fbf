-- The walk through the types that a type leads to, up to an interface.
use Rattle.std.proofs.Common.{◌≡◌, ◌⊎◌, inl, inr, ℕ, ◌+◌, ◌≤◌, List, [], ◌∷◌, ◌++◌, length, Contains, Some, None}
use Rattle.std.proofs.Common.{arith, refl, sym, ap, ◌∙◌, subst, append_assoc}
use Rattle.std.proofs.lemmas.Option.{slice_get_within}
use Rattle.std.specs.List.{list_any}
use Rattle.std.specs.Prelude.{if◌then◌else◌, slice_get}
use Rattle.gob_types.specs.Machine.Entered.{same_id}
use Rattle.gob_types.specs.Machine.Walk.{AddsAll}
use Rattle.gob_types.specs.Table.{Table, shape_of}
use Rattle.gob_types.specs.declared.id.TypeId.{TypeId}
use Rattle.gob_types.specs.declared.kind.Shape.{Shape}
use Rattle.gob_types.proofs.FirstLaws.{FirstAre, all_first, first_grown, more_first, slice_get-append_left}
use Rattle.gob_types.proofs.PublicLaws.{some_injective}
use Rattle.gob_types.proofs.SetLaws.{added_told, adds_keeps, adds_one}
use Rattle.gob_types.proofs.WalkLaws.{Met, met_all}
use Rattle.gob_views.specs.Machine.PartStream.{IsBare, IsInterface}

-- no value of the type is an interface
pub record IsNone (T : Table) (t : TypeId) : Type 0 where
  pub none : (s : Shape) → shape_of T t ≡ Some s → ¬ IsInterface s.kind

abbrev pub AreBareFirst : Table → List TypeId → ℕ → Type 0
AreBareFirst T ids n = FirstAre (IsNone T) ids n

-- one more, whose names were added
pub next_bare : {T : Table} {ids new : List TypeId} {n : ℕ} {u : TypeId} {s : Shape} {P : TypeId → Type 0}
    → AreBareFirst T ids n → slice_get ids n ≡ Some u → shape_of T u ≡ Some s → ¬ IsInterface s.kind
    → AddsAll ids new P → AreBareFirst T new (n + 1)
next_bare {T = T} {ids = ids} {n = n} {u = u} f at there other a =
    let within = slice_get_within ids n u at in
    subst (λ (zs : List TypeId). AreBareFirst T zs (n + 1)) (sym a.grown)
    (more_first (first_grown a.more f (omega (arith, within)))
    (slice_get-append_left ids a.more n within ∙ at)
    (record { none = λ r known is. other (ap (λ (s : Shape). s.kind) (some_injective (sym there ∙ known)) ∙ is) }))

-- one that isn't defined
pub next_undefined : {T : Table} {ids : List TypeId} {n : ℕ} {u : TypeId} → AreBareFirst T ids n
    → slice_get ids n ≡ Some u → shape_of T u ≡ None → AreBareFirst T ids (n + 1)
next_undefined f at missing = more_first f at (record { none = λ r known is. cc })

pub all_bare : {T : Table} {t : TypeId} {ids : List TypeId} {n : ℕ} → Met T t ids n → AreBareFirst T ids n
    → length ids ≤ n → IsBare T t
all_bare {T = T} {t = t} {ids = ids} {n = n} m f whole = λ u s reaches known.
    (all_first f whole ((met_all T t ids n m whole).whole u reaches)).none s known

-- an id was added, unless it was there
pub added : {keys new : List TypeId} {t : TypeId}
    → new ≡ (if list_any (same_id t) keys then keys else keys ++ t ∷ []) → AddsAll keys new (λ u. t ≡ u)
added {keys = keys} {new = new} {t = t} e =
    adds_one _ (added_told keys new t (length keys) (length new) e refl refl)

-- two of them
pub both_added : {keys mid new : List TypeId} {s t : TypeId} → AddsAll keys mid (λ u. s ≡ u)
    → AddsAll mid new (λ u. t ≡ u) → AddsAll keys new (λ u. (s ≡ u) ⊎ (t ≡ u))
both_added {keys = keys} {new = new} {s = s} {t = t} a b = record {
  more = a.more ++ b.more;
  grown = b.grown ∙ ap (λ (zs : List TypeId). zs ++ b.more) a.grown ∙ append_assoc keys a.more b.more;
  has = λ u h. elim h as (λ _. Contains new u) [ inl e ↦ adds_keeps b u (a.has u e) | inr e ↦ b.has u e ];
  only = λ u h. elim (b.only u h) as (λ _. Contains keys u ⊎ ((s ≡ u) ⊎ (t ≡ u))) [
    | inl there ↦ elim (a.only u there) as (λ _. Contains keys u ⊎ ((s ≡ u) ⊎ (t ≡ u))) [
      | inl old ↦ inl old
      | inr e ↦ inr (inl e)
    ]
    | inr e ↦ inr (inr e)
  ];
}
