-- The walk through the types that a type reaches: what was met, and whose names were looked at.
use Rattle.std.proofs.Common.{◌≡◌, ℕ, zero, suc, ◌+◌, ◌≤◌, ◌⊎◌, inl, inr, true, false, List, [], length, Contains}
use Rattle.std.proofs.Common.{Option, Some, None, is_some, Bor, arith, refl, sym, ap, ◌∙◌, subst, true≢false}
use Rattle.std.specs.Prelude.{slice_get}
use Rattle.std.specs.Option.{option_copied}
use Rattle.std.proofs.lemmas.Option.{slice_get_within}
use Rattle.gob_types.specs.declared.id.TypeId.{TypeId}
use Rattle.gob_types.specs.declared.kind.Shape.{Shape}
use Rattle.gob_types.specs.Table.{Table, shape_of, IsDefined}
use Rattle.gob_types.specs.Ready.{Names, Leads, here, onward, Reaches, IsGrounded, IsReady}
use Rattle.gob_types.specs.Readiness.{IsLeast, IsAllDefined}
use Rattle.gob_types.specs.Machine.Walk.{AddsAll, IsReach}
use Rattle.gob_types.proofs.GrowthLaws.{some_injective, reaches_itself, reaches_onward}
use Rattle.gob_types.proofs.FirstLaws.{slice_get-append_left, FirstAre, none_first, more_first, first_grown, first_as}
use Rattle.gob_types.proofs.FirstLaws.{all_first, contains_read}
use Rattle.gob_types.proofs.SetLaws.{adds_keeps}

-- what a look-up told
pub told_some : (r : Option (Bor Shape)) (o : Option Shape) → option_copied r ≡ o → is_some r ≡ true → (s : Shape)
    × (o ≡ Some s)
told_some None o e there = absurd (true≢false (sym there))
told_some (Some s) o e there = (s.now, sym e)

pub told_none : (r : Option (Bor Shape)) (o : Option Shape) → option_copied r ≡ o → is_some r ≡ false → o ≡ None
told_none None o e missing = sym e
told_none (Some s) o e missing = absurd (true≢false missing)

-- one more step at the end
leads_further : {T : Table} {n : ℕ} {t u w : TypeId} {s : Shape} → Leads T n t u → shape_of T u ≡ Some s
    → Names s.kind w → Leads T (suc n) t w
leads_further here e names = onward e names here
leads_further (onward f m l) e names = onward f m (leads_further l e names)

pub reaches_further : {T : Table} {t u w : TypeId} {s : Shape} → Reaches T t u → shape_of T u ≡ Some s → Names s.kind w
    → Reaches T t w
reaches_further h e names = record { steps = suc h.steps; leads = leads_further h.leads e names }

-- what each type that this one's shape names is
pub record NamesAre (T : Table) (P : TypeId → Type 0) (t : TypeId) : Type 0 where
  pub each : (s : Shape) (u : TypeId) → shape_of T t ≡ Some s → Names s.kind u → P u

-- the ids are reached, the type is one of them, and so is what the first n of them name
pub record Met (T : Table) (t : TypeId) (ids : List TypeId) (n : ℕ) : Type 0 where
  pub sound : (u : TypeId) → Contains ids u → Reaches T t u
  pub start : Contains ids t
  pub named : FirstAre (NamesAre T (Contains ids)) ids n

-- the type alone
pub met_start : (T : Table) (t : TypeId) (ids : List TypeId) → AddsAll [] ids (λ u. t ≡ u) → Met T t ids 0
met_start T t ids a = record { sound = λ u there. sound u (a.only u there); start = a.has t refl; named = none_first }
  where
    sound : (u : TypeId) → Contains [] u ⊎ (t ≡ u) → Reaches T t u
    sound u (inl h) = absurd (omega (arith, h.1))
    sound u (inr e) = subst (Reaches T t) e reaches_itself

-- the next one isn't defined
pub met_undefined : (T : Table) (t u : TypeId) (ids : List TypeId) (n : ℕ) → Met T t ids n → slice_get ids n ≡ Some u
    → shape_of T u ≡ None → Met T t ids (n + 1)
met_undefined T t u ids n m at none = record {
  sound = m.sound;
  start = m.start;
  named =
      more_first m.named at (record { each = λ s w there names. cc });
}

-- the next one's names were added
pub met_names : (T : Table) (t u : TypeId) (s : Shape) (ids new : List TypeId) (n : ℕ) → Met T t ids n
    → slice_get ids n ≡ Some u → shape_of T u ≡ Some s → AddsAll ids new (Names s.kind) → Met T t new (n + 1)
met_names T t u s ids new n m at there a = record {
  sound = λ w h. sound w (a.only w h);
  start = adds_keeps a t m.start;
  named = more_first earlier next this;
}
  where
    sound : (w : TypeId) → Contains ids w ⊎ Names s.kind w → Reaches T t w
    sound w (inl h) = m.sound w h
    sound w (inr names) = reaches_further (m.sound u (contains_read ids n u at)) there names

    earlier : FirstAre (NamesAre T (Contains new)) new n
    earlier =
        let grown = first_grown a.more m.named (omega (arith, slice_get_within ids n u at)) in
        subst (λ zs. FirstAre (NamesAre T (Contains new)) zs n) (sym a.grown)
        (first_as grown (λ v h. record { each = λ r w e names. adds_keeps a w (h.each r w e names) }))

    next : slice_get new n ≡ Some u
    next = ap (λ zs. slice_get zs n) a.grown ∙ slice_get-append_left ids a.more n (slice_get_within ids n u at) ∙ at

    this : NamesAre T (Contains new) u
    this = record {
      each =
          λ r w e names. a.has w (subst (λ (x : Shape). Names x.kind w) (some_injective (sym e ∙ there)) names);
    }

-- at the end all that are reached were met
pub met_all : (T : Table) (t : TypeId) (ids : List TypeId) (n : ℕ) → Met T t ids n → length ids ≤ n → IsReach T t ids
met_all T t ids n m whole = record { sound = m.sound; whole = λ u h. along t u h.steps m.start h.leads }
  where
    along : (v u : TypeId) (k : ℕ) → Contains ids v → Leads T k v u → Contains ids u
    along v u zero there here = there
    along v u (suc k) there (onward {w = w} {s = s} e names l) =
        along w u k ((all_first m.named whole there).each s w e names) l

-- steps behind steps
leads_joined : {T : Table} {m : ℕ} {t u w : TypeId} → Leads T m t u → Reaches T u w → Reaches T t w
leads_joined here h = h
leads_joined (onward e names l) h = reaches_onward e names (leads_joined l h)

pub reaches_joined : {T : Table} {t u w : TypeId} → Reaches T t u → Reaches T u w → Reaches T t w
reaches_joined g h = leads_joined g.leads h

-- where all that are reached are defined, so are all that one of them reaches
pub complete_within : {T : Table} {t : TypeId} {ids : List TypeId} → IsReach T t ids
    → ((u : TypeId) → Contains ids u → IsDefined T u) → (u : TypeId) → Contains ids u → IsAllDefined T u
complete_within reach defined u there w h = defined w (reach.whole w (reaches_joined (reach.sound u there) h))

-- and where they have finite values too, the type is ready
pub ready_within : {T : Table} {t : TypeId} {ids : List TypeId} → IsReach T t ids
    → ((u : TypeId) → Contains ids u → IsDefined T u) → ((u : TypeId) → Contains ids u → IsGrounded T u) → IsReady T t
ready_within reach defined grounded u h = (defined u (reach.whole u h), grounded u (reach.whole u h))

-- the least of the ids is the least that is reached
pub least_reached : {T : Table} {t l : TypeId} {ids : List TypeId} {Bad : TypeId → Type 0} → IsReach T t ids
    → IsLeast (λ u. Contains ids u × Bad u) l → IsLeast (λ u. Reaches T t u × Bad u) l
least_reached {l = l} reach h = record {
  has = (reach.sound l h.has.0, h.has.1);
  least =
      λ u b. h.least u (reach.whole u b.0, b.1);
}
