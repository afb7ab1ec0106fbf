-- The way from a type through the elements of arrays, and what it tells of the types on it.
use Rattle.std.proofs.Common.{◌≡◌, ◌⊎◌, inl, inr, List, [], ◌∷◌, ◌++◌, Contains, arith, refl, sym, subst}
use Rattle.std.proofs.lemmas.List.Elements.{Contains-append_left, Contains-push, Contains-push_cases}
use Rattle.gob_types.specs.declared.id.TypeId.{TypeId}
use Rattle.gob_types.specs.Table.{Table, IsDefined}
use Rattle.gob_types.specs.Ready.{IsGrounded}
use Rattle.gob_types.specs.Readiness.{IsAllDefined}
use Rattle.gob_types.specs.Machine.Walk.{AddsAll, IsFilledOf, IsFilledIn, KnowsGrounds, EndsWell, WalksOn}
use Rattle.gob_types.proofs.GrowthLaws.{reaches_itself}
use Rattle.gob_types.proofs.RankLaws.{filled_leads, filled_grounded, closed_bottomless}
use Rattle.gob_types.proofs.SetLaws.{adds_keeps}

-- the ids so far are arrays of one another, up to this one, to which the way has come
pub record Following (T : Table) (start : TypeId) (way : List TypeId) (at : TypeId) : Type 0 where
  pub path : (u : TypeId) → Contains way u → IsFilledIn T (λ e. Contains way e ⊎ (e ≡ at)) u
  pub lifts : (u : TypeId) → Contains way u → IsGrounded T at → IsGrounded T u
  pub begin : Contains way start ⊎ (start ≡ at)
  pub complete : IsAllDefined T at

pub follow_start : {T : Table} {t : TypeId} → IsAllDefined T t → Following T t [] t
follow_start complete = record {
  path = λ u h. absurd (omega (arith, h.1));
  lifts = λ u h. absurd (omega (arith, h.1));
  begin = inr refl;
  complete = complete;
}

-- elements of another property
filled_as : {T : Table} {P Q : TypeId → Type 0} {t : TypeId} → IsFilledIn T P t → ((u : TypeId) → P u → Q u)
    → IsFilledIn T Q t
filled_as h on = record { element = h.element; array = h.array; within = on h.element h.within }

-- the way comes to a type with finite values
pub follow_known : {T : Table} {t at : TypeId} {way : List TypeId} → Following T t way at → IsGrounded T at
    → EndsWell T t way
follow_known {T = T} {t = t} {at = at} {way = way} f g = record {
  have = λ u there. f.lifts u there g;
  start =
      start f.begin;
}
  where
    start : Contains way t ⊎ (t ≡ at) → IsGrounded T t
    start (inl there) = f.lifts t there g
    start (inr e) = subst (IsGrounded T) (sym e) g

-- it comes to one that is known to have none
pub follow_bottomless : {T : Table} {t at : TypeId} {way : List TypeId} (bottomless : List TypeId)
    → Following T t way at → Contains bottomless at → WalksOn T t bottomless way
follow_bottomless {t = t} {at = at} {way = way} bottomless f known =
    record { closed = λ u there. filled_as (f.path u there) within; start = within t f.begin }
  where
    within : (u : TypeId) → Contains way u ⊎ (u ≡ at) → Contains way u ⊎ Contains bottomless u
    within u (inl there) = inl there
    within u (inr e) = inr (subst (Contains bottomless) (sym e) known)

-- it comes round
pub follow_round : {T : Table} {t at : TypeId} {way : List TypeId} (bottomless : List TypeId) → Following T t way at
    → Contains way at → WalksOn T t bottomless way
follow_round {t = t} {at = at} {way = way} bottomless f round =
    record { closed = λ u there. filled_as (f.path u there) within; start = within t f.begin }
  where
    within : (u : TypeId) → Contains way u ⊎ (u ≡ at) → Contains way u ⊎ Contains bottomless u
    within u (inl there) = inl there
    within u (inr e) = inl (subst (Contains way) (sym e) round)

-- it ends here
pub follow_end : {T : Table} {t at : TypeId} {way : List TypeId} → Following T t way at
    → (IsDefined T at → IsGrounded T at) → EndsWell T t (way ++ at ∷ [])
follow_end {T = T} {t = t} {at = at} {way = way} f plain =
    record { have = λ u there. have u (Contains-push_cases way at u there); start = (follow_known f g).start }
  where
    g : IsGrounded T at
    g = plain (f.complete at reaches_itself)

    have : (u : TypeId) → Contains way u ⊎ (at ≡ u) → IsGrounded T u
    have u (inl there) = f.lifts u there g
    have u (inr e) = subst (IsGrounded T) e g

-- it goes on to the elements
pub follow_on : {T : Table} {t at e : TypeId} {way : List TypeId} → Following T t way at → IsFilledOf T at e
    → Following T t (way ++ at ∷ []) e
follow_on {T = T} {t = t} {at = at} {e = e} {way = way} f array = record {
  path = λ u there. path u (Contains-push_cases way at u there);
  lifts = λ u there g. lifts u (Contains-push_cases way at u there) (filled_grounded array g);
  begin = inl (within t f.begin);
  complete = λ u h. f.complete u (filled_leads array h);
}
  where
    within : (u : TypeId) → Contains way u ⊎ (u ≡ at) → Contains (way ++ at ∷ []) u
    within u (inl there) = Contains-append_left way (at ∷ []) u there
    within u (inr same) = subst (Contains (way ++ at ∷ [])) (sym same) (Contains-push way at)

    path : (u : TypeId) → Contains way u ⊎ (at ≡ u) → IsFilledIn T (λ d. Contains (way ++ at ∷ []) d ⊎ (d ≡ e)) u
    path u (inl there) = filled_as (f.path u there) (λ d h. inl (within d h))
    path u (inr same) = subst (IsFilledIn T (λ d. Contains (way ++ at ∷ []) d ⊎ (d ≡ e))) same
        (record { element = e; array = array; within = inr refl })

    lifts : (u : TypeId) → Contains way u ⊎ (at ≡ u) → IsGrounded T at → IsGrounded T u
    lifts u (inl there) g = f.lifts u there g
    lifts u (inr same) g = subst (IsGrounded T) same g

-- what is then known
pub knows_more : {T : Table} {t : TypeId} {grounded new bottomless way : List TypeId}
    → KnowsGrounds T grounded bottomless → EndsWell T t way → AddsAll grounded new (Contains way)
    → KnowsGrounds T new bottomless
knows_more {T = T} {grounded = grounded} {way = way} known ends a = record {
  have = λ u there. have u (a.only u there);
  closed = known.closed;
}
  where
    have : (u : TypeId) → Contains grounded u ⊎ Contains way u → IsGrounded T u
    have u (inl there) = known.have u there
    have u (inr there) = ends.have u there

pub knows_endless : {T : Table} {t : TypeId} {grounded bottomless new way : List TypeId}
    → KnowsGrounds T grounded bottomless → WalksOn T t bottomless way → AddsAll bottomless new (Contains way)
    → KnowsGrounds T grounded new
knows_endless {T = T} {bottomless = bottomless} {new = new} {way = way} known goes a =
    record { have = known.have; closed = λ u there. closed u (a.only u there) }
  where
    within : (u : TypeId) → Contains way u ⊎ Contains bottomless u → Contains new u
    within u (inl there) = a.has u there
    within u (inr there) = adds_keeps a u there

    closed : (u : TypeId) → Contains bottomless u ⊎ Contains way u → IsFilledIn T (Contains new) u
    closed u (inl there) = filled_as (known.closed u there) (adds_keeps a)
    closed u (inr there) = filled_as (goes.closed u there) within

pub goes_on_bottomless : {T : Table} {t : TypeId} {grounded bottomless new way : List TypeId}
    → KnowsGrounds T grounded bottomless → WalksOn T t bottomless way → AddsAll bottomless new (Contains way)
    → ¬ IsGrounded T t
goes_on_bottomless {t = t} {bottomless = bottomless} {new = new} {way = way} known goes a =
    closed_bottomless (knows_endless known goes a).closed t (start goes.start)
  where
    start : Contains way t ⊎ Contains bottomless t → Contains new t
    start (inl there) = a.has t there
    start (inr there) = adds_keeps a t there
