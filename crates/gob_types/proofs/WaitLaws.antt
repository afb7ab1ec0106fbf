-- What types wait for: sets of ids, ways of waiting, and what a look and a definition change.
use Rattle.std.proofs.Common.{◌≡◌, ℕ, ◌+◌, ◌≤◌, ◌⊎◌, inl, inr, Bool, true, false, cond, List, [], ◌∷◌, ◌++◌, length}
use Rattle.std.proofs.Common.{Contains, Option, Some, None, true≢false, arith, refl, sym, ap, ◌∙◌, subst, IsTrue}
use Rattle.std.specs.Prelude.{◌==◌, slice_get, IfSome, MatchBool, MatchOption, ◌↔◌}
use Rattle.std.specs.Map.{lookup}
use Rattle.std.specs.Cmp.{nat_eq_equiv}
use Rattle.std.proofs.lemmas.Option.{slice_get_within, none-some}
use Rattle.std.proofs.lemmas.Bool.Decides.{eqb_tells}
use Rattle.std.proofs.lemmas.List.Elements.{Contains-append_left, Contains-push_cases}
use Rattle.gob_types.specs.declared.id.TypeId.{TypeId}
use Rattle.gob_types.specs.declared.kind.Shape.{Shape}
use Rattle.gob_types.specs.Machine.Entered.{same_id}
use Rattle.gob_types.specs.Table.{Table, shape_of, IsDefined}
use Rattle.gob_types.specs.Ready.{Reaches, IsReady}
use Rattle.gob_types.specs.Machine.Walk.{AddsAll, AddsOne, Grows}
use Rattle.gob_types.specs.Machine.Kept.{AreReady, Sets, IsIn, KeepsSets, IsSet, AwaitedTypes, Waiting, KnowsUsers}
use Rattle.gob_types.specs.Machine.Kept.{WaitsFor, here, onward, Redirects, AreLed, IsHopeless, IsLost, LeadsAway, ends}
use Rattle.gob_types.specs.Machine.Kept.{further, AreSettled, IsOpenType, IsLearning, IsLooking, IsJudged}
use Rattle.gob_types.specs.Machine.Kept.{IsKeptReadiness, WasKept, AreNamedBy, HandsOn, AreAdded, AddsWaiting}
use Rattle.gob_types.proofs.GrowthLaws.{Keeps, some_injective, reaches_itself, reaches_on, ready_defined, ready_on}
use Rattle.gob_types.proofs.GrowthLaws.{shape_of-append, shape_of-append_new}
use Rattle.gob_types.proofs.FirstLaws.{slice_get-append_left, FirstAre, none_first, more_first, first_grown, first_as}
use Rattle.gob_types.proofs.FirstLaws.{all_first, contains_read}
use Rattle.gob_types.proofs.SetLaws.{same_exact, adds_keeps, adds_one}
use Rattle.gob_types.proofs.GrowsLaws.{grows_by}
use Rattle.gob_types.proofs.WalkLaws.{reaches_joined}
use Rattle.gob_types.proofs.KeptLaws.{ready_reached, hopeless_not, hopeless_on, added_ready, contains_grown}
use Rattle.gob_types.proofs.KeptLaws.{contains_or}

-- ---- maps by ids

same_itself : (t : TypeId) → same_id t t ≡ true
same_itself t = nat_eq_equiv.refl t.0

set_there : {X : Type 0} {old new : List (TypeId × X)} {t : TypeId} {x : X} → IsSet old new t x
    → lookup (same_id t) new ≡ Some x
set_there {old = old} {t = t} {x = x} n = n.each t ∙ ap (λ b. cond b (Some x) (lookup (same_id t) old)) (same_itself t)

-- an id is the one that was set, or has what it had
pub set_cases : {X : Type 0} {old new : List (TypeId × X)} {t : TypeId} {x : X} → IsSet old new t x → (u : TypeId)
    → ((t ≡ u) × (lookup (same_id u) new ≡ Some x)) ⊎ (lookup (same_id u) new ≡ lookup (same_id u) old)
set_cases {old = old} {new = new} {t = t} {x = x} n u = by (same_id t u) refl
  where
    by : (b : Bool) → same_id t u ≡ b → ((t ≡ u) × (lookup (same_id u) new ≡ Some x))
        ⊎ (lookup (same_id u) new ≡ lookup (same_id u) old)
    by true e = inl (same_exact t u e, n.each u ∙ ap (λ b. cond b (Some x) (lookup (same_id u) old)) e)
    by false e = inr (n.each u ∙ ap (λ b. cond b (Some x) (lookup (same_id u) old)) e)

-- ---- sets of ids

pub in_set : {old new : Sets} {t u : TypeId} {us : List TypeId} → IsSet old new t us → Contains us u → IsIn new t u
in_set {us = us} n there = record { set = us; there = set_there n; among = there }

-- what is in the set that is found
pub in_found : {sets : Sets} {t : TypeId} {us : List TypeId} → Some us ≡ lookup (same_id t) sets → (u : TypeId)
    → IsIn sets t u → Contains us u
in_found e u h = subst (λ l. Contains l u) (some_injective (sym h.there ∙ sym e)) h.among

pub found_in : {sets : Sets} {t : TypeId} {us : List TypeId} → Some us ≡ lookup (same_id t) sets → (u : TypeId)
    → Contains us u → IsIn sets t u
found_in {us = us} e u h = record { set = us; there = sym e; among = h }

pub keeps_all : {sets : Sets} → KeepsSets sets sets
keeps_all = record { each = λ t u h. h }

pub keeps_then : {a b c : Sets} → KeepsSets a b → KeepsSets b c → KeepsSets a c
keeps_then f g = record { each = λ t u h. g.each t u (f.each t u h) }

-- one set has more than it had
pub keeps_grown : {old new : Sets} {t : TypeId} {us : List TypeId} → IsSet old new t us
    → ((u : TypeId) → IsIn old t u → Contains us u) → KeepsSets old new
keeps_grown {old = old} {new = new} {t = t} {us = us} n keeps = record { each = λ w u h. by w u h (set_cases n w) }
  where
    by : (w u : TypeId) → IsIn old w u → ((t ≡ w) × (lookup (same_id w) new ≡ Some us))
        ⊎ (lookup (same_id w) new ≡ lookup (same_id w) old) → IsIn new w u
    by w u h (inl e) = record { set = us; there = e.1; among = keeps u (subst (λ v. IsIn old v u) (sym e.0) h) }
    by w u h (inr e) = record { set = h.set; there = e ∙ h.there; among = h.among }

-- one set has the ids of two of them
pub in_either : {old new : Sets} {t : TypeId} {us : List TypeId} (P : TypeId → TypeId → Type 0) → IsSet old new t us
    → ((u : TypeId) → Contains us u → P t u) → ((w u : TypeId) → IsIn old w u → P w u) → (w u : TypeId) → IsIn new w u
    → P w u
in_either {old = old} {new = new} {t = t} {us = us} P n own rest w u h = by (set_cases n w)
  where
    by : ((t ≡ w) × (lookup (same_id w) new ≡ Some us)) ⊎ (lookup (same_id w) new ≡ lookup (same_id w) old) → P w u
    by (inl e) = subst (λ v. P v u) e.0 (own u (subst (λ l. Contains l u) (some_injective (sym h.there ∙ e.1)) h.among))
    by (inr e) = rest w u (record { set = h.set; there = sym e ∙ h.there; among = h.among })

-- one set has less than it had
pub keeps_less : {old new : Sets} {t : TypeId} {us : List TypeId} → IsSet old new t us
    → ((u : TypeId) → Contains us u → IsIn old t u) → KeepsSets new old
keeps_less {old = old} n less = record { each = in_either (IsIn old) n less (λ w u h. h) }

-- ---- ways of waiting

pub knows_none : {users : Sets} → KnowsUsers [] users
knows_none = record { each = λ u w e. absurd (none-some _ e) }

pub knows_on : {A : AwaitedTypes} {users more : Sets} → KnowsUsers A users → KeepsSets users more → KnowsUsers A more
knows_on k keeps = record { each = λ u w e. keeps.each w u (k.each u w e) }

pub knows_set : {A B : AwaitedTypes} {users : Sets} {t x : TypeId} → KnowsUsers A users → IsSet A B t x → IsIn users x t
    → KnowsUsers B users
knows_set {A = A} {B = B} {users = users} {t = t} {x = x} k n there =
    record { each = λ u w e. by u w e (set_cases n u) }
  where
    by : (u w : TypeId) → lookup (same_id u) B ≡ Some w → ((t ≡ u) × (lookup (same_id u) B ≡ Some x))
        ⊎ (lookup (same_id u) B ≡ lookup (same_id u) A) → IsIn users w u
    by u w e (inl h) = subst (λ v. IsIn users w v) h.0 (subst (λ v. IsIn users v t) (some_injective (sym h.1 ∙ e))
        there)
    by u w e (inr h) = k.each u w (sym h ∙ e)

-- the type is the other, or goes on
pub waits_cases : {A : AwaitedTypes} {u v : TypeId} → WaitsFor A u v → (u ≡ v)
    ⊎ ((w : TypeId) × (lookup (same_id u) A ≡ Some w) × WaitsFor A w v)
waits_cases here = inl refl
waits_cases (onward {w = w} e h) = inr (w, e, h)

pub same_equal : {u v : TypeId} → u ≡ v → same_id u v ≡ true
same_equal {u = u} e = sym (ap (same_id u) e) ∙ same_itself u

different : {u v : TypeId} → same_id u v ≡ false → u ≡ v → ⊥
different {u = u} e same = true≢false (sym (same_itself u) ∙ ap (same_id u) same ∙ e)

pub waits_next : {A : AwaitedTypes} {u v w : TypeId} → same_id u v ≡ false → lookup (same_id u) A ≡ Some w
    → WaitsFor A u v → WaitsFor A w v
waits_next {A = A} {u = u} {v = v} {w = w} apart e h = by (waits_cases h)
  where
    by : (u ≡ v) ⊎ ((x : TypeId) × (lookup (same_id u) A ≡ Some x) × WaitsFor A x v) → WaitsFor A w v
    by (inl same) = absurd (different apart same)
    by (inr k) = subst (λ x. WaitsFor A x v) (some_injective (sym k.1 ∙ e)) k.2

pub waits_not : {A : AwaitedTypes} {u v : TypeId} → same_id u v ≡ false → lookup (same_id u) A ≡ None → ¬ WaitsFor A u v
waits_not {A = A} {u = u} {v = v} apart e h = by (waits_cases h)
  where
    by : (u ≡ v) ⊎ ((x : TypeId) × (lookup (same_id u) A ≡ Some x) × WaitsFor A x v) → ⊥
    by (inl same) = different apart same
    by (inr k) = none-some _ (sym e ∙ k.1)

pub waits_itself : {A : AwaitedTypes} {u v : TypeId} → same_id u v ≡ true → WaitsFor A u v
waits_itself {A = A} {u = u} {v = v} e = subst (WaitsFor A u) (same_exact u v e) here

-- the way from the first type comes to this one
pub record IsAhead (A : AwaitedTypes) (from t at : TypeId) : Type 0 where
  pub on : WaitsFor A at t → WaitsFor A from t
  pub back : WaitsFor A from t → WaitsFor A at t

pub ahead_start : {A : AwaitedTypes} {from t : TypeId} → IsAhead A from t from
ahead_start = record { on = λ h. h; back = λ h. h }

pub ahead_next : {A : AwaitedTypes} {from t at next : TypeId} → IsAhead A from t at → same_id at t ≡ false
    → lookup (same_id at) A ≡ Some next → IsAhead A from t next
ahead_next a apart e = record { on = λ h. a.on (onward e h); back = λ h. waits_next apart e (a.back h) }

-- these wait for the type, and of the first n of them who waits for them is among them
pub record MetBack (A : AwaitedTypes) (t : TypeId) (back : List TypeId) (n : ℕ) : Type 0 where
  pub sound : (u : TypeId) → Contains back u → WaitsFor A u t
  pub start : Contains back t
  pub closed : FirstAre (λ w. (u : TypeId) → lookup (same_id u) A ≡ Some w → Contains back u) back n

pub back_start : {A : AwaitedTypes} {t : TypeId} {back : List TypeId} → AddsAll [] back (λ u. t ≡ u)
    → MetBack A t back 0
back_start {A = A} {t = t} a = record {
  sound = λ u there. sound u (a.only u there);
  start = a.has t refl;
  closed =
      none_first;
}
  where
    sound : (u : TypeId) → Contains [] u ⊎ (t ≡ u) → WaitsFor A u t
    sound u (inl h) = absurd (omega (arith, h.1))
    sound u (inr e) = subst (λ v. WaitsFor A v t) e here

pub back_next : {A : AwaitedTypes} {t at : TypeId} {users back new : List TypeId} {n : ℕ} → MetBack A t back n
    → slice_get back n ≡ Some at → ((u : TypeId) → lookup (same_id u) A ≡ Some at → Contains users u)
    → AddsWaiting A users at back new → MetBack A t new (n + 1)
back_next {A = A} {t = t} {at = at} {back = back} {new = new} {n = n} m there users a = record {
  sound = λ u h. sound u (a.only u h);
  start = contains_grown a.grown t m.start;
  closed = more_first earlier next (λ u e. a.has u (users u e) e);
}
  where
    sound : (u : TypeId) → Contains back u ⊎ (lookup (same_id u) A ≡ Some at) → WaitsFor A u t
    sound u (inl h) = m.sound u h
    sound u (inr e) = onward e (m.sound at (contains_read back n at there))

    earlier : FirstAre (λ w. (u : TypeId) → lookup (same_id u) A ≡ Some w → Contains new u) new n
    earlier =
        let grown = first_grown a.grown.more m.closed (omega (arith, slice_get_within back n at there)) in
        subst (λ zs. FirstAre (λ w. (u : TypeId) → lookup (same_id u) A ≡ Some w → Contains new u) zs n)
        (sym a.grown.grown) (first_as grown (λ w h u e. contains_grown a.grown u (h u e)))

    next : slice_get new n ≡ Some at
    next = ap (λ zs. slice_get zs n) a.grown.grown
        ∙ slice_get-append_left back a.grown.more n (slice_get_within back n at there) ∙ there

pub only_waiting : (A : AwaitedTypes) (old : List TypeId) {t v : TypeId} {now new : List TypeId}
    → AddsAll now new (λ u. v ≡ u) → ((u : TypeId) → Contains now u → Contains old u ⊎ (lookup (same_id u) A ≡ Some t))
    → lookup (same_id v) A ≡ Some t
    → (u : TypeId) → Contains new u → Contains old u ⊎ (lookup (same_id u) A ≡ Some t)
only_waiting A old {t = t} {v = v} {now = now} a only e u there = by (a.only u there)
  where
    by : Contains now u ⊎ (v ≡ u) → Contains old u ⊎ (lookup (same_id u) A ≡ Some t)
    by (inl h) = only u h
    by (inr same) = inr (subst (λ w. lookup (same_id w) A ≡ Some t) same e)

pub merged_in : {left first second now : Sets} {from t : TypeId} {both : List TypeId} (taken own : List TypeId)
    → KeepsSets first left → ((u : TypeId) → Contains taken u → IsIn left from u) → KeepsSets second first
    → ((u : TypeId) → Contains own u → IsIn first t u)
    → ((u : TypeId) → Contains both u → Contains own u ⊎ Contains taken u) → IsSet second now t both → (u w : TypeId)
    → IsIn now u w → IsIn left u w ⊎ ((t ≡ u) × IsIn left from w)
merged_in {left = left} {first = first} {from = from} {t = t} taken own k is_taken l is_own each n u w h =
    in_either (λ v x. IsIn left v x ⊎ ((t ≡ v) × IsIn left from x)) n (λ x there. by x (each x there))
    (λ v x there. inl (k.each v x (l.each v x there))) u w h
  where
    by : (x : TypeId) → Contains own x ⊎ Contains taken x → IsIn left t x ⊎ ((t ≡ t) × IsIn left from x)
    by x (inl there) = inl (k.each t x (is_own x there))
    by x (inr there) = inr (refl, is_taken x there)

pub back_all : {A : AwaitedTypes} {t u : TypeId} {back : List TypeId} {n : ℕ} → MetBack A t back n → length back ≤ n
    → WaitsFor A u t → Contains back u
back_all m whole here = m.start
back_all m whole (onward {u = u} {w = w} e h) = all_first m.closed whole (back_all m whole h) u e

pub some_of : (P : TypeId → Type 0) (found : Option TypeId) {x : TypeId} → IfSome found P → found ≡ Some x → P x
some_of P None h e = absurd (none-some _ e)
some_of P (Some y) h e = subst P (some_injective e) h

pub popped_less : (old new : List TypeId) (r : Option TypeId) → MatchOption r ((old ≡ []) × (new ≡ [])) (λ t. old ≡ new
    ++ t ∷ []) → (u : TypeId) → Contains new u → Contains old u
popped_less old new None e u h = absurd (omega (arith, (subst (λ l. Contains l u) e.1 h).1))
popped_less old new (Some t) e u h = subst (λ l. Contains l u) (sym e) (Contains-append_left new (t ∷ []) u h)

pub told_both : {P Q : Type 0} (b : Bool) → (IsTrue b ↔ P) → (P → Q) → (Q → P) → MatchBool b Q (¬ Q)
told_both true e f g = f (e.0 refl)
told_both false e f g = λ q. true≢false (sym (e.1 (g q)))

-- ---- what types lead to

pub waits_reach : {T : Table} {W : Waiting} {u v : TypeId} → AreLed T W → WaitsFor W.awaited u v → Reaches T u v
waits_reach led here = reaches_itself
waits_reach led (onward e h) = reaches_joined (led.awaited _ _ e) (waits_reach led h)

pub redirects_same : {A B : AwaitedTypes} {t : TypeId} → B ≡ A → Redirects A B t
redirects_same e = record { each = λ u. inl (ap (lookup (same_id u)) e) }

pub redirects_then : {A B C : AwaitedTypes} {t : TypeId} → Redirects A B t → Redirects B C t → Redirects A C t
redirects_then {A = A} {B = B} {C = C} {t = t} f g = record { each = λ u. by u (g.each u) (f.each u) }
  where
    by : (u : TypeId) → (lookup (same_id u) C ≡ lookup (same_id u) B) ⊎ (lookup (same_id u) C ≡ Some t)
        → (lookup (same_id u) B ≡ lookup (same_id u) A) ⊎ (lookup (same_id u) B ≡ Some t)
        → (lookup (same_id u) C ≡ lookup (same_id u) A) ⊎ (lookup (same_id u) C ≡ Some t)
    by u (inr e) k = inr e
    by u (inl e) (inl k) = inl (e ∙ k)
    by u (inl e) (inr k) = inr (e ∙ k)

pub redirects_set : {A B : AwaitedTypes} {t u : TypeId} → IsSet A B u t → Redirects A B t
redirects_set {A = A} {B = B} {t = t} {u = u} n = record { each = λ v. by v (set_cases n v) }
  where
    by : (v : TypeId) → ((u ≡ v) × (lookup (same_id v) B ≡ Some t)) ⊎ (lookup (same_id v) B ≡ lookup (same_id v) A)
        → (lookup (same_id v) B ≡ lookup (same_id v) A) ⊎ (lookup (same_id v) B ≡ Some t)
    by v (inl h) = inr h.1
    by v (inr e) = inl e

pub waits_redirected : {A B : AwaitedTypes} {t u : TypeId} → Redirects A B t → WaitsFor A u t → WaitsFor B u t
waits_redirected r here = here
waits_redirected {B = B} {t = t} r (onward {u = u} {w = w} e h) = elim (r.each u) as (λ _. WaitsFor B u t) [
  | inl same ↦
      onward (same ∙ e) (waits_redirected r h)
  | inr to ↦ onward to here
]

-- with less to look at
pub led_less : {T : Table} {V W : Waiting} → AreLed T V → KeepsSets W.left V.left → W.awaited ≡ V.awaited → AreLed T W
led_less led keeps e = record {
  awaited = λ u w h. led.awaited u w (sym (ap (lookup (same_id u)) e) ∙ h);
  left =
      λ u w h. led.left u w (keeps.each u w h);
}

-- with the names of a type
pub led_names : {T : Table} {V W : Waiting} {t : TypeId} {names : List TypeId} → AreLed T V
    → IsSet V.left W.left t names → AreNamedBy T t names → W.awaited ≡ V.awaited → AreLed T W
led_names {T = T} led n names e = record {
  awaited = λ u w h. led.awaited u w (sym (ap (lookup (same_id u)) e) ∙ h);
  left = in_either (Reaches T) n names.reached led.left;
}

-- with another that is waited for
pub led_set : {T : Table} {V W : Waiting} {t x : TypeId} → AreLed T V → IsSet V.awaited W.awaited t x → Reaches T t x
    → W.left ≡ V.left → AreLed T W
led_set {T = T} {V = V} {W = W} {t = t} {x = x} led n r e = record {
  awaited = λ u w h. by u w h (set_cases n u);
  left =
      λ u w h. led.left u w (subst (λ l. IsIn l u w) e h);
}
  where
    by : (u w : TypeId) → lookup (same_id u) W.awaited ≡ Some w → ((t ≡ u) × (lookup (same_id u) W.awaited ≡ Some x))
        ⊎ (lookup (same_id u) W.awaited ≡ lookup (same_id u) V.awaited) → Reaches T u w
    by u w h (inl k) = subst (λ v. Reaches T v w) k.0 (subst (Reaches T t) (some_injective (sym k.1 ∙ h)) r)
    by u w h (inr k) = led.awaited u w (sym k ∙ h)

-- with what another had to look at
pub led_merged : {T : Table} {V W : Waiting} {from t : TypeId} → AreLed T V → Reaches T t from
    → ((u w : TypeId) → IsIn W.left u w → IsIn V.left u w ⊎ ((t ≡ u) × IsIn V.left from w)) → W.awaited ≡ V.awaited
    → AreLed T W
led_merged {T = T} {V = V} {W = W} {from = from} {t = t} led r each e =
    record {
      awaited = λ u w h. led.awaited u w (sym (ap (lookup (same_id u)) e) ∙ h);
      left =
          λ u w h. by u w (each u w h);
    }
  where
    by : (u w : TypeId) → IsIn V.left u w ⊎ ((t ≡ u) × IsIn V.left from w) → Reaches T u w
    by u w (inl h) = led.left u w h
    by u w (inr h) = subst (λ v. Reaches T v w) h.0 (reaches_joined r (led.left from w h.1))

pub led_on : {T U : Table} {W : Waiting} → Keeps T U → AreLed T W → AreLed U W
led_on keeps led = record {
  awaited = λ u w h. reaches_on keeps (led.awaited u w h);
  left =
      λ u w h. reaches_on keeps (led.left u w h);
}

-- ---- where the ways lead

pub away_as : {A : AwaitedTypes} {ready : List TypeId} {P Q : TypeId → Type 0} {u : TypeId} → ((v : TypeId) → P v → Q v)
    → LeadsAway A ready P u → LeadsAway A ready Q u
away_as f (ends {u = u} p) = ends (f u p)
away_as f (further e apart h) = further e apart (away_as f h)

-- some wait for the type that is looked at
pub away_redirected : {L : TypeId → Type 0} {A B : AwaitedTypes} {ready : List TypeId} (queue : List TypeId)
    {t u : TypeId} → Redirects A B t → ¬ Contains ready t
    → LeadsAway A ready (λ v. (L v ⊎ IsOpenType A ready queue v) ⊎ (t ≡ v)) u
    → LeadsAway B ready (λ v. (L v ⊎ IsOpenType B ready queue v) ⊎ (t ≡ v)) u
away_redirected queue r apart (ends (inl (inl l))) = ends (inl (inl l))
away_redirected queue r apart (ends (inr e)) = ends (inr e)
away_redirected {L = L} {B = B} {ready = ready} queue {t = t} r apart (ends {u = u} (inl (inr o))) =
    elim (r.each u) as (λ _. LeadsAway B ready (λ v. (L v ⊎ IsOpenType B ready queue v) ⊎ (t ≡ v)) u) [
      | inl same ↦ ends (inl (inr (o.0, λ w e. o.1 w (sym same ∙ e))))
      | inr to ↦ further to apart (ends (inr refl))
    ]
away_redirected {L = L} {B = B} {ready = ready} queue {t = t} r apart (further {u = u} e not h) =
    elim (r.each u) as (λ _. LeadsAway B ready (λ v. (L v ⊎ IsOpenType B ready queue v) ⊎ (t ≡ v)) u) [
      | inl same ↦ further (same ∙ e) not (away_redirected queue r apart h)
      | inr to ↦ further to apart (ends (inr refl))
    ]

-- a way that doesn't come to the type leads where it did when that waits for another
pub away_apart : {L : TypeId → Type 0} {A B : AwaitedTypes} {ready : List TypeId} (queue : List TypeId) {t x u : TypeId}
    → IsSet A B t x → ¬ WaitsFor A u t
    → LeadsAway A ready (λ v. (L v ⊎ IsOpenType A ready queue v) ⊎ (t ≡ v)) u
    → LeadsAway B ready (λ v. L v ⊎ IsOpenType B ready queue v) u
away_apart queue n not (ends (inl (inl l))) = ends (inl l)
away_apart {A = A} queue {t = t} n not (ends {u = u} (inr e)) = absurd (not (subst (λ v. WaitsFor A v t) e here))
away_apart {L = L} {A = A} {B = B} {ready = ready} queue {t = t} n not (ends {u = u} (inl (inr o))) =
    elim (set_cases n u) as (λ _. LeadsAway B ready (λ v. L v ⊎ IsOpenType B ready queue v) u) [
      | inl same ↦ absurd (not (subst (λ v. WaitsFor A v t) same.0 here))
      | inr same ↦ ends (inr (o.0, λ w e. o.1 w (sym same ∙ e)))
    ]
away_apart {L = L} {A = A} {B = B} {ready = ready} queue {t = t} n not (further {u = u} e past h) =
    elim (set_cases n u) as (λ _. LeadsAway B ready (λ v. L v ⊎ IsOpenType B ready queue v) u) [
      | inl same ↦ absurd (not (subst (λ v. WaitsFor A v t) same.0 here))
      | inr same ↦ further (same ∙ e) past (away_apart queue n (λ k. not (onward e k)) h)
    ]

-- and then all lead where that one does
pub away_set : {L : TypeId → Type 0} {A B : AwaitedTypes} {ready : List TypeId} (queue : List TypeId) {t x u : TypeId}
    → IsSet A B t x → ¬ Contains ready x → LeadsAway B ready (λ v. L v ⊎ IsOpenType B ready queue v) x
    → LeadsAway A ready (λ v. (L v ⊎ IsOpenType A ready queue v) ⊎ (t ≡ v)) u
    → LeadsAway B ready (λ v. L v ⊎ IsOpenType B ready queue v) u
away_set queue n past away (ends (inl (inl l))) = ends (inl l)
away_set {L = L} {B = B} {ready = ready} queue {t = t} n past away (ends {u = u} (inr e)) =
    subst (LeadsAway B ready (λ v. L v ⊎ IsOpenType B ready queue v)) e (further (set_there n) past away)
away_set {L = L} {B = B} {ready = ready} queue n past away (ends {u = u} (inl (inr o))) =
    elim (set_cases n u) as (λ _. LeadsAway B ready (λ v. L v ⊎ IsOpenType B ready queue v) u) [
      | inl same ↦ further same.1 past away
      | inr same ↦ ends (inr (o.0, λ w e. o.1 w (sym same ∙ e)))
    ]
away_set {L = L} {B = B} {ready = ready} queue n past away (further {u = u} e not h) =
    elim (set_cases n u) as (λ _. LeadsAway B ready (λ v. L v ⊎ IsOpenType B ready queue v) u) [
      | inl same ↦ further same.1 past away
      | inr same ↦ further (same ∙ e) not (away_set queue n past away h)
    ]

-- who waits for what became ready is to be looked at
pub away_added : {L : TypeId → Type 0} {A : AwaitedTypes} {old new queue after : List TypeId} {t u : TypeId}
    → Grows old new → Grows queue after → HandsOn A old new (Contains after) → Contains new t
    → LeadsAway A old (λ v. (L v ⊎ IsOpenType A old queue v) ⊎ (t ≡ v)) u → Contains new u
    ⊎ LeadsAway A new (λ v. L v ⊎ IsOpenType A new after v) u
away_added g q hands there (ends (inl (inl l))) = inr (ends (inl l))
away_added {new = new} g q hands there (ends (inr e)) = inl (subst (Contains new) e there)
away_added g q hands there (ends {u = u} (inl (inr o))) =
    inr (ends (inr (contains_grown q u o.0, λ w e. contains_grown g w (o.1 w e))))
away_added {L = L} {A = A} {old = old} {new = new} {after = after} g q hands there (further {u = u} {w = w} e not h) =
    by (contains_or new w) (away_added g q hands there h)
  where
    handed : Contains new w → Contains old w ⊎ ((v : TypeId) → lookup (same_id v) A ≡ Some w → Contains after v)
        → Contains new u ⊎ LeadsAway A new (λ v. L v ⊎ IsOpenType A new after v) u
    handed came (inl was) = absurd (not was)
    handed came (inr each) = inr (ends (inr (each u e, λ v f. subst (Contains new) (some_injective (sym e ∙ f)) came)))

    by : Contains new w ⊎ ¬ Contains new w → Contains new w ⊎ LeadsAway A new (λ v. L v ⊎ IsOpenType A new after v) w
        → Contains new u ⊎ LeadsAway A new (λ v. L v ⊎ IsOpenType A new after v) u
    by (inl came) k = handed came (hands.each w came)
    by (inr out) (inl came) = absurd (out came)
    by (inr out) (inr away) = inr (further e out away)

-- a type that is judged needs no look
pub away_dropped : {L : TypeId → Type 0} {A : AwaitedTypes} {ready : List TypeId} (queue : List TypeId) {t u : TypeId}
    → IsJudged A ready t → LeadsAway A ready (λ v. L v ⊎ IsOpenType A ready (queue ++ t ∷ []) v) u → ¬ Contains ready u
    → LeadsAway A ready (λ v. L v ⊎ IsOpenType A ready queue v) u
away_dropped queue j (ends (inl l)) out = ends (inl l)
away_dropped {L = L} {A = A} {ready = ready} queue {t = t} j (ends {u = u} (inr o)) out =
    by j (Contains-push_cases queue t u o.0)
  where
    by : IsJudged A ready t → Contains queue u ⊎ (t ≡ u) → LeadsAway A ready (λ v. L v ⊎ IsOpenType A ready queue v) u
    by k (inl there) = ends (inr (there, o.1))
    by (inl r) (inr e) = absurd (out (subst (Contains ready) e r))
    by (inr k) (inr e) = absurd (k.2 (o.1 k.0 (subst (λ v. lookup (same_id v) A ≡ Some k.0) e k.1)))
away_dropped queue j (further e not h) out = further e not (away_dropped queue j h not)

-- what waits isn't ready
pub away_not : {T : Table} {W : Waiting} {ready : List TypeId} {u : TypeId} → AreLed T W
    → LeadsAway W.awaited ready (IsLost T) u → ¬ IsReady T u
away_not led (ends (inl none)) r = let d = ready_defined r in none-some _ (sym none ∙ d.1)
away_not led (ends (inr hopeless)) r = hopeless_not hopeless r
away_not led (further e not h) r = away_not led h (ready_reached r (led.awaited _ _ e))

-- ---- a look

pub looking_on : {T : Table} {ready : List TypeId} {V W : Waiting} {t : TypeId} (queue : List TypeId)
    → IsLooking T ready V queue t → ¬ Contains ready t → Redirects V.awaited W.awaited t → AreLed T W
    → IsLooking T ready W queue t
looking_on {T = T} {ready = ready} {W = W} {t = t} queue s apart r led = record {
  sound = s.sound;
  led = led;
  whole = λ u. elim (s.whole u) as (λ _. Contains ready u
      ⊎ LeadsAway W.awaited ready (λ v. (IsLost T v ⊎ IsOpenType W.awaited ready queue v) ⊎ (t ≡ v)) u) [
        | inl there ↦ inl there
        | inr away ↦ inr (away_redirected queue r apart away)
      ];
}

waits_where : {T : Table} {ready : List TypeId} {V W : Waiting} {t x : TypeId} (queue : List TypeId)
    → IsLooking T ready V queue t → IsSet V.awaited W.awaited t x → AreLed T W → ¬ Contains ready x
    → LeadsAway W.awaited ready (λ v. IsLost T v ⊎ IsOpenType W.awaited ready queue v) x → IsLearning T ready W queue
waits_where {T = T} {ready = ready} {W = W} queue s n led past away = record {
  sound = s.sound;
  led = led;
  whole = λ u. elim (s.whole u) as (λ _. Contains ready u ⊎ LeadsAway W.awaited ready (λ v. IsLost T v
      ⊎ IsOpenType W.awaited ready queue v) u) [
        | inl there ↦ inl there
        | inr h ↦ inr (away_set queue n past away h)
      ];
}

-- the type waits for one that doesn't wait for it
pub learning_waits : {T : Table} {ready : List TypeId} {V W : Waiting} {t x : TypeId} (queue : List TypeId)
    → IsLooking T ready V queue t → IsSet V.awaited W.awaited t x → W.left ≡ V.left → Reaches T t x → ¬ Contains ready x
    → ¬ WaitsFor V.awaited x t → IsLearning T ready W queue
learning_waits {T = T} {ready = ready} {V = V} {W = W} {t = t} {x = x} queue s n e r past not =
    waits_where queue s n (led_set s.led n r e) past
    (elim (s.whole x) as (λ _. LeadsAway W.awaited ready (λ v. IsLost T v ⊎ IsOpenType W.awaited ready queue v) x)
    [ inl there ↦ absurd (past there) | inr away ↦ away_apart queue n not away ])

-- the type waits for one that isn't defined
pub learning_missing : {T : Table} {ready : List TypeId} {V W : Waiting} {t x : TypeId} (queue : List TypeId)
    → IsLooking T ready V queue t → IsSet V.awaited W.awaited t x → W.left ≡ V.left → Reaches T t x
    → shape_of T x ≡ None → IsLearning T ready W queue
learning_missing queue s n e r none =
    waits_where queue s n (led_set s.led n r e) (λ there. let d = ready_defined (s.sound.each _ there) in
    none-some _ (sym none ∙ d.1)) (ends (inl (inl none)))

-- no definition makes the type ready
pub learning_hopeless : {T : Table} {ready : List TypeId} {W : Waiting} {t : TypeId} (queue : List TypeId)
    → IsLooking T ready W queue t → IsHopeless T t → IsLearning T ready W queue
learning_hopeless {T = T} {ready = ready} {W = W} {t = t} queue s hopeless = record {
  sound = s.sound;
  led = s.led;
  whole = λ u. elim (s.whole u) as (λ _. Contains ready u ⊎ LeadsAway W.awaited ready (λ v. IsLost T v
      ⊎ IsOpenType W.awaited ready queue v) u) [
        | inl there ↦ inl there
        | inr away ↦ inr (away_as on away)
      ];
}
  where
    on : (v : TypeId) → (IsLost T v ⊎ IsOpenType W.awaited ready queue v) ⊎ (t ≡ v) → IsLost T v
        ⊎ IsOpenType W.awaited ready queue v
    on v (inl h) = h
    on v (inr e) = inl (inr (subst (IsHopeless T) e hopeless))

-- the type is ready
pub learning_ready : {T : Table} {old new queue after met : List TypeId} {W : Waiting} {t : TypeId}
    → IsLooking T old W queue t → AreReady T met → Contains met t → AreAdded W.awaited met old new queue after
    → IsLearning T new W after
learning_ready {T = T} {old = old} {new = new} {after = after} {W = W} {t = t} s ready there a = record {
  sound = added_ready s.sound ready a.added;
  led = s.led;
  whole = λ u. elim (s.whole u) as (λ _. Contains new u ⊎ LeadsAway W.awaited new (λ v. IsLost T v
      ⊎ IsOpenType W.awaited new after v) u) [
        | inl k ↦ inl (adds_keeps a.added u k)
        | inr away ↦ away_added (grows_by a.added) a.queued a.handed (a.added.has t there) away
      ];
}

-- ---- the queue

-- the last one of the queue is looked at
pub queue_looks : {T : Table} {ready old : List TypeId} {W : Waiting} {t : TypeId} (new : List TypeId)
    → IsLearning T ready W old → old ≡ new ++ t ∷ [] → IsLooking T ready W new t
queue_looks {T = T} {ready = ready} {old = old} {W = W} {t = t} new s e = record {
  sound = s.sound;
  led = s.led;
  whole = λ u. elim (s.whole u) as (λ _. Contains ready u
      ⊎ LeadsAway W.awaited ready (λ v. (IsLost T v ⊎ IsOpenType W.awaited ready new v) ⊎ (t ≡ v)) u) [
        | inl there ↦ inl there
        | inr away ↦ inr (away_as on away)
      ];
}
  where
    on : (v : TypeId) → IsLost T v ⊎ IsOpenType W.awaited ready old v → (IsLost T v ⊎ IsOpenType W.awaited ready new v)
        ⊎ (t ≡ v)
    on v (inl l) = inl (inl l)
    on v (inr o) = elim (Contains-push_cases new t v (subst (λ l. Contains l v) e o.0)) as
        (λ _. (IsLost T v ⊎ IsOpenType W.awaited ready new v) ⊎ (t ≡ v)) [
          | inl there ↦ inl (inr (there, o.1))
          | inr same ↦ inr same
        ]

-- or needs no look
pub queue_drops : {T : Table} {ready old : List TypeId} {W : Waiting} {t : TypeId} (new : List TypeId)
    → IsLearning T ready W old → old ≡ new ++ t ∷ [] → IsJudged W.awaited ready t → IsLearning T ready W new
queue_drops {T = T} {ready = ready} {old = old} {W = W} {t = t} new s e j = record {
  sound = s.sound;
  led = s.led;
  whole = λ u. by u (contains_or ready u) (s.whole u);
}
  where
    by : (u : TypeId) → Contains ready u ⊎ ¬ Contains ready u → Contains ready u
        ⊎ LeadsAway W.awaited ready (λ v. IsLost T v ⊎ IsOpenType W.awaited ready old v) u → Contains ready u
        ⊎ LeadsAway W.awaited ready (λ v. IsLost T v ⊎ IsOpenType W.awaited ready new v) u
    by u (inl there) h = inl there
    by u (inr out) (inl there) = absurd (out there)
    by u (inr out) (inr away) =
        inr (away_dropped new j
        (subst (λ l. LeadsAway W.awaited ready (λ v. IsLost T v ⊎ IsOpenType W.awaited ready l v) u) e away) out)

-- at the end nothing is left
pub queue_ends : {T : Table} {ready queue : List TypeId} {W : Waiting} → IsLearning T ready W queue → queue ≡ []
    → AreSettled T ready W
queue_ends {T = T} {ready = ready} {queue = queue} {W = W} s e = record {
  sound = s.sound;
  led = s.led;
  whole = λ u. elim (s.whole u) as (λ _. Contains ready u ⊎ LeadsAway W.awaited ready (IsLost T) u) [
    | inl there ↦ inl there
    | inr away ↦ inr (away_as on away)
  ];
}
  where
    on : (v : TypeId) → IsLost T v ⊎ IsOpenType W.awaited ready queue v → IsLost T v
    on v (inl l) = l
    on v (inr o) = absurd (omega (arith, (subst (λ l. Contains l v) e o.0).1))

-- all that is defined is in the queue, and none waits
pub queue_all : {T : Table} {ready : List TypeId} {W : Waiting} (ids : List TypeId) → AreReady T ready → W.awaited ≡ []
    → W.left ≡ [] → ((u : TypeId) → IsDefined T u → Contains ids u) → IsLearning T ready W ids
queue_all {T = T} {ready = ready} {W = W} ids sound e f each = record {
  sound = sound;
  led = record {
    awaited = λ u w h. absurd (none u h);
    left =
        λ u w h. absurd (none-some _ (sym (ap (lookup (same_id u)) f) ∙ h.there));
  };
  whole = λ u. inr (ends (by u (shape_of T u) refl));
}
  where
    none : {w : TypeId} (u : TypeId) → lookup (same_id u) W.awaited ≡ Some w → ⊥
    none u h = none-some _ (sym (ap (lookup (same_id u)) e) ∙ h)

    by : (u : TypeId) (o : Option Shape) → shape_of T u ≡ o → IsLost T u ⊎ IsOpenType W.awaited ready ids u
    by u None h = inl (inl h)
    by u (Some s) h = inr (each u (s, h), λ w k. absurd (none u k))

-- ---- what is kept

pub settled_kept : {T : Table} {ready : List TypeId} {W : Waiting} → AreSettled T ready W
    → IsKeptReadiness T ready (Some W)
settled_kept {T = T} {ready = ready} s = record {
  sound = s.sound;
  whole = λ u r. elim (s.whole u) as (λ _. Contains ready u) [
    | inl there ↦ there
    | inr away ↦ absurd (away_not s.led away r)
  ];
  settled = s;
}

pub kept_back : {T U : Table} {ready cut : List TypeId} {waits left : Option Waiting} → IsKeptReadiness T ready waits
    → U ≡ T → cut ≡ ready → left ≡ None → IsKeptReadiness U cut left
kept_back {T = T} {ready = ready} {cut = cut} {left = left} kept e f g =
    let by : IsKeptReadiness T ready None = record { sound = kept.sound; whole = kept.whole; settled = tt } in
    subst (λ (V : Table). IsKeptReadiness V cut left) (sym e) (subst (λ (l : List TypeId). IsKeptReadiness T l left)
    (sym f) (subst (λ (w : Option Waiting). IsKeptReadiness T ready w) (sym g) by))

-- ---- what a definition changes

was_keeps : {U : Table} {t : TypeId} {ready : List TypeId} {waits : Option Waiting} (w : WasKept U t ready waits)
    → Keeps w.before U
was_keeps {t = t} w = record {
  shape = λ u s e. subst (λ V. shape_of V u ≡ Some s) (sym w.grown)
      (shape_of-append w.before ((t, w.shape) ∷ []) u s e);
}

-- what was ready is
pub was_ready : {U : Table} {t : TypeId} {ready : List TypeId} {waits : Option Waiting} → WasKept U t ready waits
    → AreReady U ready
was_ready w = record { each = λ u there. ready_on (was_keeps w) (w.kept.sound.each u there) }

-- the new type isn't among it
pub was_apart : {U : Table} {t : TypeId} {ready : List TypeId} {waits : Option Waiting} → WasKept U t ready waits
    → ¬ Contains ready t
was_apart {t = t} w there = let d = ready_defined (w.kept.sound.each t there) in none-some _ (sym w.new ∙ d.1)

-- what wasn't defined isn't, but for the new type
still_lost : (T : Table) (t u : TypeId) (s : Shape) → shape_of T u ≡ None → (shape_of (T ++ (t, s) ∷ []) u ≡ None)
    ⊎ (t ≡ u)
still_lost T t u s none = by (eqb_tells t.0 u.0)
  where
    by : ((t.0 == u.0) ≡ true) × (t.0 ≡ u.0) ⊎ ((t.0 == u.0) ≡ false) × (t.0 ≡ u.0 → ⊥)
        → (shape_of (T ++ (t, s) ∷ []) u ≡ None) ⊎ (t ≡ u)
    by (inl h) = inr (ap (λ (n : ℕ). let v : TypeId = record { 0 = n } in v) h.1)
    by (inr h) = inl (shape_of-append_new T ((t, s) ∷ []) u none ∙ ap (λ b. cond b (Some s) None) h.0)

pub was_looking : {U : Table} {t : TypeId} {ready : List TypeId} {W : Waiting} (queue : List TypeId)
    → WasKept U t ready (Some W) → IsLooking U ready W queue t
was_looking {U = U} {t = t} {ready = ready} {W = W} queue w = record {
  sound = was_ready w;
  led = led_on (was_keeps w) w.kept.settled.led;
  whole = λ u. elim (w.kept.settled.whole u) as (λ _. Contains ready u
      ⊎ LeadsAway W.awaited ready (λ v. (IsLost U v ⊎ IsOpenType W.awaited ready queue v) ⊎ (t ≡ v)) u) [
        | inl there ↦ inl there
        | inr away ↦ inr (away_as on away)
      ];
}
  where
    none : (v : TypeId) → (shape_of (w.before ++ (t, w.shape) ∷ []) v ≡ None) ⊎ (t ≡ v)
        → (IsLost U v ⊎ IsOpenType W.awaited ready queue v) ⊎ (t ≡ v)
    none v (inl h) = inl (inl (inl (ap (λ V. shape_of V v) w.grown ∙ h)))
    none v (inr e) = inr e

    on : (v : TypeId) → IsLost w.before v → (IsLost U v ⊎ IsOpenType W.awaited ready queue v) ⊎ (t ≡ v)
    on v (inl h) = none v (still_lost w.before t v w.shape h)
    on v (inr h) = inl (inl (inr (hopeless_on (was_keeps w) h)))

-- ---- what is handed on

pub hands_none : {ids : List TypeId} {A : AwaitedTypes} {P : TypeId → Type 0} → HandsOn A ids ids P
hands_none = record { each = λ w there. inl there }

pub hands_as : {old new : List TypeId} {A : AwaitedTypes} {P Q : TypeId → Type 0} → HandsOn A old new P
    → ((u : TypeId) → P u → Q u) → HandsOn A old new Q
hands_as {old = old} {A = A} {Q = Q} h on = record {
  each = λ w there. elim (h.each w there) as (λ _. Contains old w
      ⊎ ((u : TypeId) → lookup (same_id u) A ≡ Some w → Q u)) [
        | inl k ↦ inl k
        | inr each ↦ inr (λ u k. on u (each u k))
      ];
}

-- the id was there
pub hands_same : {old now new : List TypeId} {A : AwaitedTypes} {P : TypeId → Type 0} {t : TypeId} → HandsOn A old now P
    → AddsOne now new t false → HandsOn A old new P
hands_same {old = old} {A = A} {P = P} h a = subst (λ l. HandsOn A old l P) (sym a.1) h

-- the id is new
pub hands_one : {old now new queue after : List TypeId} {A : AwaitedTypes} {t : TypeId}
    → HandsOn A old now (Contains queue) → AddsOne now new t true → Grows queue after
    → ((u : TypeId) → lookup (same_id u) A ≡ Some t → Contains after u)
    → HandsOn A old new (Contains after)
hands_one {old = old} {now = now} {after = after} {A = A} {t = t} h a g each =
    record { each = λ w there. by w ((adds_one true a).only w there) }
  where
    by : (w : TypeId) → Contains now w ⊎ (t ≡ w) → Contains old w ⊎ ((u : TypeId) → lookup (same_id u) A ≡ Some w
        → Contains after u)
    by w (inl there) = (hands_as h (contains_grown g)).each w there
    by w (inr e) = inr (λ u k. each u (k ∙ ap Some (sym e)))
