-- Two ready types match or clash, and where they clash there is a least clash.
use Rattle.std.proofs.Common.{◌≡◌, ℕ, zero, suc, ◌+◌, ◌<◌, ◌≤◌, ◌⊎◌, inl, inr, Bool, true, false, List, [], ◌∷◌, ◌++◌}
use Rattle.std.proofs.Common.{length, map, Contains, Option, Some, None, arith, refl, sym, ap, ◌∙◌, subst, true≢false}
use Rattle.std.proofs.Common.{is_some}
use Rattle.std.proofs.Math.Nat.{eq-or-lt_of_le}
use Rattle.std.proofs.lemmas.Option.{slice_get_within}
use Rattle.std.specs.Prelude.{slice_get, ◌==◌, if◌then◌else◌}
use borrow.Author.Tests.{eqb-true}
use Rattle.gob_types.specs.declared.id.TypeId.{TypeId}
use Rattle.gob_types.specs.declared.kind.Shape.{Shape}
use Rattle.gob_types.specs.Ready.{IsReady}
use Rattle.gob_types.specs.Table.{Table, shape_of}
use Rattle.gob_types.proofs.PublicLaws.{contains_read, contains_at, slice_get-append_left, some_injective}
use Rattle.gob_types.proofs.PublicLaws.{reaches_itself}
use Rattle.gob_match.specs.declared.pair.TypePair.{TypePair}
use Rattle.gob_match.specs.declared.reason.ClashReason.{ClashReason}
use Rattle.gob_match.specs.declared.step.TypeStep.{TypeStep}
use Rattle.gob_match.specs.Clashing.{HasClashingShapes, LeadsBySteps, here, onward, ClashAt, IsLeastClash}
use Rattle.gob_match.specs.Matching.{KindsMatch, HasShapes, HasMatchingShapes, NamesByStep, Match}
use Rattle.gob_match.specs.Pairs.{of_types, NamesPair}
use Rattle.gob_match.proofs.ClashLaws.{one_stream, one_wanted, match_or_clash_at}
use Rattle.gob_match.proofs.ConversionLaws.{undefined}
use Rattle.gob_match.proofs.FoundLaws.{same_pair, same_exact}
use Rattle.gob_match.proofs.KindChoice.{items_choice, kinds_choice, Clash, AllNamed, SomeNamed, named_choice}
use Rattle.gob_match.proofs.SearchLaws.{IsReadyPair, named_ready, same_itself, below_or_past, slice_get-append_right}

-- ---- pairs in a list

record In (p : TypePair) (ps : List TypePair) : Type 0 where
  place : ℕ
  there : slice_get ps place ≡ Some p

same_pair_or_not : (p q : TypePair) → (p ≡ q → ⊥) ⊎ (p ≡ q)
same_pair_or_not p q = by (same_pair p q) refl
  where
    by : (b : Bool) → same_pair p q ≡ b → (p ≡ q → ⊥) ⊎ (p ≡ q)
    by true e = inr (same_exact p q e)
    by false e = inl (λ f. true≢false (sym (same_itself p) ∙ ap (same_pair p) f ∙ e))

in_or_not : (p : TypePair) (ps : List TypePair) → In p ps ⊎ ¬ In p ps
in_or_not p ps = elim (items_choice (λ q. p ≡ q → ⊥) (λ q. p ≡ q) ps (λ k q there. same_pair_or_not p q)) as
    (λ _. In p ps ⊎ ¬ In p ps) [
      | inl none ↦ inr (λ m. none m.place p m.there refl)
      | inr r ↦ inl (record { place = r.0; there = r.2 ∙ ap Some (sym r.3) })
    ]

-- the list without the pair at this place
without : ℕ → List TypePair → List TypePair
without k [] = []
without zero (p ∷ ps) = ps
without (suc k) (p ∷ ps) = p ∷ without k ps

without_shorter : (ps : List TypePair) (k n : ℕ) (p : TypePair) → slice_get ps k ≡ Some p → length ps ≤ suc n
    → length (without k ps) ≤ n
unfolding without
without_shorter [] k n p there le = absurd (true≢false (sym (ap is_some there)))
without_shorter (q ∷ ps) zero n p there le = omega arith
without_shorter (q ∷ []) (suc k) n p there le = absurd (true≢false (sym (ap is_some there)))
without_shorter (q ∷ r ∷ ps) (suc k) zero p there le = absurd (omega arith)
without_shorter (q ∷ r ∷ ps) (suc k) (suc n) p there le = let h = without_shorter (r ∷ ps) k n p there (omega arith) in
    omega arith

in_without : (ps : List TypePair) (k j : ℕ) (p q : TypePair) → slice_get ps k ≡ Some p → slice_get ps j ≡ Some q
    → (p ≡ q) ⊎ In q (without k ps)
unfolding without
in_without [] k j p q there at = absurd (true≢false (sym (ap is_some at)))
in_without (r ∷ ps) zero zero p q there at = inl (some_injective (sym there ∙ at))
in_without (r ∷ ps) zero (suc j) p q there at = inr (record { place = j; there = at })
in_without (r ∷ ps) (suc k) zero p q there at = inr (record { place = 0; there = at })
in_without (r ∷ ps) (suc k) (suc j) p q there at = elim (in_without ps k j p q there at) as
    (λ _. (p ≡ q) ⊎ In q (r ∷ without k ps)) [
      | inl e ↦ inl e
      | inr m ↦ inr (record { place = suc m.place; there = m.there })
    ]

-- ---- all pairs of the types of two tables

ids : Table → List TypeId
ids T = map (λ (e : TypeId × Shape). e.0) T

pairs_of : TypeId → List TypeId → List TypePair
pairs_of t us = map (of_types t) us

all_pairs : List TypeId → List TypeId → List TypePair
all_pairs [] us = []
all_pairs (t ∷ ts) us = pairs_of t us ++ all_pairs ts us

defined_id : (T : Table) (t : TypeId) (s : Shape) → shape_of T t ≡ Some s → (k : ℕ) × (slice_get (ids T) k ≡ Some t)
unfolding ids
defined_id [] t s e = absurd (true≢false (sym (ap is_some e)))
defined_id (x ∷ T) t s e = by (x.0.0 == t.0) refl (λ f. defined_id T t s f)
  where
    by : (b : Bool) → (x.0.0 == t.0) ≡ b → (shape_of T t ≡ Some s → (k : ℕ) × (slice_get (ids T) k ≡ Some t)) → (k : ℕ)
        × (slice_get (ids (x ∷ T)) k ≡ Some t)
    by true f rest = let g = eqb-true x.0.0 t.0 f in (0, (λ i. Some (record { 0 = g i })))
    by false f rest = let r = rest (sym (ap (λ b. if b then Some x.1 else shape_of T t) f) ∙ e) in (suc r.0, r.1)

mapped : (t : TypeId) (us : List TypeId) (j : ℕ) (u : TypeId) → slice_get us j ≡ Some u
    → slice_get (pairs_of t us) j ≡ Some (of_types t u)
unfolding pairs_of
mapped t [] j u there = absurd (true≢false (sym (ap is_some there)))
mapped t (v ∷ us) zero u there = ap (λ (v : TypeId). Some (of_types t v)) (some_injective there)
mapped t (v ∷ us) (suc j) u there = mapped t us j u there

in_all : (ts us : List TypeId) (i j : ℕ) (t u : TypeId) → slice_get ts i ≡ Some t → slice_get us j ≡ Some u
    → In (of_types t u) (all_pairs ts us)
unfolding all_pairs
in_all [] us i j t u a b = absurd (true≢false (sym (ap is_some a)))
in_all (v ∷ ts) us zero j t u a b =
    let is : v ≡ t = some_injective a in
    let there = mapped v us j u b in
    record {
      place = j;
      there = slice_get-append_left (pairs_of v us) (all_pairs ts us) j
          (slice_get_within (pairs_of v us) j (of_types v u) there) ∙ there ∙ ap (λ v. Some (of_types v u)) is;
    }
in_all (v ∷ ts) us (suc i) j t u a b =
    let m = in_all ts us i j t u a b in
    record {
      place = length (pairs_of v us) + m.place;
      there = slice_get-append_right (pairs_of v us) (all_pairs ts us)
          (length (pairs_of v us) + m.place) m.place refl ∙ m.there;
    }

-- ---- match or clash

module _ (T U : Table) where
  -- some steps lead to a pair whose shapes clash
  record Clashes (p : TypePair) : Type 0 where
    path : List TypeStep
    reason : ClashReason
    last : TypePair
    leads : LeadsBySteps T U path p last
    clash : HasClashingShapes T U last reason

  -- the pair may stand in a closed list of these
  record IsClosedAt (ps : List TypePair) (p : TypePair) : Type 0 where
    match : HasMatchingShapes T U p
    named : (s : TypeStep) (q : TypePair) → NamesByStep T U p s q → In q ps

  -- what isn't in the list clashes
  record Covers (ps : List TypePair) : Type 0 where
    each : (p : TypePair) → IsReadyPair T U p → In p ps ⊎ Clashes p

  named_at : {p : TypePair} {s r : Shape} → HasShapes T U p s r → {x : TypeStep} {q : TypePair} → NamesByStep T U p x q
      → NamesPair s.kind r.kind x q
  named_at {s = s} {r = r} shapes {x = x} {q = q} n =
      subst (λ (y : Shape). NamesPair y.kind r.kind x q) (one_stream n.shapes shapes)
      (subst (λ (y : Shape). NamesPair n.stream.kind y.kind x q) (one_wanted n.shapes shapes) n.named)

  closed_or_clash : (ps : List TypePair) → Covers ps → (p : TypePair)
      → IsClosedAt ps p ⊎ (IsReadyPair T U p → Clashes p)
  closed_or_clash ps covers p = by (shape_of T p.stream) (shape_of U p.wanted) refl refl
    where
      on : {s r : Shape} → HasShapes T U p s r → KindsMatch s.kind r.kind
          → (n : SomeNamed (λ q. ¬ In q ps) s.kind r.kind) → IsReadyPair T U p → In n.pair ps ⊎ Clashes n.pair
          → Clashes p
      on shapes m n ready (inl i) = absurd (n.holds i)
      on {s = s} {r = r} shapes m n ready (inr c) = record {
        path = n.step ∷ c.path;
        reason = c.reason;
        last = c.last;
        leads = onward (record { stream = s; wanted = r; shapes = shapes; match = m })
            (record { stream = s; wanted = r; shapes = shapes; named = n.named }) c.leads;
        clash = c.clash;
      }

      matching : (s r : Shape) → HasShapes T U p s r → KindsMatch s.kind r.kind
          → AllNamed (λ q. In q ps) s.kind r.kind ⊎ SomeNamed (λ q. ¬ In q ps) s.kind r.kind
          → IsClosedAt ps p ⊎ (IsReadyPair T U p → Clashes p)
      matching s r shapes m (inl all) = inl (record {
        match = record { stream = s; wanted = r; shapes = shapes; match = m };
        named = λ x q n. all.each x q
            (named_at shapes n);
      })
      matching s r shapes m (inr n) = inr (λ ready. on shapes m n ready
          (covers.each n.pair (named_ready ready (record
          { stream = s; wanted = r; shapes = shapes; named = n.named }))))

      defined : (s r : Shape) → HasShapes T U p s r → KindsMatch s.kind r.kind ⊎ Clash s.kind r.kind
          → IsClosedAt ps p ⊎ (IsReadyPair T U p → Clashes p)
      defined s r shapes (inr c) = inr (λ ready. record {
        path = [];
        reason = c.reason;
        last = p;
        leads = here;
        clash = record
            { stream = s; wanted = r; shapes = shapes; clash = c.clash };
      })
      defined s r shapes (inl m) = matching s r shapes m
          (named_choice (λ q. In q ps) (λ q. ¬ In q ps) s.kind r.kind (λ x q n. in_or_not q ps))

      by : (s r : Option Shape) → shape_of T p.stream ≡ s → shape_of U p.wanted ≡ r
          → IsClosedAt ps p ⊎ (IsReadyPair T U p → Clashes p)
      by None r e f = inr (λ ready. absurd (undefined ready.stream (sym e)))
      by (Some s) None e f = inr (λ ready. absurd (undefined ready.wanted (sym f)))
      by (Some s) (Some r) e f = defined s r (record { stream = e; wanted = f }) (kinds_choice s.kind r.kind)

  -- a closed list, and what isn't in it clashes
  record Settled : Type 0 where
    pairs : List TypePair
    closed : (k : ℕ) (p : TypePair) → slice_get pairs k ≡ Some p → IsClosedAt pairs p
    covers : Covers pairs

  -- pairs that clash are left out, one after another
  settle : (n : ℕ) (ps : List TypePair) → length ps ≤ n → Covers ps → Settled
  settle zero [] le covers = record {
    pairs = [];
    closed = λ k p there. absurd (true≢false (sym (ap is_some there)));
    covers = covers;
  }
  settle zero (p ∷ ps) le covers = absurd (omega arith)
  settle (suc n) ps le covers = elim (items_choice (λ p. IsClosedAt ps p) (λ p. IsReadyPair T U p → Clashes p) ps
      (λ k p there. closed_or_clash ps covers p)) as (λ _. Settled) [
        | inl all ↦ record { pairs = ps; closed = all; covers = covers }
        | inr r ↦ settle n (without r.0 ps) (without_shorter ps r.0 n r.1 r.2 le)
            (record { each = λ q ready. left r.0 r.1 r.2 r.3 q ready (covers.each q ready) })
      ]
    where
      left : (k : ℕ) (p : TypePair) → slice_get ps k ≡ Some p → (IsReadyPair T U p → Clashes p) → (q : TypePair)
          → IsReadyPair T U q → In q ps ⊎ Clashes q → In q (without k ps) ⊎ Clashes q
      left k p there clashes q ready (inr c) = inr c
      left k p there clashes q ready (inl m) = elim (in_without ps k m.place p q there m.there) as
          (λ _. In q (without k ps) ⊎ Clashes q) [
            | inl e ↦ inr (subst Clashes e (clashes (subst (IsReadyPair T U) (sym e) ready)))
            | inr i ↦ inl i
          ]

  all_covered : Covers (all_pairs (ids T) (ids U))
  all_covered = record {
    each = λ p ready.
        let d = (ready.stream p.stream reaches_itself).0 in
        let e = (ready.wanted p.wanted reaches_itself).0 in
        let i = defined_id T p.stream d.0 d.1 in
        let j = defined_id U p.wanted e.0 e.1 in
        inl (in_all (ids T) (ids U) i.0 j.0 p.stream p.wanted i.1 j.1);
  }

  pub ready_match_or_clash : (t u : TypeId) → IsReady T t → IsReady U u
      → Match T U t u ⊎ ((path : List TypeStep) × (reason : ClashReason) × ClashAt T U t u path reason)
  ready_match_or_clash t u r s = elim (settled.covers.each (of_types t u) (record { stream = r; wanted = s })) as
      (λ _. Match T U t u ⊎ ((path : List TypeStep) × (reason : ClashReason) × ClashAt T U t u path reason)) [
        | inl m ↦ inl (record {
          pairs = settled.pairs;
          closed = record {
            match = λ p there. (closed_at p there).match;
            named = λ p q s there n. let i =
                (closed_at p there).named s q n in contains_read settled.pairs i.place q i.there;
          };
          holds = contains_read settled.pairs m.place (of_types t u) m.there;
        })
        | inr c ↦ inr (c.path, c.reason, record { last = c.last; leads = c.leads; clash = c.clash })
      ]
    where
      settled : Settled
      settled = settle (length (all_pairs (ids T) (ids U))) (all_pairs (ids T) (ids U)) (omega arith) all_covered

      closed_at : (p : TypePair) → Contains settled.pairs p → IsClosedAt settled.pairs p
      closed_at p there = let k = contains_at settled.pairs p there in settled.closed k.0 p (k.2 ∙ ap Some k.3)

  -- ---- the least clash

  -- so many steps lead to a pair whose shapes clash
  record ClashesIn (n : ℕ) (p : TypePair) : Type 0 where
    path : List TypeStep
    reason : ClashReason
    last : TypePair
    leads : LeadsBySteps T U path p last
    clash : HasClashingShapes T U last reason
    steps : length path ≡ n

  no_steps : {p last : TypePair} {path : List TypeStep} {reason : ClashReason} → HasMatchingShapes T U p
      → LeadsBySteps T U path p last → HasClashingShapes T U last reason → length path ≡ 0 → ⊥
  no_steps m here c e = match_or_clash_at m c
  no_steps m (onward g n l) c e = absurd (omega (arith, e))

  one_step : {n : ℕ} {p last : TypePair} {path : List TypeStep} {reason : ClashReason} → LeadsBySteps T U path p last
      → HasClashingShapes T U last reason → length path ≡ suc n
      → HasMatchingShapes T U p × (s : TypeStep) × (q : TypePair) × NamesByStep T U p s q × ClashesIn n q
  one_step here c e = absurd (omega (arith, e))
  one_step {n = n} (onward {q = q} {s = s} {path = path} m names l) c e =
      (m, s, q, names, record { path = path; reason = _; last = _; leads = l; clash = c; steps = omega (arith, e) })

  -- what two shapes that match name, n steps from a clash or not
  named_in_or_not : {s r : Shape} {p : TypePair} (n : ℕ) → HasShapes T U p s r → KindsMatch s.kind r.kind
      → AllNamed (λ q. ¬ ClashesIn n q) s.kind r.kind ⊎ SomeNamed (ClashesIn n) s.kind r.kind
      → ClashesIn (suc n) p ⊎ ¬ ClashesIn (suc n) p
  named_in_or_not {s = s} {r = r} {p = p} n shapes m (inr some) =
      let c = some.holds in inl (record {
        path = some.step ∷ c.path;
        reason = c.reason;
        last = c.last;
        leads = onward (record { stream = s; wanted = r; shapes = shapes; match = m })
            (record { stream = s; wanted = r; shapes = shapes; named = some.named }) c.leads;
        clash = c.clash;
        steps = ap suc c.steps;
      })
  named_in_or_not {s = s} {r = r} n shapes m (inl none) = inr
      (λ c. let o = one_step c.leads c.clash c.steps in none.each o.1 o.2 (named_at shapes o.3) o.4)

  shaped_in_or_not : {s r : Shape} (n : ℕ) (p : TypePair) → HasShapes T U p s r
      → KindsMatch s.kind r.kind ⊎ Clash s.kind r.kind
      → ((q : TypePair) → (m : ℕ) → n ≡ suc m → ¬ ClashesIn m q ⊎ ClashesIn m q) → ClashesIn n p ⊎ ¬ ClashesIn n p
  shaped_in_or_not {s = s} {r = r} zero p shapes (inr c) step = inl
      (record {
        path = [];
        reason = c.reason;
        last = p;
        leads = here;
        clash = record
            { stream = s; wanted = r; shapes = shapes; clash = c.clash };
        steps = refl;
      })
  shaped_in_or_not {s = s} {r = r} zero p shapes (inl m) step = inr
      (λ c. no_steps (record { stream = s; wanted = r; shapes = shapes; match = m }) c.leads c.clash c.steps)
  shaped_in_or_not {s = s} {r = r} (suc n) p shapes (inr h) step =
      inr (λ c. match_or_clash_at (one_step c.leads c.clash c.steps).0
      (record { stream = s; wanted = r; shapes = shapes; clash = h.clash }))
  shaped_in_or_not {s = s} {r = r} (suc n) p shapes (inl m) step = named_in_or_not n shapes m
      (named_choice (λ q. ¬ ClashesIn n q) (ClashesIn n) s.kind r.kind (λ x q h. step q n refl))

  -- a pair that clashes somewhere has shapes
  has_shapes : {n : ℕ} {p : TypePair} → ClashesIn n p → (s : Shape) × (r : Shape) × HasShapes T U p s r
  has_shapes c = first c.leads c.clash
    where
      first : {p last : TypePair} {path : List TypeStep} {reason : ClashReason} → LeadsBySteps T U path p last
          → HasClashingShapes T U last reason → (s : Shape) × (r : Shape) × HasShapes T U p s r
      first here h = (h.stream, h.wanted, h.shapes)
      first (onward m n l) h = (m.stream, m.wanted, m.shapes)

  -- whether the shapes are there is found out first
  stepped_in_or_not : (n : ℕ) (p : TypePair) → ((q : TypePair) (m : ℕ) → n ≡ suc m → ¬ ClashesIn m q ⊎ ClashesIn m q)
      → ClashesIn n p ⊎ ¬ ClashesIn n p
  stepped_in_or_not n p step = by (shape_of T p.stream) (shape_of U p.wanted) refl refl
    where
      by : (s r : Option Shape) → shape_of T p.stream ≡ s → shape_of U p.wanted ≡ r → ClashesIn n p ⊎ ¬ ClashesIn n p
      by None r e f = inr (λ c. let h = has_shapes c in true≢false (ap is_some (sym h.2.stream ∙ e)))
      by (Some s) None e f = inr (λ c. let h = has_shapes c in true≢false (ap is_some (sym h.2.wanted ∙ f)))
      by (Some s) (Some r) e f = shaped_in_or_not n p (record { stream = e; wanted = f }) (kinds_choice s.kind r.kind)
          step

  clashes_in_or_not : (n : ℕ) (p : TypePair) → ClashesIn n p ⊎ ¬ ClashesIn n p
  clashes_in_or_not zero p = stepped_in_or_not zero p (λ q m e. absurd (omega arith))
  clashes_in_or_not (suc n) p = stepped_in_or_not (suc n) p
      (λ q m e. let same : n ≡ m = omega arith in turned q m same (clashes_in_or_not n q))
    where
      turned : (q : TypePair) (m : ℕ) → n ≡ m → ClashesIn n q ⊎ ¬ ClashesIn n q → ¬ ClashesIn m q ⊎ ClashesIn m q
      turned q m e (inl c) = inr (subst (λ k. ClashesIn k q) e c)
      turned q m e (inr none) = inl (λ c. none (subst (λ k. ClashesIn k q) (sym e) c))

  record HasFirst (p : TypePair) : Type 0 where
    steps : ℕ
    clash : ClashesIn steps p
    none : (k : ℕ) → k < steps → ¬ ClashesIn k p

  first_or_none : (n : ℕ) (p : TypePair) → HasFirst p ⊎ ((k : ℕ) → k < n → ¬ ClashesIn k p)
  first_or_none zero p = inr (λ k below c. absurd (omega arith))
  first_or_none (suc n) p = by (first_or_none n p) (clashes_in_or_not n p)
    where
      by : HasFirst p ⊎ ((k : ℕ) → k < n → ¬ ClashesIn k p) → ClashesIn n p ⊎ ¬ ClashesIn n p
          → HasFirst p ⊎ ((k : ℕ) → k < suc n → ¬ ClashesIn k p)
      by (inl f) r = inl f
      by (inr none) (inl c) = inl (record { steps = n; clash = c; none = none })
      by (inr none) (inr not) = inr (λ k below c. elim (eq-or-lt_of_le (upto k below))
          [ inl e ↦ not (subst (λ k. ClashesIn k p) e c) | inr lt ↦ none k lt c ])
        where
          upto : (k : ℕ) → k < suc n → k ≤ n
          upto k below = omega arith

  pub has_least : {t u : TypeId} {path : List TypeStep} {reason : ClashReason} → ClashAt T U t u path reason
      → (least : List TypeStep) × (why : ClashReason) × IsLeastClash T U t u least why
  has_least {t = t} {u = u} {path = path} {reason = reason} c = by (first_or_none (suc (length path)) (of_types t u))
    where
      none_shorter : (f : HasFirst (of_types t u)) (other : List TypeStep) (why : ClashReason)
          → ClashAt T U t u other why
          → length f.clash.path ≤ length other
      none_shorter f other why d = elim (below_or_past (length other) f.steps) [
        | inl below ↦ absurd (f.none (length other) below
            (record { path = other; reason = why; last = d.last; leads = d.leads; clash = d.clash; steps = refl }))
        | inr past ↦ let e = f.clash.steps in omega arith
      ]

      by : HasFirst (of_types t u) ⊎ ((k : ℕ) → k < suc (length path) → ¬ ClashesIn k (of_types t u))
          → (least : List TypeStep) × (why : ClashReason) × IsLeastClash T U t u least why
      by (inl f) = (
        f.clash.path,
        f.clash.reason,
        record {
          clash = record { last = f.clash.last; leads = f.clash.leads; clash = f.clash.clash };
          least = none_shorter f;
        },
      )
      by (inr none) = absurd (none (length path) (omega arith)
          (record { path = path; reason = reason; last = c.last; leads = c.leads; clash = c.clash; steps = refl }))
