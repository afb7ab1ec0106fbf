-- The search: the pairs that were added, in the order of the lengths of their paths.
use Rattle.std.proofs.Common.{◌≡◌, ℕ, zero, suc, ◌+◌, ◌-◌, ◌<◌, ◌≤◌, ◌⊎◌, inl, inr, List, [], ◌∷◌, ◌++◌, length}
use Rattle.std.proofs.Common.{Contains, Option, Some, None, arith, refl, sym, ap, ◌∙◌, subst, length-append, true≢false}
use Rattle.std.proofs.Common.{is_some, get_or, MatchOption, true}
use Rattle.std.proofs.Math.Nat.{eq-or-lt_of_le}
use Rattle.std.proofs.lemmas.Map.Keys.{any_passes_from_place}
use Rattle.std.proofs.lemmas.Map.Made.{is_some-lookup}
use Rattle.std.proofs.lemmas.Option.{slice_get_within, slice_get-get_or}
use Rattle.std.specs.Cmp.{nat_eq_equiv}
use Rattle.std.specs.Map.{keys_of, lookup}
use Rattle.std.specs.Prelude.{slice_get, position, ◌==◌, ◌&&◌}
use Rattle.gob_types.specs.declared.id.TypeId.{TypeId}
use Rattle.gob_types.specs.declared.kind.Kind.{Kind}
use Rattle.gob_types.specs.Ready.{IsReady}
use Rattle.gob_types.specs.Ready as types
use Rattle.gob_types.specs.Table.{Table}
use Rattle.gob_types.proofs.PublicLaws.{slice_get-append_left, contains_read, contains_at, some_injective}
use Rattle.gob_types.proofs.PublicLaws as growth
use Rattle.gob_match.specs.declared.found.Origin.{Origin}
use Rattle.gob_match.specs.declared.fault.MatchFault.{MatchFault}
use Rattle.gob_match.specs.declared.fault.MatchFault.TheVariants as fault
use Rattle.gob_match.specs.declared.pair.TypePair.{TypePair}
use Rattle.gob_match.specs.Faults.{IsMatchFault}
use Rattle.gob_match.specs.Machine.Exploring.{EndsAt}
use Rattle.gob_match.specs.declared.reason.ClashReason.{ClashReason}
use Rattle.gob_match.specs.declared.step.TypeStep.{TypeStep}
use Rattle.gob_match.specs.Clashing.{HasClashingShapes, LeadsBySteps, here, onward, IsLeastClash}
use Rattle.gob_match.specs.Machine.Search.{Entry, came, IsPathTo, at_start, from, HasPath, IsAt, AddsPairs}
use Rattle.gob_match.specs.Matching.{HasMatchingShapes, NamesByStep, Match}
use Rattle.gob_match.specs.Pairs.{of_types, NamesPair, element_of_arrays, element_of_slices, key_of_maps}
use Rattle.gob_match.specs.Pairs.{element_of_maps, field_of_structs}
use Rattle.gob_match.proofs.ClashLaws.{match_or_clash_at}
use Rattle.gob_match.proofs.FoundLaws.{same_pair, known_at}

-- ---- lists with more behind them

pub slice_get-append_right : {X : Type 0} (xs ys : List X) (k j : ℕ) → k ≡ length xs + j
    → slice_get (xs ++ ys) k ≡ slice_get ys j
slice_get-append_right [] ys k j e = ap (slice_get ys) (omega (arith, e))
slice_get-append_right (x ∷ xs) ys zero j e = absurd (omega (arith, e))
slice_get-append_right (x ∷ xs) ys (suc k) j e = slice_get-append_right xs ys k j (omega (arith, e))

pub below_or_past : (k n : ℕ) → (k < n) ⊎ (n ≤ k)
below_or_past zero zero = inr (omega arith)
below_or_past zero (suc n) = inl (omega arith)
below_or_past (suc k) zero = inr (omega arith)
below_or_past (suc k) (suc n) = by (below_or_past k n)
  where
    by : (k < n) ⊎ (n ≤ k) → (suc k < suc n) ⊎ (suc n ≤ suc k)
    by (inl h) = inl (omega arith)
    by (inr h) = inr (omega arith)

length-push : (path : List TypeStep) (s : TypeStep) → length (path ++ s ∷ []) ≡ length path + 1
length-push path s = length-append path (s ∷ [])

-- an entry stays where it is when more are appended
pub kept_at : {es : List Entry} (more : List Entry) {k : ℕ} {p : TypePair} → IsAt es k p → IsAt (es ++ more) k p
kept_at {es = es} more {k = k} {p = p} at =
    record {
      origin = at.origin;
      there = slice_get-append_left es more k (slice_get_within es k (p, at.origin) at.there)
          ∙ at.there;
    }

pub at_within : {es : List Entry} {k : ℕ} {p : TypePair} → IsAt es k p → k < length es
at_within {es = es} {k = k} {p = p} at = slice_get_within es k (p, at.origin) at.there

pub at_back : (es more : List Entry) {k : ℕ} {p : TypePair} → k < length es → IsAt (es ++ more) k p → IsAt es k p
at_back es more {k = k} within at = record {
  origin = at.origin;
  there = sym (slice_get-append_left es more k within) ∙
      at.there;
}

pub one_at : {es : List Entry} {k : ℕ} {p q : TypePair} → IsAt es k p → IsAt es k q → p ≡ q
one_at g h = ap (λ (e : Entry). e.0) (some_injective (sym g.there ∙ h.there))

kept_path : {es : List Entry} (more : List Entry) {k : ℕ} {path : List TypeStep} → IsPathTo es k path
    → IsPathTo (es ++ more) k path
kept_path {es = es} more (at_start {p = p} e) = at_start
    (slice_get-append_left es more 0 (slice_get_within es 0 (p, None) e) ∙ e)
kept_path {es = es} more (from {place = k} {before = b} {p = p} {s = s} e below h) =
    from (slice_get-append_left es more k (slice_get_within es k (p, came b s) e) ∙ e) below (kept_path more h)

path_back_to : (es more : List Entry) {k : ℕ} {path : List TypeStep} → k < length es → IsPathTo (es ++ more) k path
    → IsPathTo es k path
path_back_to es more within (at_start e) = at_start (sym (slice_get-append_left es more 0 within) ∙ e)
path_back_to es more within (from {place = k} {before = b} e below h) =
    from (sym (slice_get-append_left es more k within) ∙ e) below
    (path_back_to es more (omega (arith, within, below)) h)

-- ---- what the pairs named are ready for

stream_named : {k l : Kind} {s : TypeStep} {q : TypePair} → NamesPair k l s q → types.Names k q.stream
stream_named element_of_arrays = refl
stream_named element_of_slices = refl
stream_named key_of_maps = inl refl
stream_named element_of_maps = inr refl
stream_named (field_of_structs f g) = record { number = f.number; field = f.field; there = f.there; type = f.typed }

wanted_named : {k l : Kind} {s : TypeStep} {q : TypePair} → NamesPair k l s q → types.Names l q.wanted
wanted_named element_of_arrays = refl
wanted_named element_of_slices = refl
wanted_named key_of_maps = inl refl
wanted_named element_of_maps = inr refl
wanted_named (field_of_structs f g) = record { number = g.number; field = g.field; there = g.there; type = g.typed }

-- both types are ready
pub record IsReadyPair (T U : Table) (p : TypePair) : Type 0 where
  pub stream : IsReady T p.stream
  pub wanted : IsReady U p.wanted

pub named_ready : {T U : Table} {p q : TypePair} {s : TypeStep} → IsReadyPair T U p → NamesByStep T U p s q
    → IsReadyPair T U q
named_ready r n = record {
  stream = growth.names_ready r.stream n.shapes.stream (stream_named n.named);
  wanted =
      growth.names_ready r.wanted n.shapes.wanted (wanted_named n.named);
}

-- ---- the search

-- the pair's names are there, no more than one step further on
pub record NamesAreNear (T U : Table) (es : List Entry) (i : ℕ) (p : TypePair) : Type 0 where
  pub match : HasMatchingShapes T U p
  pub named : (s : TypeStep) (q : TypePair) → NamesByStep T U p s q → (j : ℕ) × IsAt es j q
      × ((x y : List TypeStep) → IsPathTo es i x → IsPathTo es j y → length y ≤ length x + 1)

-- the pair was added from another, which has matching shapes and names it
pub record WasNamed (T U : Table) (es : List Entry) (b : ℕ) (s : TypeStep) (q : TypePair) : Type 0 where
  pub pair : TypePair
  pub at : IsAt es b pair
  pub match : HasMatchingShapes T U pair
  pub named : NamesByStep T U pair s q

-- the first pairs were explored
pub record Searched (T U : Table) (start : TypePair) (es : List Entry) (next : ℕ) : Type 0 where
  pub begins : IsAt es 0 start
  pub first : (k : ℕ) (q : TypePair) → slice_get es k ≡ Some (q, None) → q ≡ start
  pub later : (k b : ℕ) (s : TypeStep) (q : TypePair) → slice_get es k ≡ Some (q, came b s) → WasNamed T U es b s q
  pub paths : (k : ℕ) → k < length es → HasPath es k
  pub rise : (i j : ℕ) (x y : List TypeStep) → i ≤ j → IsPathTo es i x → IsPathTo es j y → length x ≤ length y
  pub near : (j : ℕ) (x y : List TypeStep) → IsPathTo es next x → IsPathTo es j y → length y ≤ length x + 1
  pub done : (i : ℕ) (p : TypePair) → i < next → IsAt es i p → NamesAreNear T U es i p
  pub ready : (i : ℕ) (p : TypePair) → IsAt es i p → IsReadyPair T U p

-- ---- the start

abbrev pub alone : TypePair → List Entry
alone p = (p, None) ∷ []

only_start : {p : TypePair} {k : ℕ} {path : List TypeStep} → IsPathTo (alone p) k path → (k ≡ 0) × (path ≡ [])
only_start (at_start e) = (refl, refl)
only_start (from {place = zero} e below h) = absurd (omega (arith, below))
only_start (from {place = suc k} e below h) = let f = e in cc

pub searched_start : {T U : Table} (p : TypePair) → IsReadyPair T U p → Searched T U p (alone p) 0
searched_start {T = T} {U = U} p r = record {
  begins = record { origin = None; there = refl };
  first = first;
  later = later;
  paths = paths;
  rise = λ i j x y le g h. omega (arith, ap length (only_start g).1);
  near = λ j x y g h. omega (arith, ap length (only_start h).1);
  done = λ i q below at. absurd (omega (arith, below));
  ready = ready;
}
  where
    first : (k : ℕ) (q : TypePair) → slice_get (alone p) k ≡ Some (q, None) → q ≡ p
    first zero q e = sym (ap (λ (x : Entry). x.0) (some_injective e))
    first (suc k) q e = let f = e in cc

    later : (k b : ℕ) (s : TypeStep) (q : TypePair) → slice_get (alone p) k ≡ Some (q, came b s)
        → WasNamed T U (alone p) b s q
    later zero b s q e = let f = ap (λ (x : Entry). x.1) (some_injective e) in absurd (true≢false (sym (ap is_some f)))
    later (suc k) b s q e = absurd (true≢false (sym (ap is_some e)))

    paths : (k : ℕ) → k < 1 → HasPath (alone p) k
    paths zero below = record { path = []; is = at_start refl }
    paths (suc k) below = absurd (omega (arith, below))

    ready : (i : ℕ) (q : TypePair) → IsAt (alone p) i q → IsReadyPair T U q
    ready zero q at = subst (IsReadyPair T U) (ap (λ (x : Entry). x.0) (some_injective at.there)) r
    ready (suc i) q at = absurd (true≢false (sym (ap is_some at.there)))

-- ---- a step

-- the pair at the place was explored, and what it names was added
pub searched_on : {T U : Table} {start p : TypePair} {es new : List Entry} {next : ℕ} → Searched T U start es next
    → IsAt es next p → HasMatchingShapes T U p → AddsPairs es new next (NamesByStep T U p)
    → Searched T U start new (next + 1)
searched_on {T = T} {U = U} {start = start} {p = p} {es = es} {new = new} {next = next} r at match added =
    subst (λ zs. Searched T U start zs (next + 1)) (sym added.grown)
    (record {
      begins = kept_at more r.begins;
      first = first;
      later = later;
      paths = paths;
      rise = rise;
      near = near;
      done = done;
      ready = ready;
    })
  where
    more : List Entry
    more = added.more

    here_in : next < length es
    here_in = at_within at

    -- what stands behind es
    entry_past : (k : ℕ) (e : Entry) → length es ≤ k → slice_get (es ++ more) k ≡ Some e
        → (s : TypeStep) × (q : TypePair)
        × (e ≡ (q, came next s)) × NamesByStep T U p s q
    entry_past k e past there = added.only (k - length es) e
        (sym (slice_get-append_right es more k (k - length es) (omega (arith, past))) ∙ there)

    -- a path there comes from the pair at next
    last_step : {k : ℕ} {y : List TypeStep} → length es ≤ k → IsPathTo (es ++ more) k y → (z : List TypeStep)
        × IsPathTo es next z × (length y ≡ length z + 1)
    last_step past (at_start e) = absurd (omega (arith, past, here_in))
    last_step past (from {place = k} {before = b} {p = q} {s = s} {path = z} e below h) =
        let w = entry_past k (q, came b s) past e in
        let o : Some (record { place = b; step = s }) ≡ Some (record { place = next; step = w.0 }) = ap
        (λ (x : Entry). x.1) w.2 in
        let b_is : b ≡ next = ap (λ x. x.place) (some_injective o) in
        (z, path_back_to es more here_in (subst (λ n. IsPathTo (es ++ more) n z) b_is h), length-push z s)

    first : (k : ℕ) (q : TypePair) → slice_get (es ++ more) k ≡ Some (q, None) → q ≡ start
    first k q there = by (below_or_past k (length es))
      where
        by : (k < length es) ⊎ (length es ≤ k) → q ≡ start
        by (inl within) = r.first k q (sym (slice_get-append_left es more k within) ∙ there)
        by (inr past) = let w = entry_past k (q, None) past there in let f = ap (λ (x : Entry). x.1) w.2 in absurd
            (true≢false (sym (ap is_some f)))

    later : (k b : ℕ) (s : TypeStep) (q : TypePair) → slice_get (es ++ more) k ≡ Some (q, came b s)
        → WasNamed T U (es ++ more) b s q
    later k b s q there = by (below_or_past k (length es))
      where
        by : (k < length es) ⊎ (length es ≤ k) → WasNamed T U (es ++ more) b s q
        by (inl within) = let w = r.later k b s q (sym (slice_get-append_left es more k within) ∙ there) in record
            { pair = w.pair; at = kept_at more w.at; match = w.match; named = w.named }
        by (inr past) =
            let w = entry_past k (q, came b s) past there in
            let o : record { place = b; step = s } ≡ record { place = next; step = w.0 } = some_injective
            (ap (λ (x : Entry). x.1) w.2) in
            let b_is : next ≡ b = sym (ap (λ (x : Origin). x.place) o) in
            let s_is : w.0 ≡ s = sym (ap (λ (x : Origin). x.step) o) in
            let q_is : w.1 ≡ q = sym (ap (λ (x : Entry). x.0) w.2) in
            record {
              pair = p;
              at = subst (λ n. IsAt (es ++ more) n p) b_is (kept_at more at);
              match = match;
              named = subst (λ t. NamesByStep T U p t q) s_is (subst (NamesByStep T U p w.0) q_is w.3);
            }

    paths : (k : ℕ) → k < length (es ++ more) → HasPath (es ++ more) k
    paths k within = by (below_or_past k (length es))
      where
        by : (k < length es) ⊎ (length es ≤ k) → HasPath (es ++ more) k
        by (inl inside) = let h = r.paths k inside in record { path = h.path; is = kept_path more h.is }
        by (inr past) =
            let there = slice_get-get_or (es ++ more) k (p, None) within in
            let w = entry_past k (get_or (es ++ more) k (p, None)) past there in
            let h = r.paths next here_in in
            record {
              path = h.path ++ w.0 ∷ [];
              is = from (there ∙ ap Some w.2) (omega (arith, past, here_in))
                  (kept_path more h.is);
            }

    rise : (i j : ℕ) (x y : List TypeStep) → i ≤ j → IsPathTo (es ++ more) i x → IsPathTo (es ++ more) j y
        → length x ≤ length y
    rise i j x y le g h = by (below_or_past i (length es)) (below_or_past j (length es))
      where
        by : (i < length es) ⊎ (length es ≤ i) → (j < length es) ⊎ (length es ≤ j) → length x ≤ length y
        by (inl within) (inl inside) = r.rise i j x y le (path_back_to es more within g) (path_back_to es more inside h)
        by (inl within) (inr past) = let z = last_step past h in let n = r.near i z.0 x z.1
            (path_back_to es more within g) in omega (arith, n, z.2)
        by (inr past) (inl inside) = absurd (omega (arith, past, inside, le))
        by (inr past) (inr past_too) = let w = last_step past g in let z = last_step past_too h in let n = r.rise next
            next w.0 z.0 (omega arith) w.1 z.1 in omega (arith, n, z.2, w.2)

    -- nothing is further than one step from the pair at next
    near_here : (j : ℕ) (x y : List TypeStep) → IsPathTo (es ++ more) next x → IsPathTo (es ++ more) j y
        → length y ≤ length x + 1
    near_here j x y g h = by (below_or_past j (length es))
      where
        by : (j < length es) ⊎ (length es ≤ j) → length y ≤ length x + 1
        by (inl inside) = r.near j x y (path_back_to es more here_in g) (path_back_to es more inside h)
        by (inr past) = let z = last_step past h in let n = r.rise next next z.0 x (omega arith) z.1
            (path_back_to es more here_in g) in omega (arith, n, z.2)

    this : NamesAreNear T U (es ++ more) next p
    this = record {
      match = match;
      named = λ s w n. let j = added.has s w n in
          (j.0, subst (λ zs. IsAt zs j.0 w) added.grown j.1, λ x y g h. near_here j.0 x y g h);
    }

    near : (j : ℕ) (x y : List TypeStep) → IsPathTo (es ++ more) (next + 1) x → IsPathTo (es ++ more) j y
        → length y ≤ length x + 1
    near j x y g h =
        let z = r.paths next here_in in
        let n = near_here j z.path y (kept_path more z.is) h in
        let m = rise next (next + 1) z.path x (omega arith) (kept_path more z.is) g in
        omega (arith, n, m)

    done : (i : ℕ) (q : TypePair) → i < next + 1 → IsAt (es ++ more) i q → NamesAreNear T U (es ++ more) i q
    done i q below there = by (eq-or-lt_of_le (omega (arith, below)))
      where
        by : (i ≡ next) ⊎ (i < next) → NamesAreNear T U (es ++ more) i q
        by (inr before) =
            let d = r.done i q before (at_back es more (omega (arith, before, here_in)) there) in
            record {
              match = d.match;
              named = λ s w n. let j = d.named s w n in (
                j.0,
                kept_at more j.1,
                λ x y g h. j.2 x y (path_back_to es more (omega (arith, before, here_in)) g)
                    (path_back_to es more (at_within j.1) h),
              );
            }
        by (inl same) =
            let is : p ≡ q = one_at (kept_at more at) (subst (λ n. IsAt (es ++ more) n q) same there) in
            subst (λ n. NamesAreNear T U (es ++ more) n q) (sym same)
            (subst (NamesAreNear T U (es ++ more) next) is this)

    ready : (i : ℕ) (q : TypePair) → IsAt (es ++ more) i q → IsReadyPair T U q
    ready i q there = by (below_or_past i (length es))
      where
        by : (i < length es) ⊎ (length es ≤ i) → IsReadyPair T U q
        by (inl within) = r.ready i q (at_back es more within there)
        by (inr past) =
            let w = entry_past i (q, there.origin) past there.there in
            let q_is : w.1 ≡ q = sym (ap (λ (x : Entry). x.0) w.2) in
            subst (IsReadyPair T U) q_is (named_ready (r.ready next p at) w.3)

-- ---- the end

pub key_at : (es : List Entry) (k : ℕ) (e : Entry) → slice_get es k ≡ Some e → slice_get (keys_of es) k ≡ Some e.0
key_at [] k e there = absurd (true≢false (sym (ap is_some there)))
key_at (x ∷ es) zero e there = ap (λ (x : Entry). Some x.0) (some_injective there)
key_at (x ∷ es) (suc k) e there = key_at es k e there

pub key_back : (es : List Entry) (k : ℕ) (p : TypePair) → slice_get (keys_of es) k ≡ Some p → IsAt es k p
key_back [] k p there = absurd (true≢false (sym (ap is_some there)))
key_back (x ∷ es) zero p there = record {
  origin = x.1;
  there = ap (λ (q : TypePair). Some (q, x.1))
      (some_injective there);
}
key_back (x ∷ es) (suc k) p there = let at = key_back es k p there in record { origin = at.origin; there = at.there }

-- each pair that was added was explored, and so they are a closed list
pub searched_match : {T U : Table} {t u : TypeId} {es : List Entry} {next : ℕ} → Searched T U (of_types t u) es next
    → length es ≤ next → Match T U t u
searched_match {T = T} {U = U} {es = es} {next = next} r whole = record {
  pairs = keys_of es;
  closed = record {
    match = λ p there. let k = contains_at (keys_of es) p there in let at = at_of p k.0 k.1 k.2 k.3 in
        (r.done k.0 p (omega (arith, whole, at_within at)) at).match;
    named = λ p q s there n.
        let k = contains_at (keys_of es) p there in
        let at = at_of p k.0 k.1 k.2 k.3 in
        let j = (r.done k.0 p (omega (arith, whole, at_within at)) at).named s q n in
        in_keys j.0 q j.1;
  };
  holds = in_keys 0 _ r.begins;
}
  where
    at_of : (p : TypePair) (k : ℕ) (q : TypePair) → slice_get (keys_of es) k ≡ Some q → q ≡ p → IsAt es k p
    at_of p k q there is = subst (IsAt es k) is (key_back es k q there)

    in_keys : (k : ℕ) (q : TypePair) → IsAt es k q → Contains (keys_of es) q
    in_keys k q at = contains_read (keys_of es) k q (key_at es k (q, at.origin) at.there)

-- one more step at the end
leads_further : {T U : Table} {p q r : TypePair} {path : List TypeStep} {s : TypeStep} → LeadsBySteps T U path p q
    → HasMatchingShapes T U q → NamesByStep T U q s r → LeadsBySteps T U (path ++ s ∷ []) p r
leads_further here m n = onward m n here
leads_further (onward g h l) m n = onward g h (leads_further l m n)

leads_to : {T U : Table} {start : TypePair} {es : List Entry} {next : ℕ} → Searched T U start es next
    → {q : TypePair} {k : ℕ} {path : List TypeStep} → IsPathTo es k path → IsAt es k q → LeadsBySteps T U path start q
leads_to {T = T} {U = U} {start = start} r {q = q} (at_start {p = p} e) at =
    let is : start ≡ q = sym (r.first 0 p e) ∙ ap (λ (x : Entry). x.0) (some_injective (sym e ∙ at.there)) in
    subst (LeadsBySteps T U [] start) is here
leads_to {T = T} {U = U} {start = start} r {q = q}
    (from {place = k} {before = b} {p = p} {s = s} {path = path} e below h) at =
    let w = r.later k b s p e in
    let is : p ≡ q = ap (λ (x : Entry). x.0) (some_injective (sym e ∙ at.there)) in
    subst (LeadsBySteps T U (path ++ s ∷ []) start) is (leads_further (leads_to r h w.at) w.match w.named)

-- no clash is nearer than the pair that the search comes to
nearest : {T U : Table} {start : TypePair} {es : List Entry} {next : ℕ} {x : List TypeStep} {reason : ClashReason}
    → Searched T U start es next → IsPathTo es next x → {p q : TypePair} {i : ℕ} {y more : List TypeStep}
    → IsAt es i p → IsPathTo es i y → LeadsBySteps T U more p q → HasClashingShapes T U q reason
    → length x ≤ length y + length more
nearest {next = next} {x = x} r g {p = p} {i = i} {y = y} at h here clash =
    elim (below_or_past i next) as (λ _. length x ≤ length y + 0) [
      | inl before ↦ absurd (match_or_clash_at (r.done i p before at).match clash)
      | inr past ↦ let n = r.rise next i x y past g h in omega (arith, n)
    ]
nearest {next = next} {x = x} r g {p = p} {i = i} {y = y} at h (onward {q = w} {s = s} {path = path} m n l) clash =
    elim (below_or_past i next) as (λ _. length x ≤ length y + length (s ∷ path)) [
      | inl before ↦
          let j = (r.done i p before at).named s w n in
          let z = r.paths j.0 (at_within j.1) in
          let rest = nearest r g j.1 z.is l clash in
          let near = j.2 y z.path h z.is in
          omega (arith, rest, near)
      | inr past ↦ let n = r.rise next i x y past g h in omega (arith, n)
    ]

-- no steps lead to the first pair
begins_path : {T U : Table} {start : TypePair} {es : List Entry} {next : ℕ} → Searched T U start es next
    → IsPathTo es 0 []
begins_path {es = es} r = at_zero (r.paths 0 (at_within r.begins)).is
  where
    at_zero : {path : List TypeStep} → IsPathTo es 0 path → IsPathTo es 0 []
    at_zero (at_start e) = at_start e
    at_zero (from e below h) = absurd (omega (arith, below))

pub searched_least : {T U : Table} {t u : TypeId} {p : TypePair} {es : List Entry} {next : ℕ} {path : List TypeStep}
    {reason : ClashReason} → Searched T U (of_types t u) es next → IsAt es next p
    → HasClashingShapes T U p reason → IsPathTo es next path → IsLeastClash T U t u path reason
searched_least {p = p} r at clash h = record {
  clash = record { last = p; leads = leads_to r h at; clash = clash };
  least = λ other why c. let n = nearest r h r.begins (begins_path r) c.leads c.clash in omega (arith, n);
}

-- why the search ends, when it does so at this pair
pub search_ends : {T U : Table} {t u : TypeId} {es : List Entry} {next : ℕ} → Searched T U (of_types t u) es next
    → (f : MatchFault) → EndsAt T U es next f → IsMatchFault T U t u f
search_ends r (fault.Clash path reason) e = searched_least r e.at e.clash e.leads
search_ends r fault.Memory e = tt

-- ---- the place of a pair

pub same_itself : (p : TypePair) → same_pair p p ≡ true
same_itself p = ap (λ b. b && (p.wanted.0 == p.wanted.0)) (nat_eq_equiv.refl p.stream.0) ∙ nat_eq_equiv.refl p.wanted.0

pub place_found : (p : TypePair) (es : List Entry) (r : Option ℕ) → r ≡ position (same_pair p) (keys_of es)
    → is_some r ≡ is_some (lookup (same_pair p) es) → MatchOption r ((k : ℕ) → IsAt es k p → ⊥) (λ k. IsAt es k p)
place_found p es (Some k) e f = known_at p es k (sym e)
place_found p es None e f = λ k at.
    true≢false (sym (any_passes_from_place (same_pair p) (keys_of es) k p (key_at es k (p, at.origin) at.there)
    (same_itself p)) ∙ sym (is_some-lookup (same_pair p) es) ∙ sym f)
