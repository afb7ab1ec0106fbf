-- What is known of ready types: what a walk past them shows, and what is taken back.
use Rattle.std.proofs.Common.{◌≡◌, ℕ, zero, suc, ◌+◌, ◌≤◌, ◌⊎◌, inl, inr, Bool, true, false, List, [], ◌∷◌, ◌++◌}
use Rattle.std.proofs.Common.{length, Contains, Some, None, true≢false, arith, refl, sym, ap, ◌∙◌, subst, ◌-◌, take}
use Rattle.std.proofs.Common.{length-append}
use Rattle.std.specs.Prelude.{slice_get}
use Rattle.std.specs.List.{list_any}
use Rattle.std.proofs.lemmas.Map.Views.{Contains-from_any, list_any-from_Contains}
use Rattle.std.proofs.Math.Seq.{take-append_seam}
use Rattle.gob_types.specs.Defined.{Defined, IsTable}
use Rattle.std.proofs.lemmas.Option.{slice_get_within, none-some}
use Rattle.std.proofs.lemmas.List.Elements.{Contains-append_left}
use Rattle.gob_types.specs.declared.id.TypeId.{TypeId}
use Rattle.gob_types.specs.declared.kind.Shape.{Shape}
use Rattle.gob_types.specs.Table.{Table, shape_of, IsDefined}
use Rattle.gob_types.specs.Ready.{Names, Leads, here, onward, Reaches, HasRank, plain, filled, IsGrounded, IsReady}
use Rattle.gob_types.specs.Machine.Entered.{same_id}
use Rattle.gob_types.specs.Readiness.{IsAllDefined}
use Rattle.gob_types.specs.Machine.Walk.{AddsAll, AddsOne, KnowsGrounds, Grows, AreAmong}
use Rattle.gob_types.specs.Machine.Kept.{AreNamedBy, IsHopeless, AreReady, NamesAmong, MetPast, prefix}
use Rattle.gob_types.proofs.GrowthLaws.{Keeps, some_injective, reaches_itself, reaches_onward, reaches_on}
use Rattle.gob_types.proofs.GrowthLaws.{ready_defined, ready_grounded}
use Rattle.gob_types.proofs.FirstLaws.{slice_get-append_left, FirstAre, none_first, more_first, first_grown, first_as}
use Rattle.gob_types.proofs.FirstLaws.{all_first, contains_read}
use Rattle.gob_types.proofs.SetLaws.{same_laws, same_exact, adds_keeps, adds_one}
use Rattle.gob_types.proofs.WalkLaws.{reaches_further, reaches_joined}

-- ---- the walk past known types

-- the ids are reached, the type is one of them, and each of the first n of them is known or what it names is among them
pub record MetSoFar (T : Table) (known : List TypeId) (t : TypeId) (ids : List TypeId) (n : ℕ) : Type 0 where
  pub sound : (u : TypeId) → Contains ids u → Reaches T t u
  pub start : Contains ids t
  pub named : FirstAre (λ u. Contains known u ⊎ NamesAmong T ids u) ids n

-- the type alone
pub past_start : (T : Table) (known : List TypeId) (t : TypeId) (ids : List TypeId) → AddsAll [] ids (λ u. t ≡ u)
    → MetSoFar T known t ids 0
past_start T known t ids a = record {
  sound = λ u there. sound u (a.only u there);
  start = a.has t refl;
  named =
      none_first;
}
  where
    sound : (u : TypeId) → Contains [] u ⊎ (t ≡ u) → Reaches T t u
    sound u (inl h) = absurd (omega (arith, h.1))
    sound u (inr e) = subst (Reaches T t) e reaches_itself

-- the next one is known
pub past_known : {T : Table} {known : List TypeId} {t u : TypeId} {ids : List TypeId} {n : ℕ} → MetSoFar T known t ids n
    → slice_get ids n ≡ Some u → Contains known u → MetSoFar T known t ids (n + 1)
past_known m at there = record { sound = m.sound; start = m.start; named = more_first m.named at (inl there) }

-- the next one's names were added
pub past_names : {T : Table} {known : List TypeId} {t u : TypeId} {s : Shape} {ids new : List TypeId} {n : ℕ}
    → MetSoFar T known t ids n → slice_get ids n ≡ Some u → shape_of T u ≡ Some s
    → AddsAll ids new (Names s.kind) → MetSoFar T known t new (n + 1)
past_names {T = T} {known = known} {t = t} {u = u} {s = s} {ids = ids} {new = new} {n = n} m at there a = record {
  sound = λ w h. sound w (a.only w h);
  start = adds_keeps a t m.start;
  named = more_first earlier next (inr this);
}
  where
    sound : (w : TypeId) → Contains ids w ⊎ Names s.kind w → Reaches T t w
    sound w (inl h) = m.sound w h
    sound w (inr names) = reaches_further (m.sound u (contains_read ids n u at)) there names

    onto : (v : TypeId) → Contains known v ⊎ NamesAmong T ids v → Contains known v ⊎ NamesAmong T new v
    onto v (inl h) = inl h
    onto v (inr h) = inr (record { defined = h.defined; each = λ r w e names. adds_keeps a w (h.each r w e names) })

    earlier : FirstAre (λ v. Contains known v ⊎ NamesAmong T new v) new n
    earlier =
        let grown = first_grown a.more m.named (omega (arith, slice_get_within ids n u at)) in
        subst (λ zs. FirstAre (λ v. Contains known v ⊎ NamesAmong T new v) zs n) (sym a.grown) (first_as grown onto)

    next : slice_get new n ≡ Some u
    next = ap (λ zs. slice_get zs n) a.grown ∙ slice_get-append_left ids a.more n (slice_get_within ids n u at) ∙ at

    this : NamesAmong T new u
    this = record {
      defined = (s, there);
      each =
          λ r w e names. a.has w (subst (λ (x : Shape). Names x.kind w) (some_injective (sym e ∙ there)) names);
    }

-- at the end
pub past_all : {T : Table} {known : List TypeId} {t : TypeId} {ids : List TypeId} {n : ℕ} → MetSoFar T known t ids n
    → length ids ≤ n → MetPast T known t ids
past_all m whole = record { sound = m.sound; start = m.start; closed = λ u there. all_first m.named whole there }

-- ---- what a type names

pub names_none : {T : Table} {u : TypeId} {ids : List TypeId} → shape_of T u ≡ None → ids ≡ [] → AreNamedBy T u ids
names_none {T = T} {u = u} none e = record {
  has = λ s w there names. absurd (none-some _ (sym none ∙ there));
  reached =
      λ w h. absurd (omega (arith, (subst (λ l. Contains l w) e h).1));
}

pub names_all : {T : Table} {u : TypeId} {s : Shape} {ids : List TypeId} → shape_of T u ≡ Some s
    → AddsAll [] ids (Names s.kind) → AreNamedBy T u ids
names_all {T = T} {u = u} {s = s} {ids = ids} there a =
    record {
      has = λ r w e names. a.has w (subst (λ (x : Shape). Names x.kind w) (some_injective (sym e ∙ there))
          names);
      reached = λ w h. by w (a.only w h);
    }
  where
    by : (w : TypeId) → Contains [] w ⊎ Names s.kind w → Reaches T u w
    by w (inl h) = absurd (omega (arith, h.1))
    by w (inr names) = reaches_further reaches_itself there names

-- ---- what it shows

-- what a ready type reaches is ready
pub ready_reached : {T : Table} {t u : TypeId} → IsReady T t → Reaches T t u → IsReady T u
ready_reached r h w g = r w (reaches_joined h g)

-- what is reached from one that was met was met too, or is ready
pub inside : {T : Table} {known ids : List TypeId} {t : TypeId} → AreReady T known → MetPast T known t ids
    → (v w : TypeId) (k : ℕ) → Contains ids v → Leads T k v w → Contains ids w ⊎ IsReady T w
inside ready m v w zero there here = inl there
inside {T = T} {known = known} {ids = ids} ready m v w (suc k) there (onward {w = x} {s = s} e names l) =
    elim (m.closed v there) as (λ _. Contains ids w ⊎ IsReady T w) [
      | inl h ↦ inr (ready_reached (ready.each v h) (record { steps = suc k; leads = onward e names l }))
      | inr h ↦ inside ready m x w k (h.each s x e names) l
    ]

-- those that were met are defined
past_defined : {T : Table} {known ids : List TypeId} {t : TypeId} → AreReady T known → MetPast T known t ids
    → (u : TypeId) → Contains ids u → IsDefined T u
past_defined {T = T} ready m u there = elim (m.closed u there) as (λ _. IsDefined T u) [
  | inl h ↦
      ready_defined (ready.each u h)
  | inr h ↦ h.defined
]

-- and so is all that one of them reaches
pub past_complete : {T : Table} {known ids : List TypeId} {t : TypeId} → AreReady T known → MetPast T known t ids
    → (u : TypeId) → Contains ids u → IsAllDefined T u
past_complete {T = T} {ids = ids} ready m u there w h = by (inside ready m u w h.steps there h.leads)
  where
    by : Contains ids w ⊎ IsReady T w → IsDefined T w
    by (inl h) = past_defined ready m w h
    by (inr r) = ready_defined r

-- where they have finite values too, they are ready
pub past_ready : {T : Table} {known ids : List TypeId} {t : TypeId} → AreReady T known → MetPast T known t ids
    → ((u : TypeId) → Contains ids u → IsGrounded T u) → AreReady T ids
past_ready {T = T} {ids = ids} ready m grounded =
    record { each = λ u there w h. by w (inside ready m u w h.steps there h.leads) }
  where
    by : (w : TypeId) → Contains ids w ⊎ IsReady T w → IsDefined T w × IsGrounded T w
    by w (inl h) = (past_defined ready m w h, grounded w h)
    by w (inr r) = (ready_defined r, ready_grounded r)

-- a hopeless type isn't ready
pub hopeless_not : {T : Table} {t : TypeId} → IsHopeless T t → ¬ IsReady T t
hopeless_not h r = h.bottomless (ready_grounded (ready_reached r h.reached))

-- a complete type's shape in the larger table is its shape, so it has the same rank there, and reaches no others
complete_shape : {T U : Table} {t : TypeId} {s : Shape} → Keeps T U → IsAllDefined T t → shape_of U t ≡ Some s
    → shape_of T t ≡ Some s
complete_shape {T = T} {U = U} {t = t} {s = s} keeps c e =
    let d = c t reaches_itself in
    let same : d.0 ≡ s = some_injective (sym (keeps.shape _ _ d.1) ∙ e) in
    d.1 ∙ ap Some same

complete_names : {T : Table} {t w : TypeId} {s : Shape} → IsAllDefined T t → shape_of T t ≡ Some s → Names s.kind w
    → IsAllDefined T w
complete_names c e names u h = c u (reaches_onward e names h)

complete_rank : {T U : Table} {m : ℕ} {t : TypeId} → Keeps T U → IsAllDefined T t → HasRank U m t → HasRank T m t
complete_rank keeps c (plain e p) = plain (complete_shape keeps c e) p
complete_rank keeps c (filled {e = d} {s = s} e k l h) =
    let f = complete_shape keeps c e in
    filled f k l (complete_rank keeps (complete_names c f (subst (λ x. Names x d) (sym k) refl)) h)

complete_leads : {T U : Table} {n : ℕ} {t u : TypeId} → Keeps T U → IsAllDefined T t → Leads U n t u → Leads T n t u
complete_leads keeps c here = here
complete_leads keeps c (onward e names l) = let f = complete_shape keeps c e in
    onward f names (complete_leads keeps (complete_names c f names) l)

pub hopeless_on : {T U : Table} {t : TypeId} → Keeps T U → IsHopeless T t → IsHopeless U t
hopeless_on {T = T} {U = U} keeps h = record {
  end = h.end;
  reached = reaches_on keeps h.reached;
  complete = λ w r. let d = h.complete w (record { steps = r.steps; leads = complete_leads keeps h.complete r.leads })
      in (d.0, keeps.shape _ _ d.1);
  bottomless = λ g. h.bottomless (record { rank = g.rank; has = complete_rank keeps h.complete g.has });
}

pub past_bottomless : {T : Table} {known ids : List TypeId} {t u : TypeId} → AreReady T known → MetPast T known t ids
    → Contains ids u → ¬ IsGrounded T u → IsHopeless T t
past_bottomless {u = u} ready m there bad = record {
  end = u;
  reached = m.sound u there;
  complete =
      past_complete ready m u there;
  bottomless = bad;
}

pub knows_as : {T : Table} {g b h c : List TypeId} → KnowsGrounds T g b → h ≡ g → c ≡ b → KnowsGrounds T h c
knows_as {T = T} {g = g} {b = b} {h = h} known e f = subst (λ l. KnowsGrounds T h l) (sym f)
    (subst (λ l. KnowsGrounds T l b) (sym e) known)

-- ready types have finite values
pub trusted : {T : Table} {known both : List TypeId} → AreReady T known → AreAmong known both → KnowsGrounds T both []
trusted ready a = record {
  have = λ u there. ready_grounded (ready.each u (a.each u there));
  closed =
      λ u there. absurd (omega (arith, there.1));
}

-- ---- what is learnt

pub added_ready : {T : Table} {old met new : List TypeId} → AreReady T old → AreReady T met
    → AddsAll old new (Contains met) → AreReady T new
added_ready {T = T} {old = old} {met = met} o m a = record { each = λ u there. by u (a.only u there) }
  where
    by : (u : TypeId) → Contains old u ⊎ Contains met u → IsReady T u
    by u (inl h) = o.each u h
    by u (inr h) = m.each u h

pub contains_grown : {old new : List TypeId} → Grows old new → (u : TypeId) → Contains old u → Contains new u
contains_grown {old = old} g u there = subst (λ l. Contains l u) (sym g.grown) (Contains-append_left old g.more u there)

-- ---- what is ready, or isn't

pub contains_or : (ids : List TypeId) (u : TypeId) → Contains ids u ⊎ ¬ Contains ids u
contains_or ids u = by (list_any (same_id u) ids) refl
  where
    by : (b : Bool) → list_any (same_id u) ids ≡ b → Contains ids u ⊎ ¬ Contains ids u
    by true e = inl (Contains-from_any same_exact u ids e)
    by false e = inr (λ there. true≢false (sym (list_any-from_Contains same_laws u ids there) ∙ e))

pub no_ready : {T : Table} → AreReady T []
no_ready = record { each = λ u there. absurd (omega (arith, there.1)) }

-- ---- ids of two sets

pub among_none : {first : List TypeId} → AreAmong first []
among_none = record { each = λ u there. absurd (omega (arith, there.1)) }

pub among_more : {first old new : List TypeId} {t : TypeId} (b : Bool) → AreAmong first old → Contains first t
    → AddsOne old new t b → AreAmong first new
among_more {first = first} {old = old} {t = t} b a there h = record { each = λ u new. by u ((adds_one b h).only u new) }
  where
    by : (u : TypeId) → Contains old u ⊎ (t ≡ u) → Contains first u
    by u (inl o) = a.each u o
    by u (inr e) = subst (Contains first) e there

-- ---- what is taken back

prefix_push : (E : Table) (x : TypeId × Shape) → prefix (E ++ x ∷ []) ≡ E
prefix_push E x =
    let e : length (E ++ x ∷ []) - 1 ≡ length E = omega (arith, length-append E (x ∷ [])) in
    ap (λ n. take n (E ++ x ∷ [])) e ∙ take-append_seam E (x ∷ [])

-- what may be taken back is a table
pub prefix_table : {E F : Table} (x : TypeId × Shape) → IsTable E → F ≡ E ++ x ∷ [] → IsTable (prefix F)
prefix_table {E = E} x table e = subst IsTable (sym (ap prefix e ∙ prefix_push E x)) table

pub prefix_entries : {E F G : Table} (x : TypeId × Shape) → F ≡ E ++ x ∷ [] → G ≡ prefix F → G ≡ E
prefix_entries {E = E} x e f = f ∙ ap prefix e ∙ prefix_push E x

pub same_defined : {d e : Defined} → d.entries ≡ e.entries → d.most ≡ e.most → d ≡ e
same_defined {d = d} {e = e} f g =
    ap (λ (T : Table). let x : Defined = record { entries = T; most = d.most } in x) f
    ∙ ap (λ (n : ℕ). let x : Defined = record { entries = e.entries; most = n } in x) g

pub cut_back : {old after cut : List TypeId} {n : ℕ} → Grows old after → n ≡ length old → cut ≡ take n after → cut ≡ old
cut_back {old = old} {after = after} g e f = f ∙ ap (λ k. take k after) e ∙ ap (take (length old)) g.grown
    ∙ take-append_seam old g.more
