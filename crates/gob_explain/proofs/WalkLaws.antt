-- Rows behind rows, and where a walk over them ends.
use Rattle.std.proofs.Common.{◌≡◌, ℕ, suc, ◌+◌, ◌<◌, ◌≤◌, ◌⊎◌, inl, inr, List, [], ◌∷◌, ◌++◌, length}
use Rattle.std.proofs.Common.{Some, refl, sym, ap, ◌∙◌, subst, append_assoc, arith}
use Rattle.std.specs.Prelude.{Result, Ok, Err, IsErrAnd}
use Rattle.gob_num.specs.Unsigned.{IsUnsigned}
use Rattle.gob_num.specs.Place.{IsUnsignedAt, NoNumberStandsAt}
use Rattle.gob_num.proofs.PublicLaws.{unsigned_fits}
use Rattle.gob_types.specs.declared.id.TypeId.{TypeId}
use Rattle.gob_types.specs.declared.kind.Shape.{Shape}
use Rattle.gob_types.specs.Table.{Table, shape_of}
use Rattle.gob_read.specs.Expected.{Allowed, Allows, a_number, any, raw, delta, tag, first_allowed}
use Rattle.gob_read.specs.Expects.{ExpectsTop}
use Rattle.gob_read.specs.Expected as expected
use Rattle.gob_read.specs.Expects as expects
use Rattle.gob_explain.specs.Open.{Open, a_value}
use Rattle.gob_explain.specs.declared.row.Row.{Row}
use Rattle.gob_explain.specs.declared.row.PartStep.{PartStep}
use Rattle.gob_explain.specs.declared.row.What.{What}
use Rattle.gob_explain.specs.declared.row.What.TheVariants as what
use Rattle.gob_explain.specs.declared.stop.RowStop.{RowStop}
use Rattle.gob_explain.specs.declared.stop.RowStop.TheVariants as stops
use Rattle.gob_explain.specs.Walk.{Awaits, BeginsPart, Ends, RowsLead, Steps, StopsAt, between}
use Rattle.gob_explain.specs.Walk as walk
use Rattle.gob_explain.specs.Machine.Walking.{AllowsRange, Fails, Takes, Tells, Told, Walks, WalksNumber}
use Rattle.gob_explain.specs.Machine.Walking.{WalksRaw, WalksTo}
use Rattle.gob_explain.proofs.BetweenLaws.{between_length, one_there, stands_there}
use Rattle.gob_explain.proofs.RowLaws.{append_nil}
use Rattle.gob_explain.proofs.TakesLaws.{goes_on, itself}

-- ---- rows

pub lead_append : {T : Table} {bytes : List ℕ} {first mid last : List Open} {at place end : ℕ} {rs ss : List Row}
    → RowsLead T bytes first at rs mid place → RowsLead T bytes mid place ss last end
    → RowsLead T bytes first at (rs ++ ss) last end
lead_append walk.no_row q = q
lead_append (walk.row_then r o i s l) q = walk.row_then r o i s (lead_append l q)
lead_append (walk.end_then e l) q = walk.end_then e (lead_append l q)

lead_end : {T : Table} {bytes : List ℕ} {first mid last : List Open} {at end : ℕ} {rs : List Row}
    → RowsLead T bytes first at rs mid end → Ends T mid last → RowsLead T bytes first at rs last end
lead_end walk.no_row e = walk.end_then e walk.no_row
lead_end (walk.row_then r o i s l) e = walk.row_then r o i s (lead_end l e)
lead_end (walk.end_then f l) e = walk.end_then f (lead_end l e)

-- ---- where a walk ends

module _ {S E : Type 0} (tells : Tells S E) where
  -- rows behind rows are one list of them
  abbrev pub Joins : Type 0
  Joins = (a b c : S × List PartStep) (x y : List Row) (r : Result (Unit {0}) E) → tells a b x (Ok tt) → tells b c y r
      → tells a c (x ++ y) r

  -- nothing was told yet
  pub told_nothing : {T : Table} {bytes : List ℕ} {opens : List Open} {at : ℕ} {old new : S × List PartStep}
      {answer : Result (Unit {0}) E} → tells old new [] answer → at ≤ length bytes
      → Told tells T bytes opens at old new answer opens at
  told_nothing p l = record { rows = []; told = p; lead = walk.no_row; order = omega arith; inside = l }

  -- a row was told
  pub told_row : {T : Table} {bytes : List ℕ} {opens last : List Open} {old new : S × List PartStep}
      {answer : Result (Unit {0}) E} (r : Row) → tells old new (r ∷ []) answer → r.begin < r.end → r.end ≤ length bytes
      → Steps T opens r (between r.begin r.end bytes) last → Told tells T bytes opens r.begin old new answer last r.end
  told_row r p o i s = record {
    rows = r ∷ [];
    told = p;
    lead = walk.row_then r o i s walk.no_row;
    order = omega arith;
    inside = i;
  }

  -- that of a number that stands there and is allowed
  pub number_told : {T : Table} {bytes : List ℕ} {first : List Open} {next : ℕ → List ℕ → List Open} {a : Allowed}
      {x : What} {u : TypeId} {d : ℕ} {way : List PartStep} {old new : S × List PartStep}
      {answer : Result (Unit {0}) E} (n at end : ℕ) → Takes T first (a_number a) x u d way next
      → IsUnsignedAt n bytes at end → Allows a n
      → tells old new (record { what = x; id = u; depth = d; number = n; begin = at; end = end } ∷ []) answer
      → Told tells T bytes first at old new answer (next n (between at end bytes)) end
  number_told n at end k s l p = told_row _ p s.order s.inside (k.steps _ _ (refl, refl, refl) (n, s.spelled, l)
      s.spelled)

  -- and that of raw bytes
  pub raw_told : {T : Table} {bytes : List ℕ} {first : List Open} {next : ℕ → List ℕ → List Open} {u : TypeId}
      {d : ℕ} {way : List PartStep} {old new : S × List PartStep} {answer : Result (Unit {0}) E} (n at end : ℕ)
      → Takes T first (raw n) what.Raw u d way next
      → 0 < n → end ≡ at + n → end ≤ length bytes
      → tells old new (record { what = what.Raw; id = u; depth = d; number = n; begin = at; end = end } ∷ []) answer
      → Told tells T bytes first at old new answer (next n (between at end bytes)) end
  raw_told {bytes = bytes} n at end k l e m p =
      let size = between_length bytes at end (omega arith) m in
      told_row _ p (omega arith) m (k.steps _ _ (refl, refl, refl) (omega arith) refl)

  pub told_then : Joins → {T : Table} {bytes : List ℕ} {opens mid last : List Open} {at place end : ℕ}
      {old here new : S × List PartStep} {answer : Result (Unit {0}) E}
      → Told tells T bytes opens at old here (Ok tt) mid place
      → Told tells T bytes mid place here new answer last end → Told tells T bytes opens at old new answer last end
  told_then joins {old = old} {here = here} {new = new} {answer = answer} p q = record {
    rows = p.rows ++ q.rows;
    told = joins old here new p.rows q.rows answer p.told q.told;
    lead = lead_append p.lead q.lead;
    order = omega (arith, p.order, q.order);
    inside = q.inside;
  }

  -- and what is whole ends
  pub told_end : {T : Table} {bytes : List ℕ} {opens mid last : List Open} {at end : ℕ} {old new : S × List PartStep}
      {answer : Result (Unit {0}) E} → Told tells T bytes opens at old new answer mid end → Ends T mid last
      → Told tells T bytes opens at old new answer last end
  told_end p e = record {
    rows = p.rows;
    told = p.told;
    lead = lead_end p.lead e;
    order = p.order;
    inside = p.inside;
  }

  -- no more of the skeleton
  pub told_none : {T : Table} {bytes : List ℕ} {t : TypeId} {base : ℕ} {outer : List Open} {at : ℕ}
      {old new : S × List PartStep} {answer : Result (Unit {0}) E} (p : List ℕ) → tells old new [] answer
      → at ≤ length bytes
      → Told tells T bytes (a_value t base p ∷ outer) at old new answer (a_value t base (p ++ []) ∷ outer) at
  told_none {T = T} {bytes = bytes} {t = t} {base = base} {outer = outer} {at = at} {old = old} {new = new}
      {answer = answer} p h l =
      subst (λ q. Told tells T bytes (a_value t base p ∷ outer) at old new answer (a_value t base q ∷ outer) at)
      (sym (append_nil p)) (told_nothing h l)

  -- more of it behind more of it
  pub told_more : {T : Table} {bytes : List ℕ} {opens : List Open} {t : TypeId} {base : ℕ} {outer : List Open}
      {at end : ℕ} {old new : S × List PartStep} {answer : Result (Unit {0}) E} (p a b : List ℕ)
      → Told tells T bytes opens at old new answer (a_value t base ((p ++ a) ++ b) ∷ outer) end
      → Told tells T bytes opens at old new answer (a_value t base (p ++ (a ++ b)) ∷ outer) end
  told_more {T = T} {bytes = bytes} {opens = opens} {t = t} {base = base} {outer = outer} {at = at} {end = end}
      {old = old} {new = new} {answer = answer} p a b h =
      subst (λ q. Told tells T bytes opens at old new answer (a_value t base q ∷ outer) end) (append_assoc p a b) h

  pub told_three : {T : Table} {bytes : List ℕ} {opens : List Open} {t : TypeId} {base : ℕ} {outer : List Open}
      {at end : ℕ} {old new : S × List PartStep} {answer : Result (Unit {0}) E} (p a b c : List ℕ)
      → Told tells T bytes opens at old new answer (a_value t base ((p ++ (a ++ b)) ++ c) ∷ outer) end
      → Told tells T bytes opens at old new answer (a_value t base (p ++ (a ++ (b ++ c))) ∷ outer) end
  told_three {T = T} {bytes = bytes} {opens = opens} {t = t} {base = base} {outer = outer} {at = at} {end = end}
      {old = old} {new = new} {answer = answer} p a b c h =
      subst (λ q. Told tells T bytes opens at old new answer (a_value t base q ∷ outer) end)
      (append_assoc p (a ++ b) c ∙ ap (λ q. p ++ q) (append_assoc a b c)) h

  pub fails_then : Joins → {T : Table} {bytes : List ℕ} {opens mid : List Open} {at place : ℕ}
      {old here : S × List PartStep} (most : ℕ) (new : S) → Told tells T bytes opens at old here (Ok tt) mid place
      → (f : RowStop E)
      → Fails tells T bytes most mid place here new f → Fails tells T bytes most opens at old new f
  fails_then joins most new p (stops.Here place awaited) q = (q.0, q.1, told_then joins p q.2, q.3, q.4)
  fails_then joins most new p (stops.Sink e) q = (q.0, q.1, q.2, told_then joins p q.3)

  -- a `?` ends the walk
  pub walk_failed : (T : Table) (bytes : List ℕ) (most : ℕ) (t : TypeId) (base : ℕ) (p : List ℕ) (outer : List Open)
      (at : ℕ) (old : S × List PartStep) (new : S) (Whole : List ℕ → Type 0) (f : RowStop E) (q : Result ℕ (RowStop E))
      → IsErrAnd q (λ e. e ≡ f)
      → Fails tells T bytes most (a_value t base p ∷ outer) at old new f
      → Walks tells T bytes most t base p outer at old new Whole q
  walk_failed T bytes most t base p outer at old new Whole f (Ok x) h w = absurd h
  walk_failed T bytes most t base p outer at old new Whole f (Err e) h w =
      subst (λ f. Fails tells T bytes most (a_value t base p ∷ outer) at old new f) (sym h) w

  pub walk_to_failed : (T : Table) (bytes : List ℕ) (most : ℕ) (opens : List Open) (at : ℕ)
      (old : S × List PartStep) (new : S) (last : List Open) (f : RowStop E) (q : Result ℕ (RowStop E))
      → IsErrAnd q (λ e. e ≡ f)
      → Fails tells T bytes most opens at old new f → WalksTo tells T bytes most opens at old new last q
  walk_to_failed T bytes most opens at old new last f (Ok x) h w = absurd h
  walk_to_failed T bytes most opens at old new last f (Err e) h w =
      subst (λ f. Fails tells T bytes most opens at old new f) (sym h) w

  pub number_failed : (T : Table) (bytes : List ℕ) (most : ℕ) (first : List Open) (at : ℕ)
      (old : S × List PartStep) (new : S) (next : ℕ → List ℕ → List Open) (Whole : ℕ → ℕ → Type 0) (f : RowStop E)
      (q : Result (ℕ × ℕ) (RowStop E))
      → IsErrAnd q (λ e. e ≡ f) → Fails tells T bytes most first at old new f
      → WalksNumber tells T bytes most first at old new next Whole q
  number_failed T bytes most first at old new next Whole f (Ok x) h w = absurd h
  number_failed T bytes most first at old new next Whole f (Err e) h w =
      subst (λ f. Fails tells T bytes most first at old new f) (sym h) w

  pub raw_failed : (T : Table) (bytes : List ℕ) (most : ℕ) (first : List Open) (at count : ℕ)
      (old : S × List PartStep) (new : S) (next : ℕ → List ℕ → List Open) (f : RowStop E) (q : Result ℕ (RowStop E))
      → IsErrAnd q (λ e. e ≡ f)
      → Fails tells T bytes most first at old new f → WalksRaw tells T bytes most first at count old new next q
  raw_failed T bytes most first at count old new next f (Ok x) h w = absurd h
  raw_failed T bytes most first at count old new next f (Err e) h w =
      subst (λ f. Fails tells T bytes most first at old new f) (sym h) w

  -- raw bytes end a walk
  pub walks_on_raw : Joins → (W : List ℕ → Type 0) → {T : Table} {t : TypeId} {base : ℕ} {outer : List Open}
      {bytes : List ℕ} {at mid count : ℕ} {old : S × List PartStep} {here : S} (most : ℕ) (new : S) (p a : List ℕ)
      → Told tells T bytes (a_value t base p ∷ outer) at old (here, old.1) (Ok tt) (a_value t base (p ++ a) ∷ outer) mid
      → (r : Result ℕ (RowStop E))
      → WalksRaw tells T bytes most (a_value t base (p ++ a) ∷ outer) mid count (here, old.1) new
      (goes_on t base (p ++ a) outer) r
      → ((b : List ℕ) → length b ≡ count → W (a ++ b)) → Walks tells T bytes most t base p outer at old new W r
  walks_on_raw joins W {bytes = bytes} {mid = mid} most new p a h (Ok end) q f =
      let size = between_length bytes mid end q.0.order q.0.inside in (
        a ++ between mid end bytes,
        f (between mid end bytes) (omega (arith, q.1)),
        told_more p a (between mid end bytes) (told_then joins h q.0),
      )
  walks_on_raw joins W most new p a h (Err e) q f = fails_then joins most new h e q

  -- the rest of a walk ends it
  pub walks_on : Joins → (W : List ℕ → Type 0) → {V : List ℕ → Type 0} {T : Table} {t : TypeId} {base : ℕ}
      {outer : List Open}
      {bytes : List ℕ} {at mid : ℕ} {old : S × List PartStep} {here : S} (most : ℕ) (new : S) (p a : List ℕ)
      → Told tells T bytes (a_value t base p ∷ outer) at old (here, old.1) (Ok tt) (a_value t base (p ++ a) ∷ outer) mid
      → (r : Result ℕ (RowStop E)) → Walks tells T bytes most t base (p ++ a) outer mid (here, old.1) new V r
      → ((b : List ℕ) → V b → W (a ++ b)) → Walks tells T bytes most t base p outer at old new W r
  walks_on joins W most new p a h (Ok end) q f =
      (a ++ q.0, f q.0 q.1, told_more p a q.0 (told_then joins h q.2))
  walks_on joins W most new p a h (Err e) q f = fails_then joins most new h e q

-- nothing stands at the place
pub stops_none : {T : Table} {bytes : List ℕ} {opens : List Open} {a : Allowed} {d at : ℕ} (most : ℕ)
    → Awaits T opens (a_number a) d → NoNumberStandsAt bytes at → StopsAt T bytes most opens at
stops_none {bytes = bytes} {at = at} most w none =
    walk.none_stands (walk.not_there w (λ end m k q. none q.0 end (stands_there bytes at end m k q.1)))

pub nothing_there : {bytes : List ℕ} {at : ℕ} → length bytes ≤ at → NoNumberStandsAt bytes at
nothing_there l = λ n end u. absurd (omega (arith, l, u.order, u.inside))

-- a number stands there that isn't allowed
pub stops_other : {T : Table} {bytes : List ℕ} {opens : List Open} {a : Allowed} {d n at end : ℕ} (most : ℕ)
    → Awaits T opens (a_number a) d → IsUnsignedAt n bytes at end → ¬ Allows a n → StopsAt T bytes most opens at
stops_other {bytes = bytes} {a = a} {at = at} {end = end} most w s denied =
    walk.none_stands (walk.not_there w (λ e m k q. denied (subst (λ i. Allows a i)
    (one_there bytes at e end (stands_there bytes at e m k q.1) s) q.2)))

-- there are too few raw bytes
pub stops_raw : {T : Table} {bytes : List ℕ} {opens : List Open} {d n at : ℕ} (most : ℕ) → Awaits T opens (raw n) d
    → length bytes < at + n → StopsAt T bytes most opens at
stops_raw {bytes = bytes} {at = at} most w few =
    walk.none_stands (walk.not_there w (λ end m k q. let size = between_length bytes at end m k in omega arith))

-- the part lies too deep
pub stops_deep : {T : Table} {bytes : List ℕ} {t u : TypeId} {s : Shape} {p : List ℕ} {outer : List Open}
    {base around d at : ℕ} (most : ℕ) → base + around + 1 ≡ d → BeginsPart T t p u around → shape_of T u ≡ Some s
    → most < d → StopsAt T bytes most (a_value t base p ∷ outer) at
stops_deep {T = T} {t = t} {s = s} {p = p} {base = base} {around = around} most e b f deep =
    let expected = subst (λ p. ExpectsTop T t p (a_number (first_allowed s.kind)) (suc around)) (append_nil p)
    (itself b f expects.first) in
    walk.none_stands (walk.too_deep (walk.awaits_number expected) (omega arith))

-- a number in the range is allowed, and one that isn't in it isn't
pub in_range : (a : Allowed) {least most n : ℕ} {b : List ℕ} → AllowsRange a least most → IsUnsigned n b → least ≤ n
    → n ≤ most → Allows a n
in_range a {n = n} r u l m = (r n (unsigned_fits u)).0 (l, m)

pub out_of_range : (a : Allowed) {least most n : ℕ} {b : List ℕ} → AllowsRange a least most → IsUnsigned n b
    → (n < least) ⊎ (most < n) → ¬ Allows a n
out_of_range a {n = n} r u (inl l) h = let k = (r n (unsigned_fits u)).1 h in absurd (omega (arith, k.0))
out_of_range a {n = n} r u (inr l) h = let k = (r n (unsigned_fits u)).1 h in absurd (omega (arith, k.1))

-- all numbers of 64 bits are allowed where any is
pub any_range : AllowsRange any 0 18446744073709551615
any_range n l = (λ p. tt, λ u. (omega arith, omega arith))

-- the numbers that some kinds begin with
pub delta_range : {k m : ℕ} → m ≡ k → AllowsRange (delta k) 0 m
delta_range e n l = (λ p. omega (arith, p.1), λ u. (omega arith, omega arith))

pub array_range : {k low high : ℕ} → low ≡ k → high ≡ k → AllowsRange (expected.array_count k) low high
array_range d e n l = (λ p. omega (arith, p.0, p.1), λ u. (omega arith, omega arith))

pub tag_range : AllowsRange tag 0 0
tag_range n l = (λ p. omega (arith, p.1), λ u. (omega arith, omega arith))
