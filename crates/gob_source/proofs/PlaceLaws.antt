-- Where types and their names stand first tells which come by others, and which names are taken.
use Rattle.std.proofs.Common.{◌≡◌, ◌∙◌, ℕ, ◌+◌, ◌<◌, ◌≤◌, List, [], ◌∷◌, Bool, true, false, ◌==◌, ◌||◌, refl, sym, ap}
use Rattle.std.proofs.Common.{arith, drop, get_or, if◌then◌else◌, is_some, length, Bor, Option, Some, None, le-leb}
use Rattle.std.proofs.Common.{le-ltb, lt-ltb}
use Rattle.std.proofs.lemmas.List.{at_drop_more}
use Rattle.std.proofs.lemmas.Bool.{lt-leb}
use Rattle.std.specs.Map.{lookup}
use Rattle.gob_types.specs.declared.id.TypeId.{TypeId}
use Rattle.gob_types.specs.Machine.Entered.{same_id}
use Rattle.gob_types.specs.Table.{Table, shape_of}
use Rattle.gob_source.specs.Names.{is_named, is_taken}
use Rattle.gob_source.specs.Places.{KnowsIds, KnowsNamed, PutsName, first_id, first_named, precedes, same_name}
use Rattle.gob_source.specs.Places.{stands_by}
use Rattle.gob_source.specs.Source.{comes_by, is_among}

-- the place of one more type, in front of those whose places are known
pub ids_more : (ts : List TypeId) (n i : ℕ) (x : TypeId) (old new : List (TypeId × ℕ)) → n ≡ i + 1 → i < length ts
    → x ≡ get_or ts i x → ((t : TypeId) → lookup (same_id t) new
    ≡ (if same_id x t then Some i else lookup (same_id t) old))
    → KnowsIds n ts old → KnowsIds i ts new
ids_more ts n i x old new e within at puts knows = record { each = each }
  where
    each : (t : TypeId) → lookup (same_id t) new ≡ first_id i (drop i ts) t
    each t =
        puts t ∙ ap (λ p. if same_id x t then Some i else p) (knows.each t)
        ∙ ap (λ m. if same_id x t then Some i else first_id m (drop m ts) t) e
        ∙ sym (at_drop_more (λ l. first_id i l t) ts i x within
        ∙ ap (λ y. first_id i (y ∷ drop (i + 1) ts) t) (sym at))

pub names_more : (T : Table) (ts : List TypeId) (n i : ℕ) (x : TypeId) (old new : List (Bor (List ℕ) × ℕ))
    → n ≡ i + 1 → i < length ts → x ≡ get_or ts i x → PutsName (shape_of T x) i old new → KnowsNamed T n ts old
    → KnowsNamed T i ts new
names_more T ts n i x old new e within at puts knows = record { each = each }
  where
    each : (name : Bor (List ℕ)) → lookup (same_name name) new ≡ first_named T i (drop i ts) name.now
    each name =
        let named = is_named (shape_of T x) name.now in
        puts.each name ∙ ap (λ p. if named then Some i else p) (knows.each name)
        ∙ ap (λ m. if named then Some i else first_named T m (drop m ts) name.now) e
        ∙ sym (at_drop_more (λ l. first_named T i l name.now) ts i x within
        ∙ ap (λ y. first_named T i (y ∷ drop (i + 1) ts) name.now) (sym at))

pub among : (n : ℕ) (ts : List TypeId) (t : TypeId) → is_some (first_id n ts t) ≡ is_among t ts
among n [] t = refl
among n (u ∷ us) t = by (u.0 == t.0) (among (n + 1) us t)
  where
    by : (b : Bool) → is_some (first_id (n + 1) us t) ≡ is_among t us
        → is_some (if b then Some n else first_id (n + 1) us t) ≡ (b || is_among t us)
    by true rest = refl
    by false rest = rest

-- no place is before the first
id_from : (n : ℕ) (ts : List TypeId) (t : TypeId) (k : ℕ) → first_id n ts t ≡ Some k → n ≤ k
id_from n [] t k e = cc
id_from n (u ∷ us) t k e = by (u.0 == t.0) e (id_from (n + 1) us t k)
  where
    by : (b : Bool) → (if b then Some n else first_id (n + 1) us t) ≡ Some k
        → (first_id (n + 1) us t ≡ Some k → n + 1 ≤ k) → n ≤ k
    by true f rest = let same : n ≡ k = cc in omega arith
    by false f rest = let more = rest f in omega arith

named_from : (T : Table) (n : ℕ) (ts : List TypeId) (name : List ℕ) (k : ℕ) → first_named T n ts name ≡ Some k → n ≤ k
named_from T n [] name k e = cc
named_from T n (u ∷ us) name k e = by (is_named (shape_of T u) name) e (named_from T (n + 1) us name k)
  where
    by : (b : Bool) → (if b then Some n else first_named T (n + 1) us name) ≡ Some k
        → (first_named T (n + 1) us name ≡ Some k → n + 1 ≤ k) → n ≤ k
    by true f rest = let same : n ≡ k = cc in omega arith
    by false f rest = let more = rest f in omega arith

first_stands : (n : ℕ) (q : Option ℕ) → ((k : ℕ) → q ≡ Some k → n ≤ k) → stands_by (Some n) q ≡ true
first_stands n None h = refl
first_stands n (Some k) h = le-leb n k (h k refl)

later_stands : (n : ℕ) (p : Option ℕ) → ((k : ℕ) → p ≡ Some k → n + 1 ≤ k) → stands_by p (Some n) ≡ false
later_stands n None h = refl
later_stands n (Some k) h = lt-leb k n (let more = h k refl in omega arith)

pub by_place : (n : ℕ) (ts : List TypeId) (of t : TypeId)
    → stands_by (first_id n ts t) (first_id n ts of) ≡ comes_by ts of t
by_place n [] of t = refl
by_place n (u ∷ us) of t =
    by (u.0 == t.0) (u.0 == of.0) (first_id (n + 1) us t) (first_id (n + 1) us of) (id_from (n + 1) us t)
    (id_from (n + 1) us of) (by_place (n + 1) us of t)
  where
    by : (b d : Bool) (p q : Option ℕ) → ((k : ℕ) → p ≡ Some k → n + 1 ≤ k) → ((k : ℕ) → q ≡ Some k → n + 1 ≤ k)
        → stands_by p q ≡ comes_by us of t
        → stands_by (if b then Some n else p) (if d then Some n else q)
        ≡ (if b then true else (if d then false else comes_by us of t))
    by true true p q hp hq rest = le-leb n n (omega arith)
    by true false p q hp hq rest = first_stands n q (λ k e. let more = hq k e in omega arith)
    by false true p q hp hq rest = later_stands n p hp
    by false false p q hp hq rest = rest

first_precedes : (n : ℕ) (q : Option ℕ) → ((k : ℕ) → q ≡ Some k → n + 1 ≤ k) → precedes (Some n) q ≡ true
first_precedes n None h = refl
first_precedes n (Some k) h = lt-ltb n k (let more = h k refl in omega arith)

none_precedes : (n : ℕ) (p : Option ℕ) → ((k : ℕ) → p ≡ Some k → n ≤ k) → precedes p (Some n) ≡ false
none_precedes n None h = refl
none_precedes n (Some k) h = le-ltb k n (h k refl)

pub by_name : (T : Table) (n : ℕ) (ts : List TypeId) (t : TypeId) (name : List ℕ)
    → precedes (first_named T n ts name) (first_id n ts t) ≡ is_taken T ts t name
by_name T n [] t name = refl
by_name T n (u ∷ us) t name =
    by (u.0 == t.0) (is_named (shape_of T u) name) (first_named T (n + 1) us name) (first_id (n + 1) us t)
    (named_from T (n + 1) us name) (id_from (n + 1) us t) (by_name T (n + 1) us t name)
  where
    by : (b d : Bool) (p q : Option ℕ) → ((k : ℕ) → p ≡ Some k → n + 1 ≤ k) → ((k : ℕ) → q ≡ Some k → n + 1 ≤ k)
        → precedes p q ≡ is_taken T us t name
        → precedes (if d then Some n else p) (if b then Some n else q)
        ≡ (if b then false else (if d then true else is_taken T us t name))
    by true true p q hp hq rest = le-ltb n n (omega arith)
    by true false p q hp hq rest = none_precedes n p (λ k e. let more = hp k e in omega arith)
    by false true p q hp hq rest = first_precedes n q hq
    by false false p q hp hq rest = rest

drop-length : (ts : List TypeId) → drop (length ts) ts ≡ []
drop-length [] = refl
drop-length (t ∷ ts) = drop-length ts

-- behind all no type stands, and none is known
pub ids_none : (ts : List TypeId) (n : ℕ) (es : List (TypeId × ℕ)) → n ≡ length ts → es ≡ [] → KnowsIds n ts es
ids_none ts n es e empty = record { each = each }
  where
    each : (t : TypeId) → lookup (same_id t) es ≡ first_id n (drop n ts) t
    each t =
        ap (λ l. lookup (same_id t) l) empty
        ∙ sym (ap (λ m. first_id n (drop m ts) t) e ∙ ap (λ l. first_id n l t) (drop-length ts))

pub names_none : (T : Table) (ts : List TypeId) (n : ℕ) (es : List (Bor (List ℕ) × ℕ)) → n ≡ length ts → es ≡ []
    → KnowsNamed T n ts es
names_none T ts n es e empty = record { each = each }
  where
    each : (name : Bor (List ℕ)) → lookup (same_name name) es ≡ first_named T n (drop n ts) name.now
    each name =
        ap (λ l. lookup (same_name name) l) empty
        ∙ sym (ap (λ m. first_named T n (drop m ts) name.now) e
        ∙ ap (λ l. first_named T n l name.now) (drop-length ts))
