-- Registered names: each once, and type by type.
use Rattle.std.proofs.Common.{◌≡◌, ◌∙◌, ℕ, zero, suc, ◌+◌, ◌<◌, ◌≤◌, arith, List, [], ◌∷◌, ◌++◌, length, take, drop}
use Rattle.std.proofs.Common.{get_or, Bool, true, false, not, ◌==◌, ◌&&◌, ◌||◌, refl, sym, ap, subst, if◌then◌else◌}
use Rattle.std.proofs.Common.{Bor, Some, None, append_assoc, length-append}
use Rattle.std.proofs.lemmas.Bool.{eq-eqb, eqb-true, ne_eqb}
use Rattle.std.proofs.lemmas.List.{at_drop_more, length-take-le, take_more}
use Rattle.std.proofs.lemmas.List.Folds.{list_any-append}
use Rattle.std.proofs.lemmas.Option.{get_or_from_slice_get, slice_get-get_or}
use Rattle.std.specs.Cmp.Lexicographic.{bytes_decides}
use Rattle.std.specs.List.{list_any, slice_get}
use Rattle.std.specs.Str.{bytes_eq}
use Rattle.gob_types.specs.declared.id.TypeId.{TypeId}
use Rattle.gob_types.specs.Machine.Entered.{same_id}
use Rattle.gob_types.specs.Table.{Table}
use Rattle.gob_source.specs.declared.by_type.NamePlace.{NamePlace}
use Rattle.gob_source.specs.declared.registered.Registered.{Registered}
use Rattle.gob_source.specs.Machine.{KnowsSeen, has_name, with_name}
use Rattle.gob_source.specs.Places.{CountsNames, KnowsNamings, PutsNaming, count_in, name_in}
use Rattle.gob_source.specs.Program as program
use Rattle.gob_source.specs.Program.{chosen_text, registration_text}
use Rattle.gob_source.specs.Registered.{Naming, is_naming, name_line, names_of, names_text, naming, namings}
use Rattle.gob_source.specs.Registered.{with_naming}

pub namings_push : (rs : List Registered) (r : Registered) → namings (rs ++ r ∷ []) ≡ namings rs ++ naming r ∷ []
namings_push [] r = refl
namings_push (x ∷ rs) r = ap (λ l. naming x ∷ l) (namings_push rs r)

-- one more of the namings
pub namings_more : (rs : List Registered) (i : ℕ) (r : Registered) → r ≡ get_or rs i r → i < length rs
    → namings (take (i + 1) rs) ≡ namings (take i rs) ++ naming r ∷ []
namings_more rs i r at within =
    ap namings (take_more rs i r within ∙ ap (λ y. take i rs ++ y ∷ []) (sym at)) ∙ namings_push (take i rs) r

-- ---- each once
any_naming : (eq : Registered → Registered → Bool) (k : Registered) (keys : List Registered)
    → ((x : Registered) → eq k x ≡ is_naming (naming k) (naming x))
    → list_any (eq k) keys ≡ list_any (is_naming (naming k)) (namings keys)
any_naming eq k [] same = refl
any_naming eq k (x ∷ xs) same =
    ap (λ b. b || list_any (eq k) xs) (same x)
    ∙ ap (λ b. is_naming (naming k) (naming x) || b) (any_naming eq k xs same)

-- a key that was inserted is a name that was added
pub naming_added : (eq : Registered → Registered → Bool) (keys new : List Registered) (k : Registered)
    → ((x : Registered) → eq k x ≡ is_naming (naming k) (naming x))
    → new ≡ (if list_any (eq k) keys then keys else keys ++ k ∷ [])
    → namings new ≡ with_naming (namings keys) (naming k)
naming_added eq keys new k same e = by (list_any (eq k) keys) refl
  where
    by : (b : Bool) → list_any (eq k) keys ≡ b → namings new ≡ with_naming (namings keys) (naming k)
    by true any =
        ap namings (e ∙ ap (λ b. if b then keys else keys ++ k ∷ []) any)
        ∙ sym (ap (λ b. if b then namings keys else namings keys ++ naming k ∷ [])
        (sym (any_naming eq k keys same) ∙ any))
    by false any =
        ap namings (e ∙ ap (λ b. if b then keys else keys ++ k ∷ []) any) ∙ namings_push keys k
        ∙ sym (ap (λ b. if b then namings keys else namings keys ++ naming k ∷ [])
        (sym (any_naming eq k keys same) ∙ any))

-- ---- type by type
type_at : ℕ → TypeId
type_at n = record { 0 = n }

same_type : (t u : TypeId) → t.0 ≡ u.0 → names_of t ≡ names_of u
unfolding type_at
same_type t u e = ap (λ n. names_of (type_at n)) e

own_name : (t : TypeId) (p : Naming) → List (List ℕ)
own_name t p = if p.0.0 == t.0 then p.1 ∷ [] else []

names_push : (t : TypeId) (ps : List Naming) (p : Naming) → names_of t (ps ++ p ∷ []) ≡ names_of t ps ++ own_name t p
unfolding own_name
names_push t [] p = refl
names_push t (q ∷ ps) p = by (q.0.0 == t.0) (names_push t ps p)
  where
    by : (b : Bool) → names_of t (ps ++ p ∷ []) ≡ names_of t ps ++ own_name t p
        → (if b then q.1 ∷ names_of t (ps ++ p ∷ []) else names_of t (ps ++ p ∷ []))
        ≡ (if b then q.1 ∷ names_of t ps else names_of t ps) ++ own_name t p
    by true e = ap (λ l. q.1 ∷ l) e
    by false e = e

append-nil : {X : Type 0} (xs : List X) → xs ++ [] ≡ xs
append-nil [] = refl
append-nil (x ∷ xs) = ap (λ l. x ∷ l) (append-nil xs)

-- no type has more names than there are
pub few_names : (t : TypeId) (ps : List Naming) → length (names_of t ps) ≤ length ps
few_names t [] = omega arith
few_names t (p ∷ ps) = by (p.0.0 == t.0) (few_names t ps)
  where
    by : (b : Bool) → length (names_of t ps) ≤ length ps
        → length (if b then p.1 ∷ names_of t ps else names_of t ps) ≤ suc (length ps)
    by true h = omega arith
    by false h = omega arith

pub length_namings : (rs : List Registered) → length (namings rs) ≡ length rs
length_namings [] = refl
length_namings (r ∷ rs) = ap suc (length_namings rs)

-- nor as many as a list of which these are the first
pub few_taken : (t : TypeId) (rs : List Registered) (i : ℕ) → i < length rs
    → length (names_of t (namings (take i rs))) ≤ i
few_taken t rs i within =
    let few = few_names t (namings (take i rs)) in
    let same = length_namings (take i rs) in
    let taken = length-take-le i rs (omega arith) in
    omega (arith, few, same, taken)

-- one more of the names of a type was appended
pub name_next : (ns : List (List ℕ)) (i : ℕ) (name : List ℕ) (now new all : List ℕ) → name ≡ get_or ns i name
    → i < length ns → now ++ names_text (drop i ns) ≡ all → new ≡ now ++ name_line name
    → new ++ names_text (drop (i + 1) ns) ≡ all
name_next ns i name now new all at within left adds =
    let rest = drop (i + 1) ns in
    let opened : names_text (drop i ns) ≡ name_line name ++ names_text rest =
    at_drop_more names_text ns i name within ∙ ap (λ y. names_text (y ∷ rest)) (sym at) in
    ap (λ (l : List ℕ). l ++ names_text rest) adds ∙ append_assoc now (name_line name) (names_text rest)
    ∙ ap (λ (l : List ℕ). now ++ l) (sym opened) ∙ left

pub counted_more : (ps : List Naming) (p : Naming) (counts counts' : List (TypeId × ℕ))
    (names names' : List (NamePlace × Bor (List ℕ))) → PutsNaming p counts counts' names names' → CountsNames ps counts
    → CountsNames (ps ++ p ∷ []) counts'
unfolding own_name
counted_more ps p counts counts' names names' puts knows = record { each = each }
  where
    by : (t : TypeId) (b : Bool) → (p.0.0 == t.0) ≡ b
        → (if b then count_in counts p.0 + 1 else count_in counts t)
        ≡ length (names_of t ps ++ (if b then p.1 ∷ [] else []))
    by t true e =
        ap (λ n. n + 1) (knows.each p.0 ∙ ap (λ f. length (f ps)) (same_type p.0 t (eqb-true p.0.0 t.0 e)))
        ∙ sym (length-append (names_of t ps) (p.1 ∷ []))
    by t false e = knows.each t ∙ ap length (sym (append-nil (names_of t ps)))

    each : (t : TypeId) → count_in counts' t ≡ length (names_of t (ps ++ p ∷ []))
    each t = puts.counted t ∙ by t (p.0.0 == t.0) refl ∙ ap length (sym (names_push t ps p))

eqb_suc : (a b : ℕ) → (suc a == suc b) ≡ (a == b)
eqb_suc a b = by (a == b) refl
  where
    by : (d : Bool) → (a == b) ≡ d → (suc a == suc b) ≡ d
    by true e = eq-eqb (suc a) (suc b) (ap suc (eqb-true a b e))
    by false e =
        ne_eqb (suc a) (suc b)
        (λ s. let same : a ≡ b = omega arith in let both : true ≡ false = sym (eq-eqb a b same) ∙ e in cc)

-- the one behind others
at_push : (xs : List (List ℕ)) (y : List ℕ) (k : ℕ)
    → slice_get (xs ++ y ∷ []) k ≡ (if length xs == k then Some y else slice_get xs k)
at_push [] y zero = refl
at_push [] y (suc k) = sym (ap (λ b. if b then Some y else None) (ne_eqb 0 (suc k) (λ e. omega arith)))
at_push (x ∷ xs) y zero =
    sym (ap (λ b. if b then Some y else Some x) (ne_eqb (suc (length xs)) 0 (λ e. omega arith)))
at_push (x ∷ xs) y (suc k) =
    at_push xs y k ∙ sym (ap (λ b. if b then Some y else slice_get xs k) (eqb_suc (length xs) k))

pub named_more : (ps : List Naming) (p : Naming) (counts counts' : List (TypeId × ℕ))
    (names names' : List (NamePlace × Bor (List ℕ))) → PutsNaming p counts counts' names names' → CountsNames ps counts
    → KnowsNamings ps names → KnowsNamings (ps ++ p ∷ []) names'
unfolding own_name
named_more ps p counts counts' names names' puts counted knows = record { each = each }
  where
    by : (x : NamePlace) (b : Bool) → (p.0.0 == x.id.0) ≡ b
        → (if b && (count_in counts p.0 == x.place) then Some p.1 else name_in names x)
        ≡ slice_get (names_of x.id ps ++ (if b then p.1 ∷ [] else [])) x.place
    by x true e =
        ap (λ n. if n == x.place then Some p.1 else name_in names x)
        (counted.each p.0 ∙ ap (λ f. length (f ps)) (same_type p.0 x.id (eqb-true p.0.0 x.id.0 e)))
        ∙ ap (λ o. if length (names_of x.id ps) == x.place then Some p.1 else o) (knows.each x)
        ∙ sym (at_push (names_of x.id ps) p.1 x.place)
    by x false e = knows.each x ∙ ap (λ l. slice_get l x.place) (sym (append-nil (names_of x.id ps)))

    each : (x : NamePlace) → name_in names' x ≡ slice_get (names_of x.id (ps ++ p ∷ [])) x.place
    each x =
        puts.named x ∙ by x (p.0.0 == x.id.0) refl ∙ ap (λ l. slice_get l x.place) (sym (names_push x.id ps p))

-- where a name stands
pub is_there : (xs : List (List ℕ)) (k : ℕ) (y : List ℕ) → Some y ≡ slice_get xs k → y ≡ get_or xs k y
is_there xs k y e = sym (get_or_from_slice_get xs k y y (sym e))

pub is_none : (xs : List (List ℕ)) (k : ℕ) → k < length xs → None ≡ slice_get xs k → ⊥
is_none xs k within e = let none : None ≡ Some (get_or xs k []) = e ∙ slice_get-get_or xs k [] within in cc

-- ---- what was seen
or_absorbs : (a b : Bool) → (b ≡ true → a ≡ true) → a ≡ (a || (b || false))
or_absorbs true b h = refl
or_absorbs false true h = h refl
or_absorbs false false h = refl

-- a test of all that a set has, with one more
any_more : {X : Type 0} (same : X → X → Bool) (xs : List X) (x y : X)
    → (same y x ≡ true → list_any (same x) xs ≡ true → list_any (same y) xs ≡ true)
    → list_any (same y) (if list_any (same x) xs then xs else xs ++ x ∷ [])
    ≡ (list_any (same y) xs || (same y x || false))
any_more same xs x y absorbs = by (list_any (same x) xs) refl
  where
    by : (b : Bool) → list_any (same x) xs ≡ b → list_any (same y) (if b then xs else xs ++ x ∷ [])
        ≡ (list_any (same y) xs || (same y x || false))
    by true has = or_absorbs (list_any (same y) xs) (same y x) (λ e. absorbs e has)
    by false has = list_any-append (same y) xs (x ∷ [])

pub seen_none : KnowsSeen [] [] []
seen_none = record { names_are = λ name. refl; types_are = λ t. refl }

seen_more : (names : List (List ℕ)) (ids : List TypeId) (p : Naming) (seen : List Naming) → KnowsSeen names ids seen
    → KnowsSeen (with_name names p.1) (if list_any (same_id p.0) ids then ids else ids ++ p.0 ∷ []) (seen ++ p ∷ [])
seen_more names ids p seen knows = record { names_are = names_are; types_are = types_are }
  where
    names_are : (name : List ℕ) → has_name name (with_name names p.1) ≡ program.has_name name (seen ++ p ∷ [])
    names_are name =
        any_more bytes_eq names p.1 name
        (λ same has. subst (λ n. has_name n names ≡ true) (sym ((bytes_decides name p.1).0 same)) has)
        ∙ ap (λ b. b || (bytes_eq name p.1 || false)) (knows.names_are name)
        ∙ sym (list_any-append (λ (q : Naming). bytes_eq name q.1) seen (p ∷ []))

    types_are : (t : TypeId) → list_any (same_id t) (if list_any (same_id p.0) ids then ids else ids ++ p.0 ∷ [])
        ≡ program.has_type t (seen ++ p ∷ [])
    types_are t =
        any_more same_id ids p.0 t
        (λ same has. subst (λ n. list_any (λ (u : TypeId). n == u.0) ids ≡ true) (sym (eqb-true t.0 p.0.0 same)) has)
        ∙ ap (λ b. b || ((t.0 == p.0.0) || false)) (knows.types_are t)
        ∙ sym (list_any-append (λ (q : Naming). t.0 == q.0.0) seen (p ∷ []))

-- the text of a name behind those that were seen, as the sets of these say it
pub seen_next : (T : Table) (ts : List TypeId) (names names' : List (List ℕ)) (ids ids' : List TypeId) (p : Naming)
    (new_name new_type : Bool) → new_name ≡ not (has_name p.1 names) → names' ≡ with_name names p.1
    → new_type ≡ not (list_any (same_id p.0) ids)
    → ids' ≡ (if list_any (same_id p.0) ids then ids else ids ++ p.0 ∷ [])
    → (seen : List Naming) → KnowsSeen names ids seen
    → (chosen_text T ts new_name new_type p ≡ registration_text T ts seen p) × KnowsSeen names' ids' (seen ++ p ∷ [])
seen_next T ts names names' ids ids' p new_name new_type n names_now t ids_now seen knows = (
  ap (λ b. chosen_text T ts b new_type p) (n ∙ ap not (knows.names_are p.1))
      ∙ ap (λ b. chosen_text T ts (not (program.has_name p.1 seen)) b p) (t ∙ ap not (knows.types_are p.0)),
  subst (λ (ns : List (List ℕ)). KnowsSeen ns ids' (seen ++ p ∷ [])) (sym names_now)
      (subst (λ (is : List TypeId). KnowsSeen (with_name names p.1) is (seen ++ p ∷ [])) (sym ids_now)
      (seen_more names ids p seen knows)),
)
