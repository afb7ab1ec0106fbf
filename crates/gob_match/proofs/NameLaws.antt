-- Names that are kept in a set.
use Rattle.std.proofs.Common.{◌≡◌, ℕ, zero, suc, ◌+◌, ◌^◌, ◌<◌, ◌≤◌, Bool, true, false, not, List, [], ◌∷◌, ◌++◌}
use Rattle.std.proofs.Common.{length, map, get_or, Contains, Option, Some, None, MatchOption, Bor, nat_eq, arith, refl}
use Rattle.std.proofs.Common.{sym, ap, ◌∙◌, subst, true≢false, is_some, drop, append_assoc, append-nil, length-append}
use Rattle.std.proofs.Common.{◌⊎◌, inl, inr}
use Rattle.std.proofs.Math.Nat.{eq-or-lt_of_le}
use Rattle.std.proofs.lemmas.List.Quantifiers.{position-Some}
use Rattle.std.proofs.lemmas.Option.{slice_get_within, slice_get-get_or}
use Rattle.std.specs.Cmp.Lexicographic.{pointwise, bytes_decides}
use Rattle.std.specs.List.{list_any}
use Rattle.std.specs.Prelude.{slice_get, position, if◌then◌else◌, ◌||◌}
use Rattle.gob_types.specs.declared.kind.Field.{Field}
use Rattle.gob_types.proofs.PublicLaws.{contains_read, contains_at, slice_get-append_left, some_injective}
use Rattle.gob_match.specs.declared.common.CommonField.{CommonField}
use Rattle.gob_match.specs.Machine.Struct.{AddsName, AreNames, AreCommonFields, no_more, missing, common}
use Rattle.gob_match.specs.Pairs.{RepeatsName, of_types}
use Rattle.gob_match.proofs.Loops.{drop_at, drop_all}

abbrev pub Kept : Type 0
Kept = Bor (List ℕ)

abbrev pub same_name : Kept → Kept → Bool
same_name x y = pointwise nat_eq x.now y.now

abbrev pub bytes_of : List Kept → List (List ℕ)
bytes_of = map (λ (name : Kept). name.now)

any_at : (k : Kept) (keys : List Kept) → list_any (same_name k) keys ≡ true → (i : ℕ)
    × (slice_get (bytes_of keys) i ≡ Some k.now)
any_at k [] e = absurd (true≢false (sym e))
any_at k (x ∷ xs) e = by (same_name k x) refl (λ f. any_at k xs f)
  where
    by : (b : Bool) → same_name k x ≡ b
        → (list_any (same_name k) xs ≡ true → (i : ℕ) × (slice_get (bytes_of xs) i ≡ Some k.now)) → (i : ℕ)
        × (slice_get (bytes_of (x ∷ xs)) i ≡ Some k.now)
    by true f rest = (0, ap Some (sym ((bytes_decides k.now x.now).0 f)))
    by false f rest = let h = rest (sym (ap (λ b. b || list_any (same_name k) xs) f) ∙ e) in (suc h.0, h.1)

at_any : (k : Kept) (keys : List Kept) (i : ℕ) → slice_get (bytes_of keys) i ≡ Some k.now
    → list_any (same_name k) keys ≡ true
at_any k [] i e = absurd (true≢false (sym (ap is_some e)))
at_any k (x ∷ xs) zero e = ap (λ b. b || list_any (same_name k) xs)
    ((bytes_decides k.now x.now).1 (sym (some_injective e)))
at_any k (x ∷ xs) (suc i) e = by (same_name k x) refl (at_any k xs i e)
  where
    by : (b : Bool) → same_name k x ≡ b → list_any (same_name k) xs ≡ true → list_any (same_name k) (x ∷ xs) ≡ true
    by true f rest = ap (λ b. b || list_any (same_name k) xs) f
    by false f rest = ap (λ b. b || list_any (same_name k) xs) f ∙ rest

map-push : (xs : List Kept) (x : Kept) → bytes_of (xs ++ x ∷ []) ≡ bytes_of xs ++ x.now ∷ []
map-push [] x = refl
map-push (y ∷ xs) x = ap (λ zs. y.now ∷ zs) (map-push xs x)

pub names_added : (keys new : List Kept) (k : Kept) (r : Bool)
    → new ≡ (if list_any (same_name k) keys then keys else keys ++ k ∷ []) → r ≡ not (list_any (same_name k) keys)
    → AddsName (bytes_of keys) (bytes_of new) k.now r
names_added keys new k r e f = by (list_any (same_name k) keys) refl
  where
    by : (b : Bool) → list_any (same_name k) keys ≡ b → AddsName (bytes_of keys) (bytes_of new) k.now r
    by true any =
        let at = any_at k keys any in
        let told : r ≡ false = f ∙ ap not any in
        let same : new ≡ keys = e ∙ ap (λ b. if b then keys else keys ++ k ∷ []) any in
        subst (AddsName (bytes_of keys) (bytes_of new) k.now) (sym told)
        (contains_read (bytes_of keys) at.0 k.now at.1, ap bytes_of same)
    by false any =
        let told : r ≡ true = f ∙ ap not any in
        let grown : new ≡ keys ++ k ∷ [] = e ∙ ap (λ b. if b then keys else keys ++ k ∷ []) any in
        subst (AddsName (bytes_of keys) (bytes_of new) k.now) (sym told) (
          λ there. let h = contains_at (bytes_of keys) k.now there in true≢false
              (sym (at_any k keys h.0 (h.2 ∙ ap Some h.3)) ∙ any),
          ap bytes_of grown ∙ map-push keys k,
        )

name_at : (k : Kept) (keys : List Kept) (i : ℕ) → i < length keys → same_name k (get_or keys i k) ≡ true
    → slice_get (bytes_of keys) i ≡ Some k.now
name_at k [] i below e = absurd (omega (arith, below))
name_at k (x ∷ xs) zero below e = ap Some (sym ((bytes_decides k.now x.now).0 e))
name_at k (x ∷ xs) (suc i) below e = name_at k xs i (omega (arith, below)) e

pub names_found : (keys : List Kept) (k : Kept) (r : Option ℕ) → r ≡ position (same_name k) keys
    → is_some r ≡ list_any (same_name k) keys
    → MatchOption r (¬ Contains (bytes_of keys) k.now) (λ i. slice_get (bytes_of keys) i ≡ Some k.now)
names_found keys k (Some i) e f = let h = position-Some (same_name k) keys i k (sym e) in name_at k keys i h.0 h.1
names_found keys k None e f = λ there. let h = contains_at (bytes_of keys) k.now there in true≢false
    (sym (at_any k keys h.0 (h.2 ∙ ap Some h.3)) ∙ sym f)

-- ---- the names of fields

-- the names of the first n fields, no two of them the same
pub record NamesSoFar (fields : List Field) (names : List (List ℕ)) (n : ℕ) : Type 0 where
  pub count : length names ≡ n
  pub within : n ≤ length fields
  pub each : (k : ℕ) (f : Field) → k < n → slice_get fields k ≡ Some f → slice_get names k ≡ Some f.name
  pub distinct : (i j : ℕ) (f g : Field) → i < j → j < n → slice_get fields i ≡ Some f → slice_get fields j ≡ Some g
      → f.name ≡ g.name → ⊥

pub names_none : {fields : List Field} → NamesSoFar fields [] 0
names_none = record {
  count = refl;
  within = omega arith;
  each = λ k f below there. absurd (omega (arith, below));
  distinct = λ i j f g apart below a b e. absurd (omega (arith, below));
}

last_at : (xs : List (List ℕ)) (x : List ℕ) (n : ℕ) → n ≡ length xs → slice_get (xs ++ x ∷ []) n ≡ Some x
last_at xs x n e = ap (slice_get (xs ++ x ∷ [])) e ∙ end xs
  where
    end : (xs : List (List ℕ)) → slice_get (xs ++ x ∷ []) (length xs) ≡ Some x
    end [] = refl
    end (y ∷ xs) = end xs

pub names_next : {fields : List Field} {names new : List (List ℕ)} {n : ℕ} {f : Field} → NamesSoFar fields names n
    → slice_get fields n ≡ Some f → AddsName names new f.name true → NamesSoFar fields new (n + 1)
names_next {fields = fields} {names = names} {new = new} {n = n} {f = f} h there a = record {
  count = ap length a.1 ∙ length-append names (f.name ∷ []) ∙ ap (λ m. m + 1) h.count;
  within = let w = slice_get_within fields n f there in omega (arith, w);
  each = each;
  distinct = distinct;
}
  where
    each : (k : ℕ) (g : Field) → k < n + 1 → slice_get fields k ≡ Some g → slice_get new k ≡ Some g.name
    each k g below here = by (eq-or-lt_of_le (omega (arith, below)))
      where
        by : (k ≡ n) ⊎ (k < n) → slice_get new k ≡ Some g.name
        by (inr before) = ap (λ zs. slice_get zs k) a.1
            ∙ slice_get-append_left names (f.name ∷ []) k (omega (arith, before, h.count)) ∙ h.each k g before here
        by (inl same) =
            let is : f ≡ g = some_injective (sym there ∙ ap (slice_get fields) (sym same) ∙ here) in
            ap (λ zs. slice_get zs k) a.1 ∙ last_at names f.name k (same ∙ sym h.count)
            ∙ ap (λ (x : Field). Some x.name) is

    distinct : (i j : ℕ) (g k : Field) → i < j → j < n + 1 → slice_get fields i ≡ Some g → slice_get fields j ≡ Some k
        → g.name ≡ k.name → ⊥
    distinct i j g k apart below at bt e = by (eq-or-lt_of_le (omega (arith, below)))
      where
        by : (j ≡ n) ⊎ (j < n) → ⊥
        by (inr before) = h.distinct i j g k apart before at bt e
        by (inl same) =
            let is : f ≡ k = some_injective (sym there ∙ ap (slice_get fields) (sym same) ∙ bt) in
            a.0 (contains_read names i f.name (h.each i g (omega (arith, apart, same)) at ∙ ap Some
            (e ∙ ap (λ (x : Field). x.name) (sym is))))

-- a name that is there already
pub names_twice : {fields : List Field} {names : List (List ℕ)} {n : ℕ} {f : Field} → NamesSoFar fields names n
    → slice_get fields n ≡ Some f → Contains names f.name → RepeatsName fields
names_twice {fields = fields} {names = names} {n = n} {f = f} h there known =
    let k = contains_at names f.name known in
    let below : k.0 < n = omega (arith, h.count, slice_get_within names k.0 k.1 k.2) in
    let w = slice_get_within fields n f there in
    let at = slice_get-get_or fields k.0 f (omega (arith, below, w)) in
    let is = some_injective (sym k.2 ∙ h.each k.0 (get_or fields k.0 f) below at) in
    record {
      first = k.0;
      second = n;
      apart = below;
      one = get_or fields k.0 f;
      other = f;
      one_there = at;
      other_there =
          there;
      same = sym is ∙ k.3;
    }

pub names_all : {fields : List Field} {names : List (List ℕ)} {n : ℕ} → NamesSoFar fields names n → length fields ≤ n
    → AreNames fields names
names_all {fields = fields} h whole = record {
  count = let c = h.count in let w = h.within in omega arith;
  each = λ k f there. h.each k f (omega (arith, whole, slice_get_within fields k f there)) there;
  distinct = λ r. h.distinct r.first r.second r.one r.other r.apart
      (omega (arith, whole, slice_get_within fields r.second r.other r.other_there)) r.one_there r.other_there r.same;
}

-- ---- the fields of both structs

-- the common fields so far, before those of what is left, are those of the whole
pub record CommonSoFar (fs gs : List Field) (n : ℕ) (cs : List CommonField) : Type 0 where
  pub completes : (rest : List CommonField) → AreCommonFields fs n (drop n gs) rest
      → AreCommonFields fs 0 gs (cs ++ rest)

pub common_none : {fs gs : List Field} → CommonSoFar fs gs 0 []
common_none = record { completes = λ rest h. h }

left : {fs : List Field} (gs : List Field) (n : ℕ) {g : Field} {cs : List CommonField} → slice_get gs n ≡ Some g
    → AreCommonFields fs n (g ∷ drop (n + 1) gs) cs → AreCommonFields fs n (drop n gs) cs
left {fs = fs} gs n {g = g} {cs = cs} there h = subst (λ zs. AreCommonFields fs n zs cs) (sym (drop_at gs n g there)) h

pub common_missing : {fs gs : List Field} {n : ℕ} {g : Field} {cs : List CommonField} {names : List (List ℕ)}
    → CommonSoFar fs gs n cs → slice_get gs n ≡ Some g → AreNames fs names → ¬ Contains names g.name
    → CommonSoFar fs gs (n + 1) cs
common_missing {gs = gs} {n = n} {g = g} {names = names} h there are absent =
    record {
      completes = λ rest r. h.completes rest
          (left gs n there (missing (λ f. absent (contains_read names f.number g.name
          (are.each f.number f.field f.there ∙ ap Some f.named))) r));
    }

pub common_next : {fs gs : List Field} {n j : ℕ} {f g : Field} {cs new : List CommonField} {c : CommonField}
    {names : List (List ℕ)} → CommonSoFar fs gs n cs → slice_get gs n ≡ Some g → AreNames fs names
    → slice_get names j ≡ Some g.name
    → slice_get fs j ≡ Some f → n + 1 < 2 ^ 64
    → c ≡ record { name = g.name; stream = j; wanted = n; pair = of_types f.id g.id } → new ≡ cs ++ c ∷ []
    → CommonSoFar fs gs (n + 1) new
common_next {fs = fs} {gs = gs} {n = n} {j = j} {f = f} {g = g} {cs = cs} {c = c} h there are named here small is
    grown = record {
      completes = λ rest r.
          subst (AreCommonFields fs 0 gs) (sym (ap (λ zs. zs ++ rest) grown ∙ append_assoc cs (c ∷ []) rest))
          (h.completes (c ∷ rest) (left gs n there (subst (λ x. AreCommonFields fs n (g ∷ drop (n + 1) gs) (x ∷ rest))
          (sym is) (common here (some_injective (sym (are.each j f here) ∙ named)) small r))));
    }

pub common_all : {fs gs : List Field} {n : ℕ} {cs : List CommonField} → CommonSoFar fs gs n cs → length gs ≤ n
    → AreCommonFields fs 0 gs cs
common_all {fs = fs} {gs = gs} {n = n} {cs = cs} h whole = subst (AreCommonFields fs 0 gs) (append-nil cs)
    (h.completes [] (subst (λ zs. AreCommonFields fs n zs []) (sym (drop_all n gs whole)) no_more))

-- what an added name tells
pub added_new : (old new : List (List ℕ)) (name : List ℕ) (b : Bool) → b ≡ true → AddsName old new name b
    → AddsName old new name true
added_new old new name b e a = subst (AddsName old new name) e a

pub added_known : (old new : List (List ℕ)) (name : List ℕ) (b : Bool) → b ≡ false → AddsName old new name b
    → Contains old name
added_known old new name b e a = (subst (AddsName old new name) e a).0

-- a name that was found is that of a field
pub found_within : {fs : List Field} {names : List (List ℕ)} (j : ℕ) (name : List ℕ) → AreNames fs names
    → slice_get names j ≡ Some name → j < length fs
found_within {names = names} j name are there = let w = slice_get_within names j name there in let c = are.count in
    omega arith

pub no_field : {fs : List Field} {names : List (List ℕ)} (j : ℕ) (name : List ℕ) → AreNames fs names
    → slice_get names j ≡ Some name → None ≡ slice_get fs j → ⊥
no_field {fs = fs} j name are there none = absurd
    (true≢false (ap is_some (sym (slice_get-get_or fs j (record { name = name; id = record { 0 = 0 } })
    (found_within j name are there)) ∙ sym none)))
