-- Lists of ids to which ids are added, but for those that are there.
use Rattle.std.proofs.Common.{◌≡◌, ℕ, suc, ◌+◌, ◌-◌, ◌<◌, ◌≤◌, ◌⊎◌, inl, inr, Bool, true, false, List, [], ◌∷◌, ◌++◌}
use Rattle.std.proofs.Common.{length, Contains, Some, arith, refl, sym, ap, ◌∙◌, subst}
use Rattle.std.specs.Prelude.{slice_get}
use Rattle.std.specs.Cmp.{IsEquivalence, nat_eq_equiv}
use Rattle.std.proofs.lemmas.Option.{slice_get_within}
use Rattle.std.proofs.lemmas.List.Elements.{Contains-append_left, Contains-push, Contains-push_cases}
use Rattle.std.proofs.Common.{append_assoc, append-nil}
use Rattle.std.proofs.Common.{true≢false, length-append, leb, ltb}
use Rattle.std.specs.Prelude.{if◌then◌else◌}
use Rattle.std.specs.List.{list_any}
use Rattle.std.proofs.Math.Nat.{eq-or-lt_of_le}
use Rattle.std.proofs.lemmas.Bool.Decides.{leb_tells}
use Rattle.std.proofs.lemmas.Map.Views.{Contains-from_any, list_any-from_Contains}
use Rattle.gob_types.proofs.GrowthLaws.{some_injective}
use borrow.Author.Tests.{eqb-true}
use Rattle.gob_types.specs.declared.id.TypeId.{TypeId}
use Rattle.gob_types.specs.Machine.Entered.{same_id}
use Rattle.gob_types.specs.Machine.Walk.{AddsAll, AddsOne}

-- equality of ids is that of their numbers
pub same_laws : IsEquivalence same_id
same_laws = record {
  refl = λ x. nat_eq_equiv.refl x.0;
  symm = λ x y. nat_eq_equiv.symm x.0 y.0;
  congr =
      λ x y z. nat_eq_equiv.congr x.0 y.0 z.0;
}

pub same_exact : (x y : TypeId) → same_id x y ≡ true → x ≡ y
same_exact x y e = ap (λ (n : ℕ). let t : TypeId = record { 0 = n } in t) (eqb-true x.0 y.0 e)

-- what was there is there
pub adds_keeps : {xs ys : List TypeId} {P : TypeId → Type 0} → AddsAll xs ys P → (u : TypeId) → Contains xs u
    → Contains ys u
adds_keeps {xs = xs} a u there = subst (λ zs. Contains zs u) (sym a.grown) (Contains-append_left xs a.more u there)

pub adds_nothing : {xs : List TypeId} {P : TypeId → Type 0} → ((u : TypeId) → P u → ⊥) → AddsAll xs xs P
adds_nothing {xs = xs} none = record {
  more = [];
  grown = sym (append-nil xs);
  has = λ u p. absurd (none u p);
  only =
      λ u there. inl there;
}

-- what adds all ids of which one property holds adds all of which an equivalent one holds
pub adds_as : {xs ys : List TypeId} {P Q : TypeId → Type 0} → AddsAll xs ys P → ((u : TypeId) → P u → Q u)
    → ((u : TypeId) → Q u → P u) → AddsAll xs ys Q
adds_as {xs = xs} {ys = ys} {P = P} {Q = Q} a on back = record {
  more = a.more;
  grown = a.grown;
  has = λ u q. a.has u (back u q);
  only = λ u there. elim (a.only u there) as (λ _. Contains xs u ⊎ Q u) [ inl old ↦ inl old | inr p ↦ inr (on u p) ];
}

-- one id
pub adds_one : {xs ys : List TypeId} {t : TypeId} (b : Bool) → AddsOne xs ys t b → AddsAll xs ys (λ u. t ≡ u)
adds_one {xs = xs} {ys = ys} {t = t} true h = record {
  more = t ∷ [];
  grown = h.1;
  has = λ u e. subst (λ zs. Contains zs u) (sym h.1) (subst (Contains (xs ++ t ∷ [])) e (Contains-push xs t));
  only = λ u there. Contains-push_cases xs t u (subst (λ zs. Contains zs u) h.1 there);
}
adds_one {xs = xs} {ys = ys} {t = t} false h = record {
  more = [];
  grown = h.1 ∙ sym (append-nil xs);
  has = λ u e. subst (λ zs. Contains zs u) (sym h.1) (subst (Contains xs) e h.0);
  only = λ u there. inl (subst (λ zs. Contains zs u) h.1 there);
}

-- the room that is left falls with each new id
pub added_less : (xs ys : List TypeId) (t : TypeId) {m : ℕ} → AddsOne xs ys t true → length xs < m
    → m - length ys < m - length xs
added_less xs ys t h within = omega (arith, within, ap length h.1 ∙ length-append xs (t ∷ []))

-- one of the first n of these has this id
pub record IsAmongFirst {X : Type 0} (id_of : X → TypeId) (xs : List X) (n : ℕ) (u : TypeId) : Type 0 where
  pub place : ℕ
  pub item : X
  pub below : place < n
  pub there : slice_get xs place ≡ Some item
  pub is : id_of item ≡ u

pub adds_none_yet : {X : Type 0} {id_of : X → TypeId} {xs : List X} {ids : List TypeId}
    → AddsAll ids ids (IsAmongFirst id_of xs 0)
adds_none_yet = adds_nothing (λ u h. omega (arith, h.below))

pub adds_next : {X : Type 0} {id_of : X → TypeId} {xs : List X} {n : ℕ} {old now new : List TypeId} {x : X}
    → AddsAll old now (IsAmongFirst id_of xs n) → slice_get xs n ≡ Some x → AddsAll now new (λ u. id_of x ≡ u)
    → AddsAll old new (IsAmongFirst id_of xs (n + 1))
adds_next {id_of = id_of} {xs = xs} {n = n} {old = old} {now = now} {new = new} {x = x} a here b = record {
  more = a.more ++ b.more;
  grown = b.grown ∙ ap (λ zs. zs ++ b.more) a.grown ∙ append_assoc old a.more b.more;
  has = λ u h. among u h (eq-or-lt_of_le (omega (arith, h.below)));
  only = λ u there. only_from u (b.only u there);
}
  where
    among : (u : TypeId) (h : IsAmongFirst id_of xs (n + 1) u) → (h.place ≡ n) ⊎ (h.place < n) → Contains new u
    among u h (inr below) =
        adds_keeps b u (a.has u (record { place = h.place; item = h.item; below = below; there = h.there; is = h.is }))
    among u h (inl same) =
        let item : x ≡ h.item = some_injective (sym here ∙ sym (ap (slice_get xs) same) ∙ h.there) in
        b.has u (ap id_of item ∙ h.is)

    later : (u : TypeId) → IsAmongFirst id_of xs n u → IsAmongFirst id_of xs (n + 1) u
    later u h = record { place = h.place; item = h.item; below = omega (arith, h.below); there = h.there; is = h.is }

    last : (u : TypeId) → id_of x ≡ u → IsAmongFirst id_of xs (n + 1) u
    last u e = record { place = n; item = x; below = omega arith; there = here; is = e }

    only_from : (u : TypeId) → Contains now u ⊎ (id_of x ≡ u) → Contains old u ⊎ IsAmongFirst id_of xs (n + 1) u
    only_from u (inr e) = inr (last u e)
    only_from u (inl there) = elim (a.only u there) as (λ _. Contains old u ⊎ IsAmongFirst id_of xs (n + 1) u) [
      | inl h ↦
          inl h
      | inr h ↦ inr (later u h)
    ]

-- all of them, at the end
pub adds_each : {X : Type 0} {id_of : X → TypeId} {xs : List X} {n : ℕ} {old new : List TypeId} {P : TypeId → Type 0}
    → AddsAll old new (IsAmongFirst id_of xs n) → length xs ≤ n
    → ((k : ℕ) (x : X) → slice_get xs k ≡ Some x → P (id_of x)) → ((u : TypeId) → P u → (k : ℕ) × (x : X)
    × (slice_get xs k ≡ Some x) × (id_of x ≡ u)) → AddsAll old new P
adds_each {id_of = id_of} {xs = xs} {P = P} a whole each found =
    adds_as a (λ u h. subst P h.is (each h.place h.item h.there))
    (λ u p. let f = found u p in record {
      place = f.0;
      item = f.1;
      below =
          omega (arith, slice_get_within xs f.0 f.1 f.2);
      there = f.2;
      is = f.3;
    })

-- what a set answers when an id is added
pub added_told : (keys new : List TypeId) (t : TypeId) (m n : ℕ) → new ≡ (if list_any (same_id t) keys then keys else
    keys ++ t ∷ []) → m ≡ length keys → n ≡ length new
    → AddsOne keys new t (ltb m n)
added_told keys new t m n e em en = by (list_any (same_id t) keys) refl (leb_tells (suc m) n)
  where
    by : (b : Bool) → list_any (same_id t) keys ≡ b → ((leb (suc m) n ≡ true) × (suc m ≤ n))
        ⊎ ((leb (suc m) n ≡ false) × (n < suc m))
        → AddsOne keys new t (ltb m n)
    by true f (inl h) =
        let same : new ≡ keys = e ∙ ap (λ c. if c then keys else keys ++ t ∷ []) f in
        absurd (omega (arith, h.1, ap length same))
    by true f (inr h) =
        let same : new ≡ keys = e ∙ ap (λ c. if c then keys else keys ++ t ∷ []) f in
        subst (AddsOne keys new t) (sym h.0) (Contains-from_any same_exact t keys f, same)
    by false f (inl h) =
        let grown : new ≡ keys ++ t ∷ [] = e ∙ ap (λ c. if c then keys else keys ++ t ∷ []) f in
        subst (AddsOne keys new t) (sym h.0) (
          λ there. true≢false (sym (list_any-from_Contains same_laws t keys there)
              ∙ f),
          grown,
        )
    by false f (inr h) =
        let grown : new ≡ keys ++ t ∷ [] = e ∙ ap (λ c. if c then keys else keys ++ t ∷ []) f in
        absurd (omega (arith, h.1, ap length grown ∙ length-append keys (t ∷ [])))

-- what a list of one id holds, or of two
pub one_of : (t u : TypeId) → Contains (t ∷ []) u → t ≡ u
one_of t u there = elim (Contains-push_cases [] t u there) [ inl h ↦ absurd (omega (arith, h.1)) | inr h ↦ h ]

pub of_one : (t u : TypeId) → t ≡ u → Contains (t ∷ []) u
of_one t u e = (0, omega arith, e)

pub two_of : (s t u : TypeId) → Contains (s ∷ t ∷ []) u → (s ≡ u) ⊎ (t ≡ u)
two_of s t u there = elim (Contains-push_cases (s ∷ []) t u there) [ inl h ↦ inl (one_of s u h) | inr h ↦ inr h ]

pub of_two : (s t u : TypeId) → (s ≡ u) ⊎ (t ≡ u) → Contains (s ∷ t ∷ []) u
of_two s t u (inl e) = (0, omega arith, e)
of_two s t u (inr e) = (1, omega arith, e)
