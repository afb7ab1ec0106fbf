-- Ids that stand for more and more types.
use Rattle.std.proofs.Common.{◌≡◌, ℕ, List, [], ◌∷◌, ◌⊎◌, inl, inr, Some, Contains, refl, sym, ap, ◌∙◌}
use Rattle.std.proofs.Common.{true, false, Bool, eqb-true, eq-eqb, subst, Result, Ok, Err, OnOk, zero, suc, ◌<◌, arith}
use Rattle.std.specs.Prelude.{◌==◌, get_or}
use Rattle.gob_types.specs.Base.{id}
use Rattle.gob_types.specs.declared.id.TypeId.{TypeId}
use Rattle.gob_join.specs.Renaming.{LetsStand, NewId}
use Rattle.gob_join.specs.Machine.Numbered.{NumbersSome}

pub none_numbered : {ids : List TypeId} {R : NewId} → NumbersSome ids R R
none_numbered = record { extends = record { kept = λ t u e. e }; only = λ t u e. inl e }

pub numbered_on : {ids : List TypeId} {A B C : NewId} → NumbersSome ids A B → NumbersSome ids B C → NumbersSome ids A C
numbered_on {ids = ids} {A = A} {B = B} {C = C} m n = record {
  extends = record { kept = λ t u e. n.extends.kept t u (m.extends.kept t u e) };
  only = λ t u e. by (n.only t u e);
}
  where
    by : {t u : TypeId} → (B t ≡ Some u) ⊎ Contains ids t → (A t ≡ Some u) ⊎ Contains ids t
    by {t = t} {u = u} (inl e) = m.only t u e
    by (inr h) = inr h

-- a list of one type has that one
pub only_one : {own t : TypeId} → Contains (own ∷ []) t → own ≡ t
only_one {own = own} {t = t} h = by h.0 h.1 h.2
  where
    by : (k : ℕ) → k < 1 → get_or (own ∷ []) k t ≡ t → own ≡ t
    by zero l e = e
    by (suc k) l e = absurd (omega (arith, l))

-- one of several
pub numbered_among : {ids : List TypeId} {A B : NewId} (t : TypeId) → Contains ids t → NumbersSome (t ∷ []) A B
    → NumbersSome ids A B
numbered_among {ids = ids} {A = A} own h n = record {
  extends = n.extends;
  only = λ t u e. by (n.only t u e);
}
  where
    one : (t : TypeId) → Contains (own ∷ []) t → Contains ids t
    one t k = subst (λ t. Contains ids t) (only_one k) h

    by : {t u : TypeId} → (A t ≡ Some u) ⊎ Contains (own ∷ []) t → (A t ≡ Some u) ⊎ Contains ids t
    by (inl e) = inl e
    by {t = t} (inr k) = inr (one t k)

pub one_numbered : {old now : NewId} {own new : TypeId} → LetsStand own new old now → NumbersSome (own ∷ []) old now
one_numbered {old = old} {now = now} {own = own} s = record {
  extends = record { kept = s.others };
  only = λ t u e. by t u e (t.0 == own.0) refl;
}
  where
    same : {a b : TypeId} → a.0 ≡ b.0 → a ≡ b
    same e = ap (λ n. id n) e

    by : (t u : TypeId) → now t ≡ Some u → (b : Bool) → (t.0 == own.0) ≡ b
        → (old t ≡ Some u) ⊎ Contains (own ∷ []) t
    by t u e true is = inr (0, omega arith, sym (same (eqb-true t.0 own.0 is)))
    by t u e false is = inl (s.only t u e (λ f. differs t f is))
      where
        differs : (t : TypeId) → t.0 ≡ own.0 → (t.0 == own.0) ≡ false → ⊥
        differs t f g = let h : true ≡ false = sym (eq-eqb t.0 own.0 f) ∙ g in absurd (cc h)

-- behind others
pub numbered_then : {ids : List TypeId} {A B : NewId} {X E : Type 0} (r : Result X E) (C : NewId)
    → NumbersSome ids A B → OnOk r (NumbersSome ids B C) → OnOk r (NumbersSome ids A C)
numbered_then (Ok x) C m n = numbered_on m n
numbered_then (Err e) C m n = n

pub on_ok : {X E A B : Type 0} (r : Result X E) → (A → B) → OnOk r A → OnOk r B
on_ok (Ok x) f a = f a
on_ok (Err e) f a = a
