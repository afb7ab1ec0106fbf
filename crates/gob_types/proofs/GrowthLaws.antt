-- What a table says of a ready type, it says when it has grown.
use Rattle.std.proofs.Common.{◌≡◌, ℕ, suc, Bool, true, false, cond, [], ◌∷◌, ◌++◌, Option, Some, None, refl, sym, ap}
use Rattle.std.proofs.Common.{◌∙◌, subst}
use Rattle.std.specs.Prelude.{◌==◌}
use Rattle.gob_types.specs.declared.id.TypeId.{TypeId}
use Rattle.gob_types.specs.declared.kind.Shape.{Shape}
use Rattle.gob_types.specs.Table.{Table, shape_of, IsDefined, Extends}
use Rattle.gob_types.specs.Ready.{Names, Leads, here, onward, Reaches, HasRank, plain, filled, IsGrounded, IsReady}

pub some_injective : {A : Type 0} {a b : A} → Some a ≡ Some b → a ≡ b
some_injective e = cc

-- the first entry of a type that is there stays the first
pub shape_of-append : (T more : Table) (t : TypeId) (s : Shape) → shape_of T t ≡ Some s
    → shape_of (T ++ more) t ≡ Some s
shape_of-append [] more t s e = cc
shape_of-append (entry ∷ T) more t s e = found (entry.0.0 == t.0) (Some entry.1) (shape_of T t) (shape_of (T ++ more) t)
    s (shape_of-append T more t s) e
  where
    found : (b : Bool) (a x y : Option Shape) (s : Shape) → (x ≡ Some s → y ≡ Some s) → cond b a x ≡ Some s
        → cond b a y ≡ Some s
    found true a x y s f e = e
    found false a x y s f e = f e

-- a type that isn't there has the shape that the rest gives it
pub shape_of-append_new : (T more : Table) (t : TypeId) → shape_of T t ≡ None → shape_of (T ++ more) t ≡ shape_of more t
shape_of-append_new [] more t e = refl
shape_of-append_new (entry ∷ T) more t e = missed (entry.0.0 == t.0) entry.1 (shape_of T t) (shape_of (T ++ more) t)
    (shape_of more t) (shape_of-append_new T more t) e
  where
    missed : (b : Bool) (a : Shape) (x y z : Option Shape) → (x ≡ None → y ≡ z) → cond b (Some a) x ≡ None
        → cond b (Some a) y ≡ z
    missed true a x y z f e = cc
    missed false a x y z f e = f e

-- the larger table says of each type what the smaller does
pub record Keeps (T U : Table) : Type 0 where
  pub shape : (t : TypeId) (s : Shape) → shape_of T t ≡ Some s → shape_of U t ≡ Some s

pub extends_keeps : {T U : Table} → Extends T U → Keeps T U
extends_keeps {T = T} {U = U} e = record {
  shape = λ t s f. subst (λ W. shape_of W t ≡ Some s) (sym e.grown)
      (shape_of-append T e.more t s f);
}

-- what a shape names is reached
pub reaches_onward : {T : Table} {t w u : TypeId} {s : Shape} → shape_of T t ≡ Some s → Names s.kind w → Reaches T w u
    → Reaches T t u
reaches_onward e n h = record { steps = suc h.steps; leads = onward e n h.leads }

pub reaches_itself : {T : Table} {t : TypeId} → Reaches T t t
reaches_itself = record { steps = 0; leads = here }

-- each type that a ready type's shape names is ready
pub names_ready : {T : Table} {t w : TypeId} {s : Shape} → IsReady T t → shape_of T t ≡ Some s → Names s.kind w
    → IsReady T w
names_ready r e n u h = r u (reaches_onward e n h)

-- a ready type is defined
pub ready_defined : {T : Table} {t : TypeId} → IsReady T t → IsDefined T t
ready_defined {t = t} r = (r t reaches_itself).0

-- a ready type has a rank
pub ready_grounded : {T : Table} {t : TypeId} → IsReady T t → IsGrounded T t
ready_grounded {t = t} r = (r t reaches_itself).1

-- a ready type's shape in the larger table is its shape
pub shape_back : {T U : Table} {t : TypeId} {s : Shape} → Keeps T U → IsReady T t → shape_of U t ≡ Some s
    → shape_of T t ≡ Some s
shape_back {T = T} {U = U} {t = t} {s = s} keeps r e =
    let d = ready_defined r in
    let same : d.0 ≡ s = some_injective (sym (keeps.shape _ _ d.1) ∙ e) in
    d.1 ∙ ap Some same

pub leads_on : {T U : Table} {n : ℕ} {t u : TypeId} → Keeps T U → Leads T n t u → Leads U n t u
leads_on keeps here = here
leads_on keeps (onward e n l) = onward (keeps.shape _ _ e) n (leads_on keeps l)

pub leads_back : {T U : Table} {n : ℕ} {t u : TypeId} → Keeps T U → IsReady T t → Leads U n t u → Leads T n t u
leads_back keeps r here = here
leads_back keeps r (onward e n l) = let f = shape_back keeps r e in onward f n (leads_back keeps (names_ready r f n) l)

-- a reached type stays reached
pub reaches_on : {T U : Table} {t u : TypeId} → Keeps T U → Reaches T t u → Reaches U t u
reaches_on keeps h = record { steps = h.steps; leads = leads_on keeps h.leads }

-- and a ready type reaches no others
pub reaches_back : {T U : Table} {t u : TypeId} → Keeps T U → IsReady T t → Reaches U t u → Reaches T t u
reaches_back keeps r h = record { steps = h.steps; leads = leads_back keeps r h.leads }

pub rank_on : {T U : Table} {r : ℕ} {t : TypeId} → Keeps T U → HasRank T r t → HasRank U r t
rank_on keeps (plain e p) = plain (keeps.shape _ _ e) p
rank_on keeps (filled e k p h) = filled (keeps.shape _ _ e) k p (rank_on keeps h)

-- a ready type stays ready
pub ready_on : {T U : Table} {t : TypeId} → Keeps T U → IsReady T t → IsReady U t
ready_on keeps r u h =
    let b = r u (reaches_back keeps r h) in
    ((b.0.0, keeps.shape _ _ b.0.1), record { rank = b.1.rank; has = rank_on keeps b.1.has })

-- and each reached type keeps its shape
pub reached_shape : {T U : Table} {t u : TypeId} → Keeps T U → IsReady T t → Reaches T t u → shape_of U u ≡ shape_of T u
reached_shape {u = u} keeps r h = let d = (r u h).0 in keeps.shape _ _ d.1 ∙ sym d.1
