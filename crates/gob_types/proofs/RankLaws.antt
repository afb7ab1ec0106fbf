-- Ranks: how many filled arrays stand inside one another.
use Rattle.std.proofs.Common.{◌≡◌, ℕ, zero, suc, ◌<◌, Option, Some, None, arith, refl, sym, ap, ◌∙◌, subst}
use Rattle.gob_types.specs.declared.id.TypeId.{TypeId}
use Rattle.gob_types.specs.declared.kind.Kind.TheVariants as kind
use Rattle.gob_types.specs.declared.kind.Shape.{Shape}
use Rattle.std.specs.Prelude.{MatchOption}
use Rattle.gob_types.specs.Table.{Table, shape_of, IsDefined}
use Rattle.gob_types.specs.Ready.{Names, Reaches, IsFilledArray, HasRank, plain, filled, IsGrounded}
use Rattle.gob_types.specs.Machine.Walk.{IsFilledOf, IsFilledIn}
use Rattle.gob_types.proofs.GrowthLaws.{some_injective, reaches_onward}

-- the array's rank is one above its element's
pub rank_below : {T : Table} {t e : TypeId} {r : ℕ} → IsFilledOf T t e → HasRank T r t → (m : ℕ) × (r ≡ suc m)
    × HasRank T m e
rank_below {e = e} f (plain {s = s} there not_filled) =
    let same : f.shape ≡ s = some_injective (sym f.there ∙ there) in
    absurd (not_filled (subst IsFilledArray (sym f.kind ∙ ap (λ (x : Shape). x.kind) same) f.filled))
rank_below {T = T} {e = e} f (filled {rank = m} {e = d} {s = s} there is p h) =
    let same : f.shape ≡ s = some_injective (sym f.there ∙ there) in
    let elem : d ≡ e = array_element (sym is ∙ ap (λ (x : Shape). x.kind) (sym same) ∙ f.kind) in
    (m, refl, subst (HasRank T m) elem h)
  where
    array_element : {a b : TypeId} {m n : ℕ} → kind.Array a m ≡ kind.Array b n → a ≡ b
    array_element e = cc

pub rank_above : {T : Table} {t e : TypeId} {r : ℕ} → IsFilledOf T t e → HasRank T r e → HasRank T (suc r) t
rank_above f h = filled f.there f.kind f.filled h

-- a type has one rank
pub one_rank : {T : Table} {t : TypeId} {m n : ℕ} → HasRank T m t → HasRank T n t → m ≡ n
one_rank (plain e p) (plain f q) = refl
one_rank (plain {s = s} e p) (filled {s = r} f k l h) =
    let same : s ≡ r = some_injective (sym e ∙ f) in
    absurd (p (subst IsFilledArray (sym (ap (λ (x : Shape). x.kind) same ∙ k)) l))
one_rank (filled {s = r} f k l h) b =
    let below = rank_below (record { shape = r; count = _; there = f; kind = k; filled = l }) b in
    ap suc (one_rank h below.2) ∙ sym below.1

-- what the elements of a shape's arrays tell of the type
pub filled_told : (T : Table) (t : TypeId) (s : Shape) → shape_of T t ≡ Some s → (o : Option TypeId)
    → MatchOption o (¬ IsFilledArray s.kind) (λ e. (n : ℕ) × (s.kind ≡ kind.Array e n) × (0 < n))
    → MatchOption o (IsDefined T t → IsGrounded T t) (λ e. IsFilledOf T t e)
filled_told T t s there None h = λ _. record { rank = 0; has = plain there h }
filled_told T t s there (Some e) h = record { shape = s; count = h.0; there = there; kind = h.1; filled = h.2 }

-- an array that holds something leads to its elements
pub filled_leads : {T : Table} {t e u : TypeId} → IsFilledOf T t e → Reaches T e u → Reaches T t u
filled_leads {e = e} f h = reaches_onward f.there (subst (λ k. Names k e) (sym f.kind) refl) h

pub filled_grounded : {T : Table} {t e : TypeId} → IsFilledOf T t e → IsGrounded T e → IsGrounded T t
filled_grounded f g = record { rank = suc g.rank; has = rank_above f g.has }

-- arrays that are arrays of one another have no rank
pub closed_rankless : {T : Table} {P : TypeId → Type 0} → ((u : TypeId) → P u → IsFilledIn T P u) → (r : ℕ) (t : TypeId)
    → P t → ¬ HasRank T r t
closed_rankless closed zero t p h = let below = rank_below (closed t p).array h in absurd (omega (arith, below.1))
closed_rankless {T = T} closed (suc r) t p h =
    let c = closed t p in
    let below = rank_below c.array h in
    let same : below.0 ≡ r = omega (arith, below.1) in
    closed_rankless closed r c.element c.within (subst (λ m. HasRank T m c.element) same below.2)

pub closed_bottomless : {T : Table} {P : TypeId → Type 0} → ((u : TypeId) → P u → IsFilledIn T P u) → (t : TypeId) → P t
    → ¬ IsGrounded T t
closed_bottomless closed t p g = closed_rankless closed g.rank t p g.has
