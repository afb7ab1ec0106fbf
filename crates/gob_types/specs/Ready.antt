-- When values of a type can be read: each type that it leads to is defined and has finite values.
-- (docs/FORMAT.md, Readiness: this project's own rule for what Go's documentation leaves to the decoder.)
use Rattle.std.specs.Prelude.{◌≡◌, ℕ, zero, suc, ◌<◌, ◌⊎◌, List, Some, slice_get}
use Rattle.gob_types.specs.declared.id.TypeId.{TypeId}
use Rattle.gob_types.specs.declared.kind.Field.{Field}
use Rattle.gob_types.specs.declared.kind.Kind.{Kind}
use Rattle.gob_types.specs.declared.kind.Kind.TheVariants as kind
use Rattle.gob_types.specs.declared.kind.Shape.{Shape}
use Rattle.gob_types.specs.Table.{Table, shape_of, IsDefined}

-- a field of the struct is of this type
pub record HasFieldOf (fields : List Field) (u : TypeId) : Type 0 where
  pub number : ℕ
  pub field : Field
  pub there : slice_get fields number ≡ Some field
  pub type : field.id ≡ u

-- the shape names this type
abbrev pub Names : Kind → TypeId → Type 0
Names (kind.Basic b) u = ⊥
Names (kind.Array e n) u = e ≡ u
Names (kind.Slice e) u = e ≡ u
Names (kind.Struct fields) u = HasFieldOf fields u
Names (kind.Map k e) u = (k ≡ u) ⊎ (e ≡ u)
Names (kind.Opaque m) u = ⊥

-- so many steps lead from one type to the other, each from a type to one that its shape names
pub data Leads (T : Table) : ℕ → TypeId → TypeId → Type 0 where
  here : {t : TypeId} → Leads T zero t t
  onward : {n : ℕ} {t w u : TypeId} {s : Shape} → shape_of T t ≡ Some s → Names s.kind w → Leads T n w u
      → Leads T (suc n) t u

-- the type is reached from the other
pub record Reaches (T : Table) (t u : TypeId) : Type 0 where
  pub steps : ℕ
  pub leads : Leads T steps t u

-- an array that holds something
abbrev pub IsFilledArray : Kind → Type 0
IsFilledArray (kind.Array e n) = 0 < n
IsFilledArray _ = ⊥

-- how many filled arrays stand inside one another before something else does
pub data HasRank (T : Table) : ℕ → TypeId → Type 0 where
  plain : {t : TypeId} {s : Shape} → shape_of T t ≡ Some s → ¬ IsFilledArray s.kind → HasRank T zero t
  filled : {rank n : ℕ} {t e : TypeId} {s : Shape} → shape_of T t ≡ Some s → s.kind ≡ kind.Array e n → 0 < n
      → HasRank T rank e → HasRank T (suc rank) t

-- the type has finite values: what stands inside its arrays comes to an end
pub record IsGrounded (T : Table) (t : TypeId) : Type 0 where
  pub rank : ℕ
  pub has : HasRank T rank t

abbrev pub IsReady : Table → TypeId → Type 0
IsReady T t = (u : TypeId) → Reaches T t u → IsDefined T u × IsGrounded T u
