-- What the walk through the reached types has found so far.
use Rattle.std.specs.Prelude.{◌≡◌, ℕ, ◌<◌, ◌⊎◌, Bool, true, false, List, [], ◌∷◌, ◌++◌, Contains, Option, Some}
use Rattle.std.specs.Prelude.{MatchOption}
use Rattle.gob_types.specs.declared.id.TypeId.{TypeId}
use Rattle.gob_types.specs.declared.kind.Kind.TheVariants as kind
use Rattle.gob_types.specs.declared.kind.Shape.{Shape}
use Rattle.gob_types.specs.Table.{Table, shape_of}
use Rattle.gob_types.specs.Ready.{Reaches, IsGrounded}
use Rattle.gob_types.specs.Readiness.{IsLeast}

-- the id was added, last, if the answer is that it is new
abbrev pub AddsOne : (old new : List TypeId) → TypeId → Bool → Type 0
AddsOne old new t true = ¬ Contains old t × (new ≡ old ++ t ∷ [])
AddsOne old new t false = Contains old t × (new ≡ old)

-- the ids with this property were added, behind those that were there
pub record AddsAll (old new : List TypeId) (P : TypeId → Type 0) : Type 0 where
  pub more : List TypeId
  pub grown : new ≡ old ++ more
  pub has : (u : TypeId) → P u → Contains new u
  pub only : (u : TypeId) → Contains new u → Contains old u ⊎ P u

-- the second list is the first with some behind it
pub record Grows (old new : List TypeId) : Type 0 where
  pub more : List TypeId
  pub grown : new ≡ old ++ more

-- each of the second ids is one of the first
pub record AreAmong (first second : List TypeId) : Type 0 where
  pub each : (u : TypeId) → Contains second u → Contains first u

-- these are the types that are reached
pub record IsReach (T : Table) (t : TypeId) (ids : List TypeId) : Type 0 where
  pub sound : (u : TypeId) → Contains ids u → Reaches T t u
  pub whole : (u : TypeId) → Reaches T t u → Contains ids u

-- the type is an array of these elements, and holds some
pub record IsFilledOf (T : Table) (t e : TypeId) : Type 0 where
  pub shape : Shape
  pub count : ℕ
  pub there : shape_of T t ≡ Some shape
  pub kind : shape.kind ≡ kind.Array e count
  pub filled : 0 < count

-- an array that holds something, and its elements are of a type with the property
pub record IsFilledIn (T : Table) (P : TypeId → Type 0) (t : TypeId) : Type 0 where
  pub element : TypeId
  pub array : IsFilledOf T t element
  pub within : P element

-- all of these are good, or this is the least of those that are bad
abbrev pub IsLeastBad : (Good Bad : TypeId → Type 0) → List TypeId → Option TypeId → Type 0
IsLeastBad Good Bad ids least = MatchOption least ((u : TypeId) → Contains ids u → Good u)
    (λ l. IsLeast (λ u. Contains ids u × Bad u) l)

-- the first ids have finite values, and the second are arrays of one another
pub record KnowsGrounds (T : Table) (grounded bottomless : List TypeId) : Type 0 where
  pub have : (u : TypeId) → Contains grounded u → IsGrounded T u
  pub closed : (u : TypeId) → Contains bottomless u → IsFilledIn T (Contains bottomless) u

-- the ids on the way from a type through the elements of arrays all have finite values, and so has the type
pub record EndsWell (T : Table) (t : TypeId) (way : List TypeId) : Type 0 where
  pub have : (u : TypeId) → Contains way u → IsGrounded T u
  pub start : IsGrounded T t

-- or each is an array of another, or of one that is known to have none
pub record WalksOn (T : Table) (t : TypeId) (bottomless way : List TypeId) : Type 0 where
  pub closed : (u : TypeId) → Contains way u → IsFilledIn T (λ e. Contains way e ⊎ Contains bottomless e) u
  pub start : Contains way t ⊎ Contains bottomless t
