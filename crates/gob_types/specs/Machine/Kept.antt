-- What is known of the types of a table without a walk: which of them are ready, and what the others wait for.
-- (docs/FORMAT.md, Readiness.)
use Rattle.std.specs.Prelude.{◌≡◌, ◌⊎◌, ◌-◌, List, [], ◌∷◌, ◌++◌, length, take, Option, Some, None, Contains}
use Rattle.std.specs.Prelude.{MatchOption, if◌then◌else◌}
use Rattle.std.specs.Map.{lookup}
use Rattle.gob_types.specs.declared.id.TypeId.{TypeId}
use Rattle.gob_types.specs.declared.kind.Shape.{Shape}
use Rattle.gob_types.specs.Machine.Entered.{same_id}
use Rattle.gob_types.specs.Table.{Table, shape_of, IsDefined}
use Rattle.gob_types.specs.Ready.{Names, Reaches, IsGrounded, IsReady}
use Rattle.gob_types.specs.Readiness.{IsAllDefined}
use Rattle.gob_types.specs.Machine.Walk.{AddsAll, Grows}

-- these are ready
pub record AreReady (T : Table) (ids : List TypeId) : Type 0 where
  pub each : (u : TypeId) → Contains ids u → IsReady T u

-- ---- sets of ids

-- for each type id a set of ids
abbrev pub Sets : Type 0
Sets = List (TypeId × List TypeId)

-- the second id is in the set of the first
pub record IsIn (sets : Sets) (t u : TypeId) : Type 0 where
  pub set : List TypeId
  pub there : lookup (same_id t) sets ≡ Some set
  pub among : Contains set u

-- whatever is in a set of the first is in that of the second
pub record KeepsSets (old new : Sets) : Type 0 where
  pub each : (t u : TypeId) → IsIn old t u → IsIn new t u

-- the second map has this value at the id, and else what the first has
pub record IsSet {X : Type 0} (old new : List (TypeId × X)) (t : TypeId) (x : X) : Type 0 where
  pub each : (u : TypeId) → lookup (same_id u) new ≡ (if same_id t u then Some x else lookup (same_id u) old)

-- ---- waiting

-- for some types the one each that they wait for
abbrev pub AwaitedTypes : Type 0
AwaitedTypes = List (TypeId × TypeId)

-- what types wait for, and what each has still to look at
pub record Waiting : Type 0 where
  pub awaited : AwaitedTypes
  pub left : Sets

-- who waits for a type is in its set
pub record KnowsUsers (A : AwaitedTypes) (users : Sets) : Type 0 where
  pub each : (u w : TypeId) → lookup (same_id u) A ≡ Some w → IsIn users w u

-- the one type is the other, or waits for one that waits for it
pub data WaitsFor (A : AwaitedTypes) : TypeId → TypeId → Type 0 where
  here : {u : TypeId} → WaitsFor A u u
  onward : {u w v : TypeId} → lookup (same_id u) A ≡ Some w → WaitsFor A w v → WaitsFor A u v

-- each type waits for what it did, or for this one
pub record Redirects (A B : AwaitedTypes) (t : TypeId) : Type 0 where
  pub each : (u : TypeId) → (lookup (same_id u) B ≡ lookup (same_id u) A) ⊎ (lookup (same_id u) B ≡ Some t)

-- each type leads to what it waits for, and to what it has still to look at
pub record AreLed (T : Table) (W : Waiting) : Type 0 where
  pub awaited : (u w : TypeId) → lookup (same_id u) W.awaited ≡ Some w → Reaches T u w
  pub left : (u w : TypeId) → IsIn W.left u w → Reaches T u w

-- the type reaches one that has no finite value and leads to nothing undefined, so no definition makes it ready
pub record IsHopeless (T : Table) (u : TypeId) : Type 0 where
  pub end : TypeId
  pub reached : Reaches T u end
  pub complete : IsAllDefined T end
  pub bottomless : ¬ IsGrounded T end

-- the type isn't defined, or no definition makes it ready
abbrev pub IsLost : Table → TypeId → Type 0
IsLost T u = (shape_of T u ≡ None) ⊎ IsHopeless T u

-- the way of waiting goes on from the type, past those that are ready, to one with the property
pub data LeadsAway (A : AwaitedTypes) (ready : List TypeId) (P : TypeId → Type 0) : TypeId → Type 0 where
  ends : {u : TypeId} → P u → LeadsAway A ready P u
  further : {u w : TypeId} → lookup (same_id u) A ≡ Some w → ¬ Contains ready w → LeadsAway A ready P w
      → LeadsAway A ready P u

-- these are ready, and each other type waits for one with the property
pub record AreSorted (T : Table) (ready : List TypeId) (W : Waiting) (P : TypeId → Type 0) : Type 0 where
  pub sound : AreReady T ready
  pub led : AreLed T W
  pub whole : (u : TypeId) → Contains ready u ⊎ LeadsAway W.awaited ready P u

-- each other type waits for one that isn't defined, or that no definition makes ready
abbrev pub AreSettled : Table → List TypeId → Waiting → Type 0
AreSettled T ready W = AreSorted T ready W (IsLost T)

-- the type is to be looked at: it is in the queue, and waits for none that isn't ready
abbrev pub IsOpenType : AwaitedTypes → (ready queue : List TypeId) → TypeId → Type 0
IsOpenType A ready queue u = Contains queue u × ((w : TypeId) → lookup (same_id u) A ≡ Some w → Contains ready w)

-- or for one that is to be looked at
abbrev pub IsLearning : Table → List TypeId → Waiting → List TypeId → Type 0
IsLearning T ready W queue = AreSorted T ready W (λ u. IsLost T u ⊎ IsOpenType W.awaited ready queue u)

-- or for this one, which is looked at
abbrev pub IsLooking : Table → List TypeId → Waiting → List TypeId → TypeId → Type 0
IsLooking T ready W queue t = AreSorted T ready W (λ u. (IsLost T u ⊎ IsOpenType W.awaited ready queue u) ⊎ (t ≡ u))

-- the type is ready, or waits for one that isn't
abbrev pub IsJudged : AwaitedTypes → List TypeId → TypeId → Type 0
IsJudged A ready u = Contains ready u ⊎ ((w : TypeId) × (lookup (same_id u) A ≡ Some w) × ¬ Contains ready w)

-- these are the ready types; and it is known what the others wait for, or nothing of it
pub record IsKeptReadiness (T : Table) (ready : List TypeId) (waits : Option Waiting) : Type 0 where
  pub sound : AreReady T ready
  pub whole : (u : TypeId) → IsReady T u → Contains ready u
  pub settled : MatchOption waits (Unit {0}) (AreSettled T ready)

-- it was so before the last definition, which is of this id
pub record WasKept (U : Table) (t : TypeId) (ready : List TypeId) (waits : Option Waiting) : Type 0 where
  pub before : Table
  pub shape : Shape
  pub new : shape_of before t ≡ None
  pub grown : U ≡ before ++ (t, shape) ∷ []
  pub kept : IsKeptReadiness before ready waits

-- all entries but the last
abbrev pub prefix : Table → Table
prefix T = take (length T - 1) T

-- ---- looks

-- the ids hold what the type's shape names, and it reaches them
pub record AreNamedBy (T : Table) (u : TypeId) (ids : List TypeId) : Type 0 where
  pub has : (s : Shape) (w : TypeId) → shape_of T u ≡ Some s → Names s.kind w → Contains ids w
  pub reached : (w : TypeId) → Contains ids w → Reaches T u w

-- the type is defined, and the types that its shape names are among these
pub record NamesAmong (T : Table) (ids : List TypeId) (u : TypeId) : Type 0 where
  pub defined : IsDefined T u
  pub each : (s : Shape) (w : TypeId) → shape_of T u ≡ Some s → Names s.kind w → Contains ids w

-- these were met from the type, going on through none that is known
pub record MetPast (T : Table) (known : List TypeId) (t : TypeId) (ids : List TypeId) : Type 0 where
  pub sound : (u : TypeId) → Contains ids u → Reaches T t u
  pub start : Contains ids t
  pub closed : (u : TypeId) → Contains ids u → Contains known u ⊎ NamesAmong T ids u

-- who waits for an id that came to the first ones has the property
pub record HandsOn (A : AwaitedTypes) (old new : List TypeId) (P : TypeId → Type 0) : Type 0 where
  pub each : (w : TypeId) → Contains new w → Contains old w ⊎ ((u : TypeId) → lookup (same_id u) A ≡ Some w → P u)

-- the ids came to the first ones, and the types that wait for a new one of them to the queue
pub record AreAdded (A : AwaitedTypes) (ids old new queue after : List TypeId) : Type 0 where
  pub added : AddsAll old new (Contains ids)
  pub queued : Grows queue after
  pub handed : HandsOn A old new (Contains after)

-- the users that wait for the type came to the ids
pub record AddsWaiting (A : AwaitedTypes) (users : List TypeId) (t : TypeId) (old new : List TypeId) : Type 0 where
  pub grown : Grows old new
  pub has : (u : TypeId) → Contains users u → lookup (same_id u) A ≡ Some t → Contains new u
  pub only : (u : TypeId) → Contains new u → Contains old u ⊎ (lookup (same_id u) A ≡ Some t)
