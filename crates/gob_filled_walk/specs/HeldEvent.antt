-- What a walk tells over a value whose interfaces may hold others: what the walk over any value tells, and where what
-- an interface holds begins and ends.
use Rattle.std.specs.Prelude.{◌≡◌, ℕ, ◌≤◌, List, [], ◌∷◌, length, drop}
use Rattle.gob_types.specs.declared.id.TypeId.{TypeId}
use Rattle.gob_walk.specs.Event.{Event}

pub data HeldEvent : Type 0 where
  told : Event → HeldEvent
  -- an interface holds a value: the name of its type, and its number
  held_begins : List ℕ → TypeId → HeldEvent
  held_ends : HeldEvent

abbrev pub all_told : List Event → List HeldEvent
all_told [] = []
all_told (e ∷ es) = told e ∷ all_told es

-- a visitor was told of events, of which the relation holds with what stands in the body from one place on and behind
-- the other
pub record HasHeard {O : Type 0} (hears : O → O → List HeldEvent → Type 0)
    (Is : List HeldEvent → (piece rest : List ℕ) → Type 0) (old new : O) (body : List ℕ) (at end : ℕ) : Type 0 where
  pub events : List HeldEvent
  pub inside : end ≤ length body
  pub reads : Is events (drop at body) (drop end body)
  pub heard : hears old new events
