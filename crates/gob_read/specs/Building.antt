-- What builders are, and what the trait `Builder` asks, in words of the relation between a builder and the lists of
-- events that it has received. (docs/LIBRARY.md, Events.)
use Rattle.std.specs.Prelude.{ℕ, ◌+◌, ◌^◌, ◌<◌, List, [], ◌∷◌, ◌++◌}
use Rattle.gob_value.specs.Tree.{Tree}
use Rattle.gob_read.specs.Event.{Event, HasEvents}
use Rattle.gob_read.specs.WellFormed.{IsWellFormed}
use Rattle.gob_read.specs.Weight.{parts_told, raw_told}

-- a builder that makes something of values no deeper than this
pub record Building (X O : Type 0) (most : ℕ) : Type 1 where
  -- the builder has received this list of events
  pub received : X → List Event → Type 0
  -- what was made stands for this value
  pub means : O → Tree → Type 0

-- the parts and raw bytes that are told can be counted in 64 bits
pub record HasRoomFor (us : List Event) : Type 0 where
  pub room : parts_told us + raw_told us < 2 ^ 64

-- the builder has received some list of events that may go on with this one
pub record MayTakeEvent {B : Type 0} (received : B → List Event → Type 0) (builder : B) (t : Event) : Type 0 where
  pub told : List Event
  pub so_far : received builder told
  pub well_formed : IsWellFormed (told ++ t ∷ [])
  pub room : HasRoomFor (told ++ t ∷ [])

-- each list of events that the old builder has received, with this one last, the new builder has received
pub record TakesEvent {B : Type 0} (received : B → List Event → Type 0) (old new : B) (t : Event) : Type 0 where
  pub each : (us : List Event) → received old us → received new (us ++ t ∷ [])

-- the builder has received some list that tells one whole value
pub record IsComplete {B : Type 0} (received : B → List Event → Type 0) (builder : B) : Type 0 where
  pub told : List Event
  pub value : Tree
  pub so_far : received builder told
  pub tells : HasEvents value told
