-- What a visitor answers that is told of a value which is known to stand in a body, part by part.
use Rattle.std.specs.Prelude.{◌≡◌, ℕ, List, drop, Result, Ok, Err, IfOk}
use Rattle.gob_walk.specs.declared.walk_end.WalkEnd.{WalkEnd}
use Rattle.gob_walk.specs.declared.walk_end.WalkEnd.TheVariants as stops

-- a visitor's answer, as the walk's
abbrev pub as_stop : {E : Type 0} → Result (Unit {0}) E → Result (Unit {0}) (WalkEnd E)
as_stop (Ok u) = Ok u
as_stop (Err e) = Err (stops.Out e)

-- what the visitor says of events, where it isn't found that no value stands there
abbrev pub Answers : {O E X : Type 0} → (O → O → X → Result (Unit {0}) E → Type 0) → O → O → X
    → Result (Unit {0}) (WalkEnd E) → Type 0
Answers tells old new events (Ok u) = tells old new events (Ok u)
Answers tells old new events (Err (stops.Out e)) = tells old new events (Err e)
Answers tells old new events (Err stops.NotWhole) = ⊥

pub record Reaches {O E X : Type 0} (tells : O → O → X → Result (Unit {0}) E → Type 0) (old new : O)
    (events : X) (result : Result (Unit {0}) (WalkEnd E)) : Type 0 where
  pub answers : Answers tells old new events result

-- whether it was told, without where the value ends
abbrev pub without_end : {E : Type 0} → Result ℕ E → Result (Unit {0}) E
without_end (Ok end) = Ok tt
without_end (Err e) = Err e

-- it was told of the events, and what stands in the body where they end is the rest; or of some, before an error
pub record Sends {O E X : Type 0} (tells : O → O → X → Result (Unit {0}) E → Type 0) (old new : O)
    (events : X) (body rest : List ℕ) (result : Result ℕ E) : Type 0 where
  pub put : tells old new events (without_end result)
  pub behind : IfOk result (λ end. drop end body ≡ rest)
