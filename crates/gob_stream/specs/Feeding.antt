-- What feeding a piece to any session comes to: steps, one behind another.
use Rattle.std.specs.Prelude.{◌≡◌, ℕ, List, [], ◌∷◌, ◌++◌, take, Some, None, IfSome, Result, Ok, Err}
use Rattle.gob_stream.specs.Stepping.{Stepping}
use Rattle.gob_stream.specs.declared.fault.Fault.{Fault}
use Rattle.gob_stream.specs.declared.fault.Fault.TheVariants as fault
use Rattle.gob_stream.specs.declared.session.Advance.{Advance}

-- a step took bytes from the front of the piece
pub record TakesBy {X Item Told : Type 0} (d : Stepping X Item Told) (s s' : X) (piece : List ℕ) (step : Advance Item)
    : Type 0 where
  pub answers : d.steps s s' piece (Ok step)
  pub between : IfSome step.item (λ _. d.between s')
  pub limits : d.limits s' ≡ d.limits s

-- steps gave the items and took the bytes
pub data ReachesBy {X Item Told : Type 0} (d : Stepping X Item Told) (s : X) : List Item → List ℕ → X → Type 0 where
  no_step : ReachesBy d s [] [] s
  no_item : {given : List Item} {z piece : List ℕ} {t t' : X} {step : Advance Item} → ReachesBy d s given z t
      → TakesBy d t t' piece step → step.item ≡ None → ReachesBy d s given (z ++ take step.used piece) t'
  one_item : {given : List Item} {z piece : List ℕ} {t t' : X} {step : Advance Item} {item : Item}
      → ReachesBy d s given z t → TakesBy d t t' piece step → step.item ≡ Some item
      → ReachesBy d s (given ++ item ∷ []) (z ++ take step.used piece) t'

-- why feeding stops where steps took the front of the piece: it stopped before, a step stops, or memory is wanting for
-- the item that one gave
pub data StopsBy {X Item Told : Type 0} (d : Stepping X Item Told) (s s' : X) (piece : List ℕ) (given : List Item)
    : Fault → Type 0 where
  had_failed : d.failed s → StopsBy d s s' piece given fault.Failed
  at_step : {z rest : List ℕ} {t : X} {f : Fault} → ReachesBy d s given z t → piece ≡ z ++ rest
      → d.steps t s' rest (Err f) → StopsBy d s s' piece given f
  at_item : {z rest : List ℕ} {t t' : X} {step : Advance Item} {item : Item} → ReachesBy d s given z t
      → piece ≡ z ++ rest → TakesBy d t t' rest step → step.item ≡ Some item → d.table s' ≡ d.table t'
      → d.taken s' ≡ d.taken t' → StopsBy d s s' piece given fault.Memory

-- what feeding the piece answers, with which the items were given
abbrev pub FeedsBy : {X Item Told : Type 0} → Stepping X Item Told → (s s' : X) → (piece : List ℕ) → List Item
    → Result (Unit {0}) Fault → Type 0
FeedsBy d s s' piece given (Ok _) = ReachesBy d s given piece s'
FeedsBy d s s' piece given (Err f) = StopsBy d s s' piece given f
