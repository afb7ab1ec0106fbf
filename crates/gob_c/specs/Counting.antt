-- What the calls of a counter answer, each in one word, in any grammar of items.
use Rattle.std.specs.Prelude.{◌≡◌, ℕ, List, [], ◌++◌, Result, Err, IfOk, OnErr}
use Rattle.gob_stream.specs.Bounds.{Bounds}
use Rattle.gob_stream.specs.Stepping.{Stepping}
use Rattle.gob_stream.specs.declared.fault.Fault.{Fault}
use Rattle.gob_stream.specs.declared.fault.Fault.TheVariants as fault
use Rattle.gob_counted.specs.Calls.{CountsOn, EndsCounting, HasCounted, session_of, tally_of}
use Rattle.gob_counted.specs.declared.counter.Counter.{Counter}

-- the counter has taken no byte, and keeps to these limits
pub record IsNewCounter {X I Told : Type 0} (d : Stepping X I Told) (limits : Bounds) (counter : Counter X I) : Type
    0 where
  pub counted : HasCounted d counter [] []
  pub limits_are : d.limits (session_of counter) ≡ limits

-- it took the piece
pub record TakesPiece {X I Told : Type 0} (d : Stepping X I Told) (old new : Counter X I) (piece : List ℕ)
    (answer : Result (Unit {0}) Fault) : Type 0 where
  pub counted : (items : List Told) (bytes : List ℕ) → HasCounted d old items bytes
      → CountsOn d old new items (bytes ++ piece) answer
  pub failed : OnErr answer (d.failed (session_of new))
  pub stays : d.failed (session_of old) → (answer ≡ Err fault.Failed) × (new ≡ old)
  pub limits : d.limits (session_of new) ≡ d.limits (session_of old)

-- no byte follows
pub record TakesEnd {X I Told : Type 0} (d : Stepping X I Told) (old new : Counter X I)
    (answer : Result (Unit {0}) Fault) : Type 0 where
  pub ended : (items : List Told) (bytes : List ℕ) → HasCounted d old items bytes
      → EndsCounting d old items bytes answer
  pub whole : (items : List Told) (bytes : List ℕ) → HasCounted d old items bytes → IfOk answer (λ _. new ≡ old)
  pub tally : tally_of new ≡ tally_of old
  pub failed : OnErr answer (d.failed (session_of new))
  pub stays : d.failed (session_of old) → (answer ≡ Err fault.Failed) × (new ≡ old)
  pub limits : d.limits (session_of new) ≡ d.limits (session_of old)
