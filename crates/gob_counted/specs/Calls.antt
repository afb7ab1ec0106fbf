-- What contracts see of a counter, and what its calls answer.
use Rattle.std.specs.Prelude.{◌≡◌, ℕ, ◌++◌, List, length, take, Result, Ok, Err}
use Rattle.gob_stream.specs.Bounds.{Bounds, AreLimits, deepest}
use Rattle.gob_stream.specs.Grammar.{OutcomeIn, refused}
use Rattle.gob_stream.specs.Stepping.{StandsBy, Stepping}
use Rattle.gob_stream.specs.declared.fault.Fault.{Fault}
use Rattle.gob_stream.specs.declared.fault.Fault.TheVariants as fault
use Rattle.gob_stream.specs.declared.fault.Refusal.{Refusal}
use Rattle.gob_counted.specs.Apart.{IsCountable}
use Rattle.gob_counted.specs.Counting.{BeginsWithTally, IsTally}
use Rattle.gob_counted.specs.declared.counter.Counter.{Counter}
use Rattle.gob_counted.specs.declared.tally.Tally.{Tally}

abbrev pub session_of : {X I : Type 0} → Counter X I → X
session_of c = c.session

-- that of the items which are whole
abbrev pub tally_of : {X I : Type 0} → Counter X I → Tally
tally_of c = c.tally

module _ {X I Told : Type 0} (d : Stepping X I Told) where
  -- it has taken the bytes, and these are the items that are whole with them
  pub record HasCounted (c : Counter X I) (items : List Told) (bytes : List ℕ) : Type 0 where
    pub read : d.read (session_of c) items bytes
    pub tallied : BeginsWithTally d (d.within (d.limits (session_of c))) items bytes (tally_of c)
    pub taken_is : c.taken ≡ length bytes
    pub came : d.taken (session_of c) ≡ length bytes
    pub stands : StandsBy d (session_of c)
    pub allowed : AreLimits deepest (d.limits (session_of c))
    pub countable : IsCountable d

  -- or these with some more behind the items
  pub record GoesOn (c : Counter X I) (items : List Told) (bytes : List ℕ) : Type 0 where
    pub more : List Told
    pub counted : HasCounted c (items ++ more) bytes

  -- the bytes are refused so, whatever follows, behind the items and some more, and the tally is that of all of these
  pub record RefusesCounted (L : Bounds) (items : List Told) (bytes : List ℕ) (tally : Tally) (R : Refusal) : Type
      0 where
    pub more : List Told
    pub shows : (rest : List ℕ) → OutcomeIn d.grammar (d.within L) (bytes ++ rest) (items ++ more) (refused R)
    pub tallied : BeginsWithTally d (d.within L) (items ++ more) bytes tally

  -- the tally is that of the items and some more, with which the bytes begin
  pub record StopsCounted (L : Bounds) (items : List Told) (bytes : List ℕ) (tally : Tally) : Type 0 where
    pub more : List Told
    pub tallied : BeginsWithTally d (d.within L) (items ++ more) bytes tally

  -- why not all of the bytes could be taken
  abbrev pub Stops : Bounds → List Told → (bytes : List ℕ) → Tally → Fault → Type 0
  Stops L items bytes tally (fault.Refused R) = RefusesCounted L items bytes tally R
  Stops L items bytes tally fault.Read = ⊥
  Stops L items bytes tally fault.Memory = StopsCounted L items bytes tally
  Stops L items bytes tally fault.Failed = ⊥

  -- what a counter that had counted the items answers when it is fed, with which these are the bytes
  abbrev pub CountsOn : (c c' : Counter X I) → List Told → (bytes : List ℕ) → Result (Unit {0}) Fault → Type 0
  CountsOn c c' items bytes (Ok _) = GoesOn c' items bytes
  CountsOn c c' items bytes (Err e) = Stops (d.limits (session_of c)) items bytes (tally_of c') e

  -- what taking some of a piece answers
  abbrev pub StepsCounting : (c c' : Counter X I) → List Told → (bytes piece : List ℕ) → Result ℕ Fault → Type 0
  StepsCounting c c' items bytes piece (Ok used) = GoesOn c' items (bytes ++ take used piece)
  StepsCounting c c' items bytes piece (Err e) = Stops (d.limits (session_of c)) items (bytes ++ piece) (tally_of c') e

  -- what the end answers
  abbrev pub EndsCounting : Counter X I → List Told → (bytes : List ℕ) → Result (Unit {0}) Fault → Type 0
  EndsCounting c items bytes (Ok _) =
      IsTally d (d.within (d.limits (session_of c))) items bytes (tally_of c)
  EndsCounting c items bytes (Err (fault.Refused R)) =
      OutcomeIn d.grammar (d.within (d.limits (session_of c))) bytes items (refused R)
  EndsCounting c items bytes (Err fault.Read) = ⊥
  EndsCounting c items bytes (Err fault.Memory) = ⊥
  EndsCounting c items bytes (Err fault.Failed) = ⊥

  -- what counting bytes that are held in memory answers, where this is the tally
  abbrev pub ChecksBytes : Bounds → (bytes : List ℕ) → Tally → Result (Unit {0}) Fault → Type 0
  ChecksBytes L bytes tally (Ok _) = (items : List Told) × IsTally d (d.within L) items bytes tally
  ChecksBytes L bytes tally (Err (fault.Refused R)) =
      (items : List Told) × OutcomeIn d.grammar (d.within L) bytes items (refused R)
      × BeginsWithTally d (d.within L) items bytes tally
  ChecksBytes L bytes tally (Err fault.Read) = ⊥
  ChecksBytes L bytes tally (Err fault.Memory) = Unit {0}
  ChecksBytes L bytes tally (Err fault.Failed) = ⊥
