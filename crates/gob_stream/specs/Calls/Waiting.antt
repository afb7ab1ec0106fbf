-- Bytes of a stream that were read and not yet taken.
use Rattle.std.specs.Prelude.{◌≡◌, ℕ, ◌+◌, ◌*◌, ◌<◌, ◌≤◌, ◌⊎◌, List, ◌++◌, length, slice_range, vec_len, Option, Result}
use Rattle.std.specs.Prelude.{Ok, Err}
use Rattle.std.specs.Io.KnownBytes.{Consumes, Keeps, IsAtEnd}
use Rattle.gob_stream.specs.declared.fault.Fault.{Fault}
use Rattle.gob_stream.specs.declared.fault.Fault.TheVariants as fault
use Rattle.gob_stream.specs.declared.waiting.Waiting.{Waiting}

abbrev pub waiting : Waiting → List ℕ
waiting w = slice_range w.room.items w.start w.end

-- how many bytes it has room for, with those that wait
abbrev pub room_for : Waiting → ℕ
room_for w = vec_len w.room

-- room that is made where so many bytes wait
abbrev pub Grows : (old new waits : ℕ) → Type 0
Grows old new waits = (new ≤ old) ⊎ (new ≤ 2 * waits + 65536)

-- the last read gave less than there was room for, or there was none
abbrev pub HasRoom : Waiting → Type 0
HasRoom w = w.end < vec_len w.room

-- a read brought so many bytes behind those that waited, none only at the end
pub record Brings (old new : Option (List ℕ)) (before after : List ℕ) (count : ℕ) : Type 0 where
  pub more : List ℕ
  pub read : Consumes old new more
  pub behind : after ≡ before ++ more
  pub counted : count ≡ length more
  pub end : count ≡ 0 → IsAtEnd new

-- what reading on answers
abbrev pub ReadsMore : (old new : Option (List ℕ)) → (before after : List ℕ) → Result ℕ Fault → Type 0
ReadsMore old new before after (Ok count) = Brings old new before after count
ReadsMore old new before after (Err (fault.Refused R)) = ⊥
ReadsMore old new before after (Err fault.Read) = (after ≡ before) × Keeps old new
ReadsMore old new before after (Err fault.Memory) = (after ≡ before) × Keeps old new
ReadsMore old new before after (Err fault.Failed) = ⊥
