-- Where the reading of a stream stands. For private clauses.
use Rattle.std.specs.Prelude.{◌≡◌, ℕ, ◌<◌, List, [], ◌++◌, length, min, Option, Some, Result, Ok, Err}
use Rattle.std.specs.Prelude.{Bool, true, false}
use Rattle.std.specs.Io.KnownBytes.{Consumes, IsAtEnd, Keeps}
use Rattle.gob_types.specs.Table.{Table}
use Rattle.gob_types.specs.declared.id.TypeId.{TypeId}
use Rattle.gob_value.specs.Whole.{IsWhole}
use Rattle.gob_stream.specs.Bounds.{Bounds, greatest_depth}
use Rattle.gob_stream.specs.declared.fault.Fault.{Fault}
use Rattle.gob_stream.specs.declared.fault.Fault.TheVariants as reading
use Rattle.gob_go.specs.Calls.Session.{HasBodyNext, IsBetweenItems, limits_of, types_of}
use Rattle.gob_go.specs.Machine.SessionState.{SessionState}
use Rattle.gob_why.specs.Machine.Keeping.{HasReadKept, ReadsBytes}
use Rattle.gob_why.specs.declared.explained.Explained.{Explained}

-- of an input that had the first bytes and has the second ones left, what was read was taken but for what waits, and
-- this is kept of it
pub record HasTaken (which : Option Explained) (s : SessionState) (items : ℕ) (read now : Option (List ℕ))
    (waits item : List ℕ) (begin : ℕ) (text : List ℕ) : Type 0 where
  pub taken : List ℕ
  pub input : Consumes read now (taken ++ waits)
  pub has : HasReadKept which s items taken item begin text

-- more of the input waits, where none did; or it has ended
abbrev pub ComesMore : (old new : Option (List ℕ)) → (before after : List ℕ) → Result Bool Fault → Type 0
ComesMore old new before after (Ok true) =
    (more : List ℕ) × Consumes old new more × (after ≡ before ++ more) × (0 < length after)
ComesMore old new before after (Ok false) = (before ≡ []) × Consumes old new [] × IsAtEnd new
ComesMore old new before after (Err (reading.Refused R)) = ⊥
ComesMore old new before after (Err reading.Read) = (before ≡ []) × Keeps old new
ComesMore old new before after (Err reading.Memory) = (before ≡ []) × Keeps old new
ComesMore old new before after (Err reading.Failed) = ⊥

-- how reading all of the input ends
abbrev pub ReadsAll : Option Explained → Bounds → (U : Table) → (items : ℕ) → (read now : Option (List ℕ))
    → (item : List ℕ) → (begin : ℕ) → Result Bool Fault → (text : List ℕ) → Type 0
ReadsAll which L U items read now item begin result text = (bytes : List ℕ) → read ≡ Some bytes
    → ReadsBytes which L U items bytes now item begin result text

-- so many bytes of the piece are the next item, of a value that stands whole there
pub record HasValueNext (s : SessionState) (used : ℕ) (piece : List ℕ) : Type 0 where
  pub id : TypeId
  pub body : List ℕ
  pub between : IsBetweenItems s
  pub next : HasBodyNext s id body used piece
  pub whole : IsWhole (types_of s) id (min (limits_of s).depth greatest_depth) body
