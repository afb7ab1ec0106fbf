-- What a session has read, written again.
use Rattle.std.specs.Prelude.{◌≡◌, List, ℕ}
use Rattle.gob_types.specs.Base.{base_table}
use Rattle.gob_types.specs.Table.{Table}
use Rattle.gob_stream.specs.Bounds.{Bounds}
use Rattle.gob_stream.specs.declared.fault.Fault.{Fault}
use Rattle.gob_stream.specs.declared.fault.Fault.TheVariants as fault
use Rattle.gob_filled.specs.Outcome.{FilledOutcome, refused}
use Rattle.gob_filled.specs.Stream.{FilledItem, FilledStream}
use Rattle.gob_go.specs.Calls.Session.{HasRead}
use Rattle.gob_go.specs.Machine.SessionState.{SessionState}

-- the session has taken the bytes, and these are those of the items that it has given
pub record HasWritten (s : SessionState) (bytes out : List ℕ) : Type 0 where
  pub items : List FilledItem
  pub after : HasRead s items bytes
  pub written : out ≡ after.prefix

-- of some bytes
pub record HasWrittenOn (s : SessionState) (out : List ℕ) : Type 0 where
  pub bytes : List ℕ
  pub has : HasWritten s bytes out

-- the bytes are a whole stream within the limits
abbrev pub IsStream : Bounds → List ℕ → Type 0
IsStream L bytes = (items : List FilledItem) × (T : Table) × FilledStream base_table L items bytes T

-- why not all of the bytes are read and written: that for which they are refused, or memory was wanting
abbrev pub StopsAgain : Bounds → List ℕ → Fault → Type 0
StopsAgain L bytes (fault.Refused R) = (items : List FilledItem) × FilledOutcome base_table L bytes items (refused R)
StopsAgain L bytes fault.Memory = Unit {0}
StopsAgain L bytes _ = ⊥
