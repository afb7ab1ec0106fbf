-- What the run that keeps what isn't damaged answers, and what it has written then. (docs/FORMAT.md, The program: this
-- project's own.)
use Rattle.std.specs.Prelude.{◌≡◌, ℕ, ◌<◌, List, [], length, Option, Some, Result, Ok, Err}
use Rattle.std.specs.Io.KnownBytes.{Appends}
use Rattle.gob_types.specs.declared.reason.Reason.TheVariants as reason
use Rattle.gob_stream.specs.Bounds.{Bounds}
use Rattle.gob_stream.specs.Devices.{counts_up}
use Rattle.gob_stream.specs.Refusing as refusing
use Rattle.gob_stream.specs.declared.fault.Refusal.{Refusal}
use Rattle.gob_tool.specs.declared.fault.ToolFault.{ToolFault}
use Rattle.gob_tool.specs.declared.fault.ToolFault.TheVariants as fault
use Rattle.gob_tool.specs.Showing.{AppendsPrefix}
use Rattle.gob_salvage.specs.declared.keeping.Salvaged.{Salvaged}
use Rattle.gob_salvage.specs.Streams.{IsSalvaged}

-- this is what is kept of the bytes, and what is left out
abbrev pub IsOf : Bounds → (bytes : List ℕ) → Salvaged → Type 0
IsOf L bytes kept = IsSalvaged L bytes kept.items kept.bytes.items kept.gaps.items

-- all of the input was read, what is kept of it went out, and that is told
pub record SendsSalvage (L : Bounds) (bytes : List ℕ) (now old new : Option (List ℕ)) (told : Option Salvaged) : Type
    0 where
  pub kept : Salvaged
  pub is : IsOf L bytes kept
  pub end : now ≡ Some []
  pub sent : Appends old new kept.bytes.items
  pub tells : told ≡ Some kept

-- a prefix of what is kept went out
pub record SendsSome (L : Bounds) (bytes : List ℕ) (old new : Option (List ℕ)) : Type 0 where
  pub kept : Salvaged
  pub is : IsOf L bytes kept
  pub sent : AppendsPrefix old new kept.bytes.items

-- the bytes are more than a stream may have
pub record IsTooLong (L : Bounds) (bytes : List ℕ) (R : Refusal) : Type 0 where
  pub long : L.stream < length bytes
  pub refusal : R ≡ refusing.refuses L.stream L.stream reason.StreamTooLong

-- how the run ends, over an input with these bytes left and an output with the old bytes: what is kept went out, and
-- nothing else, or after a failed write a prefix of it; nothing, where less than all of the input could be read and
-- kept
abbrev pub SalvageAnswers : Bounds → (bytes : List ℕ) → (now old new : Option (List ℕ)) → (told : Option Salvaged)
    → Result (Unit {0}) ToolFault → Type 0
SalvageAnswers L bytes now old new told (Ok _) = SendsSalvage L bytes now old new told
SalvageAnswers L bytes now old new told (Err (fault.Refused R)) = IsTooLong L bytes R × Appends old new []
SalvageAnswers L bytes now old new told (Err fault.Write) = SendsSome L bytes old new
SalvageAnswers L bytes now old new told (Err fault.Read) = Appends old new []
SalvageAnswers L bytes now old new told (Err fault.Memory) = Appends old new []
SalvageAnswers L bytes now old new told (Err (fault.Wanted R)) = ⊥
SalvageAnswers L bytes now old new told (Err fault.NoWantedType) = ⊥
SalvageAnswers L bytes now old new told (Err (fault.Clash path reason)) = ⊥
SalvageAnswers L bytes now old new told (Err (fault.LeftOut path number)) = ⊥

-- ---- reading all of an input
-- a read failed exactly where the fault says so, and no write did
abbrev pub CountsReading : {A : Type 0} → (failures failures' : ℕ) → Result A ToolFault → Type 0
CountsReading failures failures' (Err fault.Read) = failures' ≡ counts_up failures 1
CountsReading failures failures' (Err fault.Write) = ⊥
CountsReading failures failures' _ = failures' ≡ failures

-- what stops that: a failed read, want of memory, or that the bytes are more than so many
abbrev pub StopsReading : (most : ℕ) → (bytes : List ℕ) → ToolFault → Type 0
StopsReading most bytes (fault.Refused R) =
    (most < length bytes) × (R ≡ refusing.refuses most most reason.StreamTooLong)
StopsReading most bytes fault.Read = Unit {0}
StopsReading most bytes fault.Memory = Unit {0}
StopsReading most bytes _ = ⊥
