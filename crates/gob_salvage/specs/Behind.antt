-- What is kept of bytes behind a stream in front of them, and what is told of that. (docs/FORMAT.md, What is kept of
-- damaged bytes: this project's own.)
use Rattle.std.specs.Prelude.{◌≡◌, ℕ, ◌-◌, List, [], ◌∷◌, ◌++◌, length, Option, None, Some, Result, Ok, Err}
use Rattle.std.specs.Io.KnownBytes.{Appends}
use Rattle.gob_types.specs.Base.{base_table}
use Rattle.gob_types.specs.Table.{Table}
use Rattle.gob_stream.specs.Bounds.{Bounds}
use Rattle.gob_filled.specs.Stream.{FilledItem, FilledStream}
use Rattle.gob_tool.specs.declared.fault.ToolFault.{ToolFault}
use Rattle.gob_tool.specs.declared.fault.ToolFault.TheVariants as fault
use Rattle.gob_salvage.specs.declared.gap.Gap.{Gap}
use Rattle.gob_salvage.specs.declared.keeping.Salvaged.{Salvaged}
use Rattle.gob_salvage.specs.Laws.{KeepsFront}
use Rattle.gob_salvage.specs.Running.{IsOf, IsTooLong, SendsSome}

-- ---- what is told
-- the gap by offsets of what is behind so many bytes
abbrev pub gap_behind : ℕ → Gap → Gap
gap_behind n g = record {
  begin = g.begin - n;
  end = g.end - n;
  reason = g.reason;
  place = g.place - n;
  is_repeated = g.is_repeated;
}

abbrev pub gaps_behind : ℕ → List Gap → List Gap
gaps_behind n [] = []
gaps_behind n (g ∷ gaps) = gap_behind n g ∷ gaps_behind n gaps

-- the second is what the first one has behind the front, if that begins so; else it has all of it
pub data CountsBehind (front kept told : Salvaged) : Type 0 where
  behind_it : kept.bytes.items ≡ front.bytes.items ++ told.bytes.items → told.items ≡ kept.items - front.items
      → CountsBehind front kept told
  all_of_it : ((rest : List ℕ) → ¬ (kept.bytes.items ≡ front.bytes.items ++ rest))
      → told.bytes.items ≡ kept.bytes.items → told.items ≡ kept.items → CountsBehind front kept told

-- and its gaps are told so
pub record IsBehind (front kept told : Salvaged) : Type 0 where
  pub counts : CountsBehind front kept told
  pub gaps : told.gaps.items ≡ gaps_behind (length front.bytes.items) kept.gaps.items

-- what was told is told so
abbrev pub TellsBehind : (front : Salvaged) → (old new : Option Salvaged) → Type 0
TellsBehind front None new = new ≡ None
TellsBehind front (Some kept) new = (told : Salvaged) × (new ≡ Some told) × IsBehind front kept told

-- ---- how the run ends
-- all of the input was read, what is kept of the front and the bytes behind it went out, and what is behind the front
-- of that is told; a front that is a stream is kept in front
pub record SendsBehind (L : Bounds) (front : Salvaged) (bytes : List ℕ) (now old new : Option (List ℕ))
    (told : Option Salvaged) : Type 0 where
  pub kept : Salvaged
  pub is : IsOf L (front.bytes.items ++ bytes) kept
  pub in_front : (items : List FilledItem) (T : Table) → FilledStream base_table L items front.bytes.items T
      → KeepsFront L front.bytes.items (front.bytes.items ++ bytes) kept.bytes.items kept.gaps.items
  pub end : now ≡ Some []
  pub sent : Appends old new kept.bytes.items
  pub behind : Salvaged
  pub is_behind : IsBehind front kept behind
  pub tells : told ≡ Some behind

-- how the run ends, over an input with the bytes of the front and these left and an output with the old bytes: what is
-- kept of them went out, and nothing else, or after a failed write a prefix of it; nothing, where less than all of the
-- input could be read and kept
abbrev pub BehindAnswers : Bounds → (front : Salvaged) → (bytes : List ℕ) → (now old new : Option (List ℕ))
    → (told : Option Salvaged) → Result (Unit {0}) ToolFault → Type 0
BehindAnswers L front bytes now old new told (Ok _) = SendsBehind L front bytes now old new told
BehindAnswers L front bytes now old new told (Err (fault.Refused R)) =
    IsTooLong L (front.bytes.items ++ bytes) R × Appends old new []
BehindAnswers L front bytes now old new told (Err fault.Write) = SendsSome L (front.bytes.items ++ bytes) old new
BehindAnswers L front bytes now old new told (Err fault.Read) = Appends old new []
BehindAnswers L front bytes now old new told (Err fault.Memory) = Appends old new []
BehindAnswers L front bytes now old new told (Err (fault.Wanted R)) = ⊥
BehindAnswers L front bytes now old new told (Err fault.NoWantedType) = ⊥
BehindAnswers L front bytes now old new told (Err (fault.Clash path reason)) = ⊥
BehindAnswers L front bytes now old new told (Err (fault.LeftOut path number)) = ⊥
