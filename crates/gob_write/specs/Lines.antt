-- The lines of some bytes: each goes up to its line feed, and the last one to the end.
-- (docs/FORMAT.md, The JSON lines.)
use Rattle.std.specs.Prelude.{◌≡◌, ◌≢◌, ℕ, ◌<◌, ◌≤◌, List, [], ◌∷◌, ◌++◌, length, take, Option, Some, Result, Ok, Err}
use Rattle.std.specs.Io.BufRead.{take_through, drop_through}
use Rattle.gob_stream.specs.Calls.Waiting.{waiting}
use Rattle.gob_stream.specs.declared.waiting.Waiting.{Waiting}
use Rattle.gob_write.specs.declared.fault.LinesFault.{LinesFault}
use Rattle.gob_write.specs.declared.fault.LinesFault.TheVariants as fault

-- the first line of some bytes, with its line feed where it has one, and the bytes behind it
abbrev pub first_line : List ℕ → List ℕ
first_line bytes = take_through 10 bytes

abbrev pub behind_line : List ℕ → List ℕ
behind_line bytes = drop_through 10 bytes

-- the bytes are these lines, of no more bytes than the most, and behind them the rest
pub data AreLines (most : ℕ) (bytes : List ℕ) : List (List ℕ) → List ℕ → Type 0 where
  no_line : AreLines most bytes [] bytes
  one_more : {lines : List (List ℕ)} {rest : List ℕ} → AreLines most bytes lines rest → rest ≢ []
      → length (first_line rest) ≤ most → AreLines most bytes (lines ++ first_line rest ∷ []) (behind_line rest)

-- what waits, and behind it what is still to be read, are these bytes
pub record IsLeft (w : Waiting) (now : Option (List ℕ)) (bytes : List ℕ) : Type 0 where
  pub unread : List ℕ
  pub known : now ≡ Some unread
  pub whole : bytes ≡ waiting w ++ unread

-- of these bytes the first line waits, and has so many; there is none only where there are no bytes
pub record Waits (most : ℕ) (bytes : List ℕ) (w : Waiting) (now : Option (List ℕ)) (count : ℕ) : Type 0 where
  pub left : IsLeft w now bytes
  pub within : count ≤ length (waiting w)
  pub line : take count (waiting w) ≡ first_line bytes
  pub short : count ≤ most
  pub none : count ≡ 0 → bytes ≡ []

-- what a call answers that waits for the line of this number, where these bytes are left
abbrev pub NextLine : (most : ℕ) → (number : ℕ) → (bytes : List ℕ) → Waiting → (now : Option (List ℕ))
    → Result ℕ LinesFault → Type 0
NextLine most number bytes w now (Ok count) = Waits most bytes w now count
NextLine most number bytes w now (Err (fault.TooLong n m)) = (n ≡ number) × (m ≡ most)
    × (most < length (first_line bytes))
NextLine most number bytes w now (Err (fault.Wrong n column path due)) = ⊥
NextLine most number bytes w now (Err (fault.Refused n r)) = ⊥
NextLine most number bytes w now (Err fault.Read) = Unit {0}
NextLine most number bytes w now (Err fault.Write) = Unit {0}
NextLine most number bytes w now (Err fault.Memory) = Unit {0}

-- a read or a write failed, or no memory was had
abbrev pub IsDeviceFault : LinesFault → Type 0
IsDeviceFault fault.Read = Unit {0}
IsDeviceFault fault.Write = Unit {0}
IsDeviceFault fault.Memory = Unit {0}
IsDeviceFault _ = ⊥
