-- What is told while something is read. (docs/FORMAT.md, The program: this project's own.)
use Rattle.std.specs.Prelude.{◌≡◌, ◌⊎◌, ℕ, ◌+◌, ◌^◌, ◌-◌, List, Option, Result, MatchResult, take, min}
use Rattle.std.specs.Io.KnownBytes.{Appends}
use Rattle.gob_progress.specs.Lines.{blank_line, progress_line}

-- the line of so many bytes, at some time, or the blank one
abbrev pub IsTold : (passed : ℕ) → (total : Option ℕ) → List ℕ → Type 0
IsTold passed total line = ((millis : ℕ) × (line ≡ progress_line passed total millis)) ⊎ (line ≡ blank_line)

-- one such line is told at most, or the front of one
abbrev pub TellsOnce : (passed : ℕ) → (total : Option ℕ) → (old new : Option (List ℕ)) → Type 0
TellsOnce passed total old new =
    (line : List ℕ) × (count : ℕ) × IsTold passed total line × Appends old new (take count line)

-- so many bytes and these, or the greatest number where that is greater
abbrev pub counted : (passed count : ℕ) → ℕ
counted passed count = min (passed + count) (2 ^ 64 - 1)

-- what a read answered is counted
abbrev pub CountsRead : {E : Type 0} → (old new : ℕ) → Result ℕ E → Type 0
CountsRead old new result = MatchResult result (λ count. new ≡ counted old count) (λ _. new ≡ old)
