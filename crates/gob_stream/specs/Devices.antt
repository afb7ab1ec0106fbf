-- How readers and writers count their failed calls. (This project's own.)
use Rattle.std.specs.Prelude.{◌≡◌, ℕ, ◌+◌, ◌-◌, ◌^◌, ◌<◌, ◌⊎◌, min, List, [], MatchResult, Result}

-- a count that stays at its ceiling once there
abbrev pub counts_up : ℕ → ℕ → ℕ
counts_up count by = min (count + by) (2 ^ 64 - 1)

-- a read counts the bytes that it gave, or that it failed
abbrev pub ReadCounted : {E : Type 0} → (taken failures taken' failures' : ℕ) → Result ℕ E → Type 0
ReadCounted taken failures taken' failures' result =
    MatchResult result
    (λ n. (taken' ≡ counts_up taken n) × (failures' ≡ failures))
    (λ _. (taken' ≡ taken) × (failures' ≡ counts_up failures 1))

-- a write fails by an error, or where it takes no byte of some
abbrev pub WriteFailed : {E : Type 0} → Result ℕ E → List ℕ → Type 0
WriteFailed result buffer = MatchResult result (λ n. (n ≡ 0) × (buffer ≡ [] → ⊥)) (λ _. Unit {0})

abbrev pub WriteCounted : {E : Type 0} → (failures failures' : ℕ) → Result ℕ E → List ℕ → Type 0
WriteCounted failures failures' result buffer =
    (WriteFailed result buffer → failures' ≡ counts_up failures 1)
    × (¬ WriteFailed result buffer → failures' ≡ failures)

abbrev pub FlushCounted : {E : Type 0} → (failures failures' : ℕ) → Result (Unit {0}) E → Type 0
FlushCounted failures failures' result = MatchResult result (λ _. failures' ≡ failures)
    (λ _. failures' ≡ counts_up failures 1)

-- the count of failed calls rose, or stands at its ceiling
abbrev pub Rose : ℕ → ℕ → Type 0
Rose failures failures' = (failures < failures') ⊎ (failures' ≡ 2 ^ 64 - 1)
