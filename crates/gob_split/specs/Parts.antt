-- What sending to the last of some parts does. (docs/FORMAT.md, Parts of a stream: this project's own.)
use Rattle.std.specs.Prelude.{◌≡◌, ℕ, List, [], ◌∷◌, ◌++◌, Result, Ok, Err}
use Rattle.gob_split.specs.declared.parts.NotWritten.{NotWritten}

-- a prefix of the bytes stands behind those of the last part
pub record SendsSome (Are : List (List ℕ) → Type 0) (before : List (List ℕ)) (last bytes : List ℕ) : Type 0 where
  pub prefix : List ℕ
  pub rest : List ℕ
  pub whole : bytes ≡ prefix ++ rest
  pub out : Are (before ++ (last ++ prefix) ∷ [])

-- all of them do, or a prefix
abbrev pub SendsTo : (Are : List (List ℕ) → Type 0) → (before : List (List ℕ)) → (last bytes : List ℕ)
    → Result (Unit {0}) NotWritten → Type 0
SendsTo Are before last bytes (Ok _) = Are (before ++ (last ++ bytes) ∷ [])
SendsTo Are before last bytes (Err _) = SendsSome Are before last bytes
