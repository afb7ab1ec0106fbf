-- Definitions that were met.
use Rattle.std.specs.Prelude.{ℕ, List, [], ◌∷◌, ◌++◌, Bool, bytes_eq, if◌then◌else◌, map}
use Rattle.std.specs.List.{list_any}
use Rattle.gob_appended.specs.declared.known.Known.{Known}

abbrev pub known : Known → List (List ℕ)
known k = map (λ v. v.items) k.met.keys

-- the bytes are those of a definition that was met
abbrev pub is_known : List (List ℕ) → List ℕ → Bool
is_known ds d = list_any (bytes_eq d) ds

-- with one that may be new
abbrev pub with_definition : List (List ℕ) → List ℕ → List (List ℕ)
with_definition ds d = if is_known ds d then ds else ds ++ d ∷ []
