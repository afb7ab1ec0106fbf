-- Which field has a name, as a map from names finds it: for private clauses.
use Rattle.std.specs.Prelude.{◌≡◌, ◌+◌, ℕ, List, [], ◌∷◌, Option, Some, None, String, if◌then◌else◌, drop}
use Rattle.std.specs.BTreeMap.{BTreeMap, get_by_text}
use Rattle.std.specs.Str.{bytes_eq}
use Rattle.gob_types.specs.declared.kind.Field.{Field}
use Rattle.gob_plain.specs.Plain.{name_text}

-- the number of the first field of the name, of those whose first has this number
abbrev pub number_named : ℕ → List Field → List ℕ → Option ℕ
number_named n [] name = None
number_named n (e ∷ es) name = if bytes_eq (name_text e.name) name then Some n else number_named (n + 1) es name

-- the map finds the fields from this number on by their names
pub record KnowsNames {Y : Type 0} (types : List Field) (n : ℕ) (m : BTreeMap (String Y) ℕ) : Type 0 where
  pub each : (name : List ℕ) → get_by_text m name ≡ number_named n (drop n types) name
