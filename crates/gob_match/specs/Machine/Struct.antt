-- The fields that two structs have in common, as they are found.
use Rattle.std.specs.Prelude.{◌≡◌, ℕ, ◌+◌, ◌^◌, ◌<◌, Bool, true, false, List, [], ◌∷◌, ◌++◌, length, Some, slice_get}
use Rattle.std.specs.Prelude.{Contains}
use Rattle.gob_types.specs.declared.kind.Field.{Field}
use Rattle.gob_match.specs.declared.common.CommonField.{CommonField}
use Rattle.gob_match.specs.Pairs.{HasName, RepeatsName, of_types}

-- the name was added, last, if the answer is that it is new
abbrev pub AddsName : (old new : List (List ℕ)) → List ℕ → Bool → Type 0
AddsName old new name true = ¬ Contains old name × (new ≡ old ++ name ∷ [])
AddsName old new name false = Contains old name × (new ≡ old)

-- these are the names of the fields, and no two are the same
pub record AreNames (fields : List Field) (names : List (List ℕ)) : Type 0 where
  pub count : length names ≡ length fields
  pub each : (k : ℕ) (f : Field) → slice_get fields k ≡ Some f → slice_get names k ≡ Some f.name
  pub distinct : ¬ RepeatsName fields

-- these are the fields of both structs, in the wanted order: for each wanted field from this number on, the stream's
-- field of its name, where there is one
pub data AreCommonFields (fields : List Field) : ℕ → List Field → List CommonField → Type 0 where
  no_more : {n : ℕ} → AreCommonFields fields n [] []
  missing : {n : ℕ} {g : Field} {gs : List Field} {cs : List CommonField} → ¬ HasName fields g.name
      → AreCommonFields fields (n + 1) gs cs → AreCommonFields fields n (g ∷ gs) cs
  common : {n j : ℕ} {f g : Field} {gs : List Field} {cs : List CommonField} → slice_get fields j ≡ Some f
      → f.name ≡ g.name → n + 1 < 2 ^ 64
      → AreCommonFields fields (n + 1) gs cs
      → AreCommonFields fields n (g ∷ gs) (record
      { name = g.name; stream = j; wanted = n; pair = of_types f.id g.id } ∷ cs)
