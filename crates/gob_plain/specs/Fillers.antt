-- What nils say that are filled. (docs/FORMAT.md, Plain values: this project's own.)
use Rattle.std.specs.Prelude.{◌≡◌, List, [], ◌∷◌, ℕ, Option, Some, None, string_bytes, ⊤}
use Rattle.json.specs.Json.{Json}
use Rattle.json.specs.Json as json
use Rattle.json.specs.Lex.{tokens}
use Rattle.json.specs.Tree.{json_tokens}
use Rattle.gob_plain.specs.declared.fillers.Filler.{Filler}
use Rattle.gob_plain.specs.Plain.{name_text}

-- {"NAME":value}, where the value is JSON of which this holds
abbrev pub SaysNamed : List ℕ → (Json → Type 0) → Json → Type 0
SaysNamed name P j = (i : Json) × P i × (j ≡ json.object (json.member (name_text name) i json.no_members))

-- JSON of which this holds, with a name where there is one
abbrev pub SaysMaybeNamed : {X : Type 0} → (X → List ℕ) → Option X → (Json → Type 0) → Json → Type 0
SaysMaybeNamed bytes None P j = P j
SaysMaybeNamed bytes (Some name) P j = SaysNamed (bytes name) P j

-- the JSON of its text, with the name where one is shown
abbrev pub SaysFiller : Filler → Json → Type 0
SaysFiller f j = SaysMaybeNamed (λ name. name.now) f.name (λ i. tokens (string_bytes f.text) ≡ json_tokens i) j

-- null where nothing fills the nil
abbrev pub FillerSays : Option (Option Filler) → Json → Type 0
FillerSays (Some (Some f)) j = SaysFiller f j
FillerSays (Some None) j = j ≡ json.null
FillerSays None j = j ≡ json.null

-- the text is that of some JSON
abbrev pub HasJson : Filler → Type 0
HasJson f = (j : Json) × (tokens (string_bytes f.text) ≡ json_tokens j)

abbrev pub IsFiller : Option Filler → Type 0
IsFiller None = ⊤
IsFiller (Some f) = HasJson f

-- so is each
abbrev pub AreFillers : List (Option Filler) → Type 0
AreFillers [] = ⊤
AreFillers (f ∷ fs) = IsFiller f × AreFillers fs
