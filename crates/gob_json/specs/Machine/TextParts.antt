-- What stands before the parts of a value in the text. (docs/FORMAT.md, The JSON lines.)
use Rattle.std.specs.Prelude.{ℕ, ◌+◌, List, [], ◌∷◌, ◌++◌, Bool}
use Rattle.std.specs.Fmt.{decimal}
use Rattle.serde_json.specs.Written.{comma_if, compact_text}
use Rattle.gob_json.specs.Json.{text_json}

-- what stands before the value of a field: [NUMBER,"NAME", and a comma before it or not
abbrev pub field_head : Bool → ℕ → List ℕ → List ℕ
field_head later number name =
    comma_if later ++ 91 ∷ (decimal number ++ 44 ∷ (compact_text (text_json name) ++ 44 ∷ []))

-- its prefix, where the number has one digit: [DIGIT,"
abbrev pub digit_head : ℕ → List ℕ
digit_head number = 91 ∷ (48 + number) ∷ 44 ∷ 34 ∷ []
