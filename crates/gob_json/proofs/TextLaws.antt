-- Which of its two forms the JSON of a text has.
use Rattle.std.proofs.Common.{◌≡◌, ℕ, List, Bool, true, false, codes, refl, if◌then◌else◌}
use Rattle.std.specs.Str.{IsUtf8, is_utf8}
use Rattle.std.proofs.lemmas.Str.{is_utf8-from_IsUtf8, IsUtf8-from_is_utf8}
use Rattle.serde_json.specs.Data.{Data, string, object, member, no_members}
use Rattle.gob_json.specs.Json.{hex_json, text_json}

pub utf8_json : (b : List ℕ) → IsUtf8 b → text_json b ≡ string b
utf8_json b h = rw (is_utf8-from_IsUtf8 b h) refl

chosen_by : (test : Bool) (d e : Data) → (test ≡ true → ⊥) → (if test then d else e) ≡ e
chosen_by true d e h = absurd (h refl)
chosen_by false d e h = refl

pub bytes_json : (b : List ℕ) → (IsUtf8 b → ⊥) → text_json b ≡ object (member (codes "hex") (hex_json b) no_members)
bytes_json b h = chosen_by (is_utf8 b) (string b) (object (member (codes "hex") (hex_json b) no_members))
    (λ e. h (IsUtf8-from_is_utf8 b e))
