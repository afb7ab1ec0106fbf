-- Which of its two forms the text of a name has, and texts one behind another.
use Rattle.std.proofs.Common.{◌≡◌, ℕ, ◌+◌, ◌<◌, List, [], ◌∷◌, ◌++◌, length, take, get_or, Bool, true, false, codes}
use Rattle.std.proofs.Common.{refl, sym, ap, ◌∙◌, if◌then◌else◌}
use Rattle.std.specs.List.{flat_map}
use Rattle.std.specs.Str.{IsUtf8, is_utf8}
use Rattle.std.proofs.lemmas.List.{take_more, flat_map_more}
use Rattle.std.proofs.lemmas.Str.{is_utf8-from_IsUtf8, IsUtf8-from_is_utf8}
use Rattle.gob_match.specs.ClashText.{byte_digits, name_text}

pub utf8_text : (b : List ℕ) → IsUtf8 b → name_text b ≡ b
utf8_text b h = rw (is_utf8-from_IsUtf8 b h) refl

chosen_by : (test : Bool) (d e : List ℕ) → (test ≡ true → ⊥) → (if test then d else e) ≡ e
chosen_by true d e h = absurd (h refl)
chosen_by false d e h = refl

pub bytes_text : (b : List ℕ) → (IsUtf8 b → ⊥) → name_text b ≡ codes "0x" ++ flat_map byte_digits b
bytes_text b h = chosen_by (is_utf8 b) b (codes "0x" ++ flat_map byte_digits b) (λ e. h (IsUtf8-from_is_utf8 b e))

-- the texts of the items so far and of the next
pub next_text : {X : Type 0} (text : X → List ℕ) (xs : List X) (i : ℕ) (x : X) → i < length xs → x ≡ get_or xs i x
    → flat_map text (take i xs) ++ text x ≡ flat_map text (take (i + 1) xs)
next_text text xs i x l e =
    flat_map_more text [] (take i xs) x
    ∙ ap (flat_map text) (ap (λ y. take i xs ++ y ∷ []) e ∙ sym (take_more xs i x l))
