-- A name is exported where its first character is a capital.
use Rattle.std.proofs.Common.{◌≡◌, ◌∙◌, ℕ, List, [], ◌∷◌, ◌++◌, Bool, true, false, ◌&&◌, arith, length, refl, sym, ap}
use Rattle.std.proofs.Math.Utf8.{encode}
use Rattle.std.proofs.lemmas.Str.{IsUtf8-from_is_utf8, chars-nil, chars_past_char, is_utf8-from_IsUtf8}
use Rattle.std.specs.Str.{IsUtf8, chars, is_utf8}
use Rattle.gob_go_types.specs.Fields.{begins_with_capital, is_capital, is_exported}

pub exported_text : (name text : List ℕ) (r : Bool) → text ≡ name → IsUtf8 name → r ≡ begins_with_capital (chars text)
    → r ≡ is_exported name
exported_text name text r same utf8 e =
    e ∙ ap (λ (t : List ℕ). begins_with_capital (chars t)) same
    ∙ sym (ap (λ b. b && begins_with_capital (chars name)) (is_utf8-from_IsUtf8 name utf8))

pub not_exported : (name : List ℕ) → (IsUtf8 name → ⊥) → false ≡ is_exported name
not_exported name bad = by (is_utf8 name) refl
  where
    by : (b : Bool) → is_utf8 name ≡ b → false ≡ is_exported name
    by true e = absurd (bad (IsUtf8-from_is_utf8 name e))
    by false e = sym (ap (λ b. b && begins_with_capital (chars name)) e)

pub first_capital : (text start rest : List ℕ) (c : ℕ) (r : Bool) → start ≡ text → IsUtf8 text
    → start ≡ encode c ++ rest → r ≡ is_capital c → r ≡ begins_with_capital (chars text)
first_capital text start rest c r same utf8 parts e =
    e ∙ sym (ap begins_with_capital (chars_past_char text rest c utf8 (sym same ∙ parts)))

pub no_first : (text start : List ℕ) → start ≡ text → length start ≡ 0 → false ≡ begins_with_capital (chars text)
no_first text start same none = by text (sym (ap (λ (l : List ℕ). length l) same) ∙ none)
  where
    by : (l : List ℕ) → length l ≡ 0 → false ≡ begins_with_capital (chars l)
    by [] e = sym (ap begins_with_capital chars-nil)
    by (b ∷ bs) e = absurd (omega arith)
