-- Identifiers, read character by character.
use Rattle.std.proofs.Common.{◌≡◌, ◌∙◌, ℕ, List, [], ◌∷◌, ◌++◌, Bool, true, false, not, ◌&&◌, refl, sym, ap}
use Rattle.std.proofs.Common.{◌≤◌, if◌then◌else◌, length, le-leb}
use Rattle.std.proofs.lemmas.Str.{is_utf8-from_IsUtf8, IsUtf8-from_is_utf8}
use Rattle.std.specs.List.{list_all}
use Rattle.std.specs.Prelude.{nat_le}
use Rattle.std.specs.Str.{IsUtf8, chars, is_utf8}
use Rattle.gob_source.specs.Names.{is_identifier, is_identifier_text, is_letter, is_letter_or_digit, name_width}

abbrev pub is_empty : List ℕ → Bool
is_empty [] = true
is_empty (c ∷ cs) = false

and_true : (b : Bool) → (b && true) ≡ b
and_true true = refl
and_true false = refl

and_assoc : (a b d : Bool) → (a && (b && d)) ≡ ((a && b) && d)
and_assoc true b d = refl
and_assoc false b d = refl

all_more : (cs : List ℕ) (c : ℕ) → list_all is_letter_or_digit (cs ++ c ∷ [])
    ≡ (list_all is_letter_or_digit cs && is_letter_or_digit c)
all_more [] c = and_true (is_letter_or_digit c)
all_more (x ∷ xs) c =
    ap (λ b. is_letter_or_digit x && b) (all_more xs c)
    ∙ and_assoc (is_letter_or_digit x) (list_all is_letter_or_digit xs) (is_letter_or_digit c)

-- one character more is a letter, or behind others a letter or a digit
pub identifier_more : (cs : List ℕ) (c : ℕ) → is_identifier_text (cs ++ c ∷ [])
    ≡ (if not (is_empty cs) then is_identifier_text cs && is_letter_or_digit c else is_letter c)
identifier_more [] c = and_true (is_letter c)
identifier_more (x ∷ xs) c =
    ap (λ b. is_letter x && b) (all_more xs c)
    ∙ and_assoc (is_letter x) (list_all is_letter_or_digit xs) (is_letter_or_digit c)

pub empty_more : (cs : List ℕ) (c : ℕ) → not (is_empty (cs ++ c ∷ [])) ≡ true
empty_more [] c = refl
empty_more (x ∷ xs) c = refl

-- a name that isn't too long is an identifier where its text is
pub identifier_of_text : (name text : List ℕ) (r : Bool) → length name ≤ 255 → text ≡ name → IsUtf8 name
    → r ≡ is_identifier_text (chars text) → r ≡ is_identifier name
identifier_of_text name text r short same utf8 e =
    e ∙ ap (λ (t : List ℕ). is_identifier_text (chars t)) same
    ∙ sym (ap (λ b. b && (is_utf8 name && is_identifier_text (chars name))) (le-leb (length name) 255 short)
    ∙ ap (λ b. b && is_identifier_text (chars name)) (is_utf8-from_IsUtf8 name utf8))

and_false : (b : Bool) → (b && false) ≡ false
and_false true = refl
and_false false = refl

pub no_identifier : (name : List ℕ) → (IsUtf8 name → ⊥) → false ≡ is_identifier name
no_identifier name bad = by (is_utf8 name) refl
  where
    by : (b : Bool) → is_utf8 name ≡ b → false ≡ is_identifier name
    by true e = absurd (bad (IsUtf8-from_is_utf8 name e))
    by false e =
        sym (ap (λ b. nat_le (length name) 255 && (b && is_identifier_text (chars name))) e
        ∙ and_false (nat_le (length name) 255))

-- the columns of a text, and of what is none
pub width_of_text : (name text : List ℕ) (n : ℕ) → text ≡ name → IsUtf8 name → n ≡ length (chars text)
    → n ≡ name_width name
width_of_text name text n same utf8 e =
    e ∙ ap (λ (t : List ℕ). length (chars t)) same
    ∙ sym (ap (λ b. if b then length (chars name) else length name) (is_utf8-from_IsUtf8 name utf8))

pub width_of_bytes : (name : List ℕ) (n : ℕ) → (IsUtf8 name → ⊥) → n ≡ length name → n ≡ name_width name
width_of_bytes name n bad e = by (is_utf8 name) refl
  where
    by : (b : Bool) → is_utf8 name ≡ b → n ≡ name_width name
    by true f = absurd (bad (IsUtf8-from_is_utf8 name f))
    by false f = e ∙ sym (ap (λ b. if b then length (chars name) else length name) f)
