-- The text of what has no parts, as serde_json's compact text has it.
use Rattle.std.proofs.Common.{◌≡◌, ℕ, zero, suc, ◌/◌, ◌%◌, ◌<◌, ◌&&◌, Bool, true, T, List, [], ◌∷◌, ◌++◌}
use Rattle.std.proofs.Common.{length, inl, inr, arith, eqb, eq-zero-or-pos, refl, sym, ap, ◌∙◌}
use Rattle.std.proofs.Common.{append_assoc, false, ◌-◌}
use Rattle.std.proofs.Common.{◌^◌, w64}
use Rattle.std.proofs.Math.Nat.{mod-lt}
use Rattle.std.specs.Int.{byte_at, bytes_high_first, to_be_bytes}
use Rattle.std.specs.Prelude.{slice_index}
use Rattle.std.proofs.lemmas.Bool.{or_parts, not-true, eqb-false, ltb-false}
use Rattle.std.proofs.lemmas.Str.{IsUtf8-from_ascii}
use Rattle.std.proofs.lemmas.Str.Ascii.{IsAscii-from_reads}
use lib.Ieee.Fits.{and_l, and_r}
use Rattle.hex.specs.Hex.{encode_with, encode_lower, lower_digits, IsBytes}
use Rattle.json.specs.Print.{escape, escape_byte}
use Rattle.json.specs.Run.{is_plain, is_stop}
use Rattle.json.proofs.Printed.Strings.{escape_byte_plain}
use Rattle.json.proofs.Printed.Plain.{escape_on_plain}
use Rattle.serde_json.specs.Data.{string}
use Rattle.serde_json.specs.Written.{compact_text}
use Rattle.gob_json.specs.Json.{text_json, pair_json, pattern_json}
use Rattle.gob_json.specs.Machine.Digits.{IsPlainAscii}
use Rattle.gob_json.proofs.TextLaws.{utf8_json}

-- three appends, one after another
pub three_appended : (old one two new a b c : List ℕ) → one ≡ old ++ a → two ≡ one ++ b → new ≡ two ++ c
    → new ≡ old ++ (a ++ (b ++ c))
three_appended old one two new a b c e f g =
    g ∙ ap (λ l. l ++ c) (f ∙ ap (λ l. l ++ b) e ∙ append_assoc old a b) ∙ append_assoc old (a ++ b) c
    ∙ ap (λ l. old ++ l) (append_assoc a b c)

-- ---- bytes that stand for themselves
pub plain_byte : (x : ℕ) → is_plain x ≡ true → escape_byte x ≡ x ∷ []
plain_byte x h =
    let none = or_parts _ _ (not-true (is_stop x) h) in
    let tests = or_parts (eqb x 34) _ none.0 in
    escape_byte_plain x (eqb-false x 34 tests.0) (eqb-false x 92 tests.1) (ltb-false x 32 none.1)

abbrev are_plain : ℕ → Bool
are_plain zero = true
are_plain (suc k) = is_plain (slice_index lower_digits k) && are_plain k

plain_below : (n k : ℕ) → T (are_plain n) → k < n → T (is_plain (slice_index lower_digits k))
plain_below zero k t h = absurd (omega arith)
plain_below (suc n) k t h =
    elim (eq-zero-or-pos (n - k)) [
      | inl z ↦ let e : k ≡ n = omega arith in rw e (and_l _ (are_plain n) t)
      | inr g ↦ plain_below n k (and_r _ (are_plain n) t) (omega arith)
    ]

holds : (b : Bool) → T b → b ≡ true
holds true t = refl
holds false t = absurd t

digit_plain : (k : ℕ) → k < 16 → escape_byte (slice_index lower_digits k) ≡ slice_index lower_digits k ∷ []
digit_plain k h = plain_byte _ (holds _ (plain_below 16 k tt h))

-- no hexadecimal digit needs an escape
pub hex_plain : (xs : List ℕ) → IsBytes xs → escape (encode_lower xs) ≡ encode_lower xs
unfolding encode_with
hex_plain [] h = refl
hex_plain (x ∷ xs) h =
    let l : x < 256 = h 0 in
    let rest = hex_plain xs (λ i. h (suc i)) in
    let high = digit_plain (x / 16) (omega arith) in
    let low = digit_plain (x % 16) (omega arith) in
    λ i. high i ++ (low i ++ rest i)

-- the bytes of a number are bytes
one_byte : (k n : ℕ) → byte_at k n < 256
one_byte zero n = mod-lt n (omega arith)
one_byte (suc k) n = mod-lt (n / 256 ^ suc k) (omega arith)

high_bytes : (k n : ℕ) → IsBytes (bytes_high_first k n)
high_bytes zero n i = omega arith
high_bytes (suc k) n zero = one_byte k n
high_bytes (suc k) n (suc i) = high_bytes k n i

pub pattern_bytes : (p : ℕ) → IsBytes (to_be_bytes w64 p)
pattern_bytes p = high_bytes 8 p

-- ---- text
pub plain_utf8 : (b : List ℕ) → IsPlainAscii b → text_json b ≡ string b
plain_utf8 b h = utf8_json b (IsUtf8-from_ascii b (IsAscii-from_reads b (length b) (omega arith) (λ k l. (h k l).1)))

pub plain_text : (b : List ℕ) → IsPlainAscii b → 34 ∷ (b ++ 34 ∷ []) ≡ compact_text (text_json b)
plain_text b h =
    let same = escape_on_plain true b (λ k z l. (h k l).0) in
    ap (λ (t : List ℕ). 34 ∷ (t ++ 34 ∷ [])) (sym same) ∙ sym (ap compact_text (plain_utf8 b h))

-- ---- hexadecimal between quotes
pub hex_behind : (prefix bytes : List ℕ) → IsBytes bytes → prefix ++ (encode_lower bytes ++ 34 ∷ 125 ∷ [])
    ≡ prefix ++ ((escape (encode_lower bytes) ++ 34 ∷ []) ++ 125 ∷ [])
hex_behind prefix bytes h =
    ap (λ (l : List ℕ). prefix ++ (l ++ 34 ∷ 125 ∷ [])) (sym (hex_plain bytes h))
    ∙ ap (λ l. prefix ++ l) (sym (append_assoc (escape (encode_lower bytes)) (34 ∷ []) (125 ∷ [])))

pattern_digits : (p : ℕ) (bytes digits : List ℕ) → bytes ≡ to_be_bytes w64 p → digits ≡ encode_lower bytes
    → digits ≡ escape (encode_lower (to_be_bytes w64 p))
pattern_digits p bytes digits e f = f ∙ ap encode_lower e ∙ sym (hex_plain (to_be_bytes w64 p) (pattern_bytes p))

pub pattern_text : (p : ℕ) (bytes digits : List ℕ) → bytes ≡ to_be_bytes w64 p → digits ≡ encode_lower bytes
    → 34 ∷ (digits ++ 34 ∷ []) ≡ compact_text (pattern_json p)
pattern_text p bytes digits e f = ap (λ (l : List ℕ). 34 ∷ (l ++ 34 ∷ [])) (pattern_digits p bytes digits e f)

pub complex_text : (p q : ℕ) (b c x y : List ℕ) → b ≡ to_be_bytes w64 p → x ≡ encode_lower b → c ≡ to_be_bytes w64 q
    → y ≡ encode_lower c
    → (91 ∷ 34 ∷ (x ++ 34 ∷ 44 ∷ 34 ∷ [])) ++ (y ++ 34 ∷ 93 ∷ [])
    ≡ compact_text (pair_json (pattern_json p) (pattern_json q))
complex_text p q b c x y e f g h =
    let first = escape (encode_lower (to_be_bytes w64 p)) in
    let second = escape (encode_lower (to_be_bytes w64 q)) in
    let text : (91 ∷ 34 ∷ (first ++ 34 ∷ 44 ∷ 34 ∷ [])) ++ (second ++ 34 ∷ 93 ∷ [])
    ≡ compact_text (pair_json (pattern_json p) (pattern_json q)) = simp append_assoc in
    ap (λ (l : List ℕ). (91 ∷ 34 ∷ (l ++ 34 ∷ 44 ∷ 34 ∷ [])) ++ (y ++ 34 ∷ 93 ∷ [])) (pattern_digits p b x e f)
    ∙ ap (λ (l : List ℕ). (91 ∷ 34 ∷ (first ++ 34 ∷ 44 ∷ 34 ∷ [])) ++ (l ++ 34 ∷ 93 ∷ [])) (pattern_digits q c y g h)
    ∙ text
