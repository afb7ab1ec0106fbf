-- Numbers: their digits, with a quote before and behind them.
use Rattle.std.proofs.Common.{◌≡◌, ℕ, zero, suc, ◌+◌, ◌/◌, ◌%◌, ◌<◌, ◌≤◌, Bool, true, false, ◌&&◌, ◌==◌, List, []}
use Rattle.std.proofs.Common.{◌∷◌, ◌++◌, refl, sym, ap, ◌∙◌, arith, cond, append_assoc, nat_le}
use Rattle.std.proofs.Common.{pos, negsuc, mod-lt}
use Rattle.std.specs.Char.{is_ascii_digit}
use Rattle.std.specs.Fmt.{decimal, digits, digits_onto, digit_glyph}
use Rattle.std.proofs.lemmas.Bool.{and_from, and_parts, le-leb, leb-true, lt-ltb, or_left, true≢false}
use Rattle.json.specs.Print.{escape, escape_byte, quoted}
use Rattle.json.proofs.Printed.Strings.{escape_byte_plain}
use Rattle.serde_json.specs.Data.{Num, unsigned, negative, float}
use Rattle.serde_json.specs.Find.{is_float}
use Rattle.serde_json.specs.Written.{number_text}
use Rattle.json_number_texts.specs.Texts.{with_texts}
use Rattle.json_number_texts.specs.declared.place.Place.TheVariants as place
use Rattle.json_number_texts.proofs.ByteLaws.{ends_number, number_begins, number_goes_on, text_ends}

-- ---- digits

abbrev are_digits : List ℕ → Bool
are_digits [] = true
are_digits (x ∷ xs) = is_ascii_digit x && are_digits xs

-- some digits
abbrev is_numeral : List ℕ → Bool
is_numeral [] = false
is_numeral (x ∷ xs) = is_ascii_digit x && are_digits xs

digit_of : (n : ℕ) → is_ascii_digit (digit_glyph false (n % 10)) ≡ true
digit_of n =
    let l : n % 10 < 10 = mod-lt n (omega arith) in
    rw (lt-ltb (n % 10) 10 l) (and_from _ _ (le-leb 48 (48 + n % 10) (omega arith))
    (le-leb (48 + n % 10) 57 (omega (arith, l))))

either : (b : Bool) (s t : List ℕ) → is_numeral s ≡ true → is_numeral t ≡ true → is_numeral (cond b s t) ≡ true
either true s t p q = p
either false s t p q = q

onto_digits : (k n x : ℕ) (xs : List ℕ) → is_ascii_digit x ≡ true → are_digits xs ≡ true
    → is_numeral (digits_onto k 10 false n (x ∷ xs)) ≡ true
onto_digits zero n x xs d e = and_from _ _ d e
onto_digits (suc k) n x xs d e =
    either (n / 10 == 0) _ _ (and_from _ _ (digit_of n) (and_from _ _ d e))
    (onto_digits k (n / 10) (digit_glyph false (n % 10)) (x ∷ xs) (digit_of n) (and_from _ _ d e))

decimal_digits : (n : ℕ) → is_numeral (decimal n) ≡ true
unfolding digits
decimal_digits n =
    either (n / 10 == 0) _ _ (and_from _ _ (digit_of n) refl)
    (onto_digits 63 (n / 10) (digit_glyph false (n % 10)) [] (digit_of n) refl)

-- ---- as they stand in a text

-- the bytes stand for themselves in a string
digit_escape : (x : ℕ) → is_ascii_digit x ≡ true → escape_byte x ≡ x ∷ []
digit_escape x d =
    let low : 48 ≤ x = leb-true 48 x (and_parts (nat_le 48 x) (nat_le x 57) d).0 in
    let high : x ≤ 57 = leb-true x 57 (and_parts (nat_le 48 x) (nat_le x 57) d).1 in
    escape_byte_plain x (λ e. omega arith) (λ e. omega arith) (omega arith)

digits_escape : (s : List ℕ) → are_digits s ≡ true → escape s ≡ s
digits_escape [] d = refl
digits_escape (x ∷ s) d =
    let p = and_parts _ _ d in
    ap (λ e. e ++ escape s) (digit_escape x p.0) ∙ ap (λ e. x ∷ e) (digits_escape s p.1)

digits_kept : (s r : List ℕ) → are_digits s ≡ true → with_texts place.InNumber (s ++ r)
    ≡ s ++ with_texts place.InNumber r
digits_kept [] r d = refl
digits_kept (x ∷ s) r d =
    let p = and_parts _ _ d in
    number_goes_on x (s ++ r) (or_left (is_ascii_digit x) _ p.0) ∙ ap (λ l. x ∷ l) (digits_kept s r p.1)

-- a number of one byte or more of which each stands for itself in a string
record IsText (s : List ℕ) : Type 0 where
  escaped : escape s ≡ s
  kept : (r : List ℕ) → ends_number r ≡ true
      → with_texts place.Outside (s ++ r) ≡ 34 ∷ (s ++ 34 ∷ with_texts place.Outside r)

numeral_text : (s : List ℕ) → is_numeral s ≡ true → IsText s
numeral_text [] d = absurd (true≢false (sym d))
numeral_text (x ∷ s) d =
    let p = and_parts (is_ascii_digit x) (are_digits s) d in
    let low : 48 ≤ x = leb-true 48 x (and_parts (nat_le 48 x) (nat_le x 57) p.0).0 in record {
      escaped = digits_escape (x ∷ s) d;
      kept = λ r e. number_begins x (s ++ r) (or_left (is_ascii_digit x) _ p.0) (λ q. omega arith)
          ∙ ap (λ l. 34 ∷ x ∷ l) (digits_kept s r p.1 ∙ ap (λ l. s ++ l) (text_ends r e));
    }

minus_text : (s : List ℕ) → is_numeral s ≡ true → IsText (45 ∷ s)
unfolding escape_byte
minus_text [] d = absurd (true≢false (sym d))
minus_text (x ∷ s) d = record {
  escaped = ap (λ l. 45 ∷ l) (digits_escape (x ∷ s) d);
  kept = λ r e. ap (λ l. 34 ∷ 45 ∷ l) (digits_kept (x ∷ s) r d ∙ ap (λ l. (x ∷ s) ++ l) (text_ends r e));
}

number_is_text : (n : Num) → is_float n ≡ false → IsText (number_text n)
number_is_text (unsigned n) f = numeral_text (decimal n) (decimal_digits n)
number_is_text (negative (pos n)) f = numeral_text (decimal n) (decimal_digits n)
number_is_text (negative (negsuc n)) f = minus_text (decimal (suc n)) (decimal_digits (suc n))
number_is_text (float x) f = absurd (true≢false f)

-- a number becomes a string of its digits
pub number_quoted : (n : Num) (r : List ℕ) → is_float n ≡ false → ends_number r ≡ true
    → with_texts place.Outside (number_text n ++ r) ≡ quoted (number_text n) ++ with_texts place.Outside r
number_quoted n r f e =
    let t = number_is_text n f in
    let s = number_text n in
    let rest = with_texts place.Outside r in
    t.kept r e
    ∙ ap (λ l. 34 ∷ l) (ap (λ l. l ++ 34 ∷ rest) (sym t.escaped) ∙ sym (append_assoc (escape s) (34 ∷ []) rest))
