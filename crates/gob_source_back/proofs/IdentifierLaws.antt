-- Identifiers of Go, and so the names that source gives fields and types, are words.
use Rattle.std.proofs.Common.{◌≡◌, ◌∙◌, ℕ, zero, suc, ◌<◌, ◌≤◌, ◌^◌, List, [], ◌∷◌, ◌++◌, Bool, true, false, refl}
use Rattle.std.proofs.Common.{ap, sym, arith, codes, decimal, eqb-true, not, ◌==◌, ◌&&◌, ◌||◌, if◌then◌else◌}
use Rattle.std.proofs.Math.Utf8.{encode, encodes}
use Rattle.std.proofs.lemmas.Bool.Decides.{nat_tests}
use Rattle.std.proofs.lemmas.Str.{IsUtf8-from_is_utf8, encode_ascii, encodes-chars}
use Rattle.std.specs.List.{list_all}
use Rattle.std.specs.Prelude.{nat_le, nat_lt}
use Rattle.std.specs.Str.{chars, is_utf8}
use Rattle.ucd_category.proofs.Computing.{ucd_category}
use Rattle.gob_types.specs.declared.id.TypeId.{TypeId}
use Rattle.gob_types.specs.declared.kind.Field.{Field}
use Rattle.gob_types.specs.Table.{Table}
use Rattle.gob_source.specs.Names.{is_identifier, is_identifier_text, is_letter, is_letter_or_digit, is_numbered}
use Rattle.gob_source.specs.Names.{is_reserved, is_taken, own_name}
use Rattle.gob_source.specs.Source.{is_declared, is_field_name}
use Rattle.gob_go_source.specs.Scanning.{is_letter_byte, is_word_byte}
use Rattle.gob_source_back.proofs.NameLaws.{free_word, is_word_name, own_free}
use Rattle.gob_source_back.proofs.WordLaws.{both_true, number_words}
use Rattle.gob_source_back.proofs.Written.{IsWordText}

-- ---- lists of letters and digits

word_bytes : (w : List ℕ) → is_word_name w ≡ true → list_all is_word_byte w ≡ true
word_bytes [] h = cc
word_bytes (b ∷ bs) h =
    let both = both_true (is_letter_byte b) (list_all is_word_byte bs) h in
    rw (both.0, both.1) refl

bytes_behind : (xs ys : List ℕ) → list_all is_word_byte xs ≡ true → list_all is_word_byte ys ≡ true
    → list_all is_word_byte (xs ++ ys) ≡ true
bytes_behind [] ys all more = more
bytes_behind (x ∷ xs) ys all more =
    let h = both_true (is_word_byte x) (list_all is_word_byte xs) all in
    rw (h.0, bytes_behind xs ys h.1 more) refl

word_behind : (xs ys : List ℕ) → is_word_name xs ≡ true → list_all is_word_byte ys ≡ true
    → is_word_name (xs ++ ys) ≡ true
word_behind [] ys h more = cc
word_behind (x ∷ xs) ys h more =
    let both = both_true (is_letter_byte x) (list_all is_word_byte xs) h in
    rw (both.0, bytes_behind xs ys both.1 more) refl

-- ---- characters

-- the numbers below this
abbrev below : ℕ → List ℕ
below zero = []
below (suc n) = n ∷ below n

one_below : (P : ℕ → Bool) (n c : ℕ) → c < n → list_all P (below n) ≡ true → P c ≡ true
one_below P zero c less all = absurd (omega arith)
one_below P (suc n) c less all =
    let h = both_true (P n) (list_all P (below n)) all in
    by (c == n) refl h.0 (λ unlike. one_below P n c (smaller unlike) h.1)
  where
    smaller : (c == n) ≡ false → c < n
    smaller unlike = grind (arith, nat_tests)

    by : (b : Bool) → (c == n) ≡ b → P n ≡ true → ((c == n) ≡ false → P c ≡ true) → P c ≡ true
    by true same here go = ap P (eqb-true c n same) ∙ here
    by false other here go = go other

-- of ASCII Unicode has the same letters and digits
letters_below : list_all (λ c. not (is_letter c) || is_letter_byte c) (below 128) ≡ true
unfolding ucd_category
letters_below = refl

digits_below : list_all (λ c. not (is_letter_or_digit c) || is_word_byte c) (below 128) ≡ true
unfolding ucd_category
digits_below = refl

implied : (a b : Bool) → (not a || b) ≡ true → a ≡ true → b ≡ true
implied true b h e = h
implied false b h e = cc

beyond : (b : ℕ) → 128 ≤ b → is_letter_byte b ≡ true
beyond b large = grind (arith, nat_tests)

-- a character beyond ASCII has such bytes alone
beyond_name : (c : ℕ) → 128 ≤ c → is_word_name (encode c) ≡ true
unfolding encode
beyond_name c large = grind (arith, nat_tests, beyond)

ascii_or_beyond : {P : Type 0} (c : ℕ) → (c < 128 → P) → (128 ≤ c → P) → P
ascii_or_beyond {P = P} c low high = by (nat_lt c 128) refl
  where
    by : (b : Bool) → nat_lt c 128 ≡ b → P
    by true e = low (grind (arith, nat_tests))
    by false e = high (grind (arith, nat_tests))

letter_word : (c : ℕ) → is_letter c ≡ true → is_word_name (encode c) ≡ true
letter_word c h =
    ascii_or_beyond c (λ low. ap is_word_name (encode_ascii c low) ∙ ap (λ (b : Bool). b && true)
    (implied (is_letter c) (is_letter_byte c) (one_below (λ d. not (is_letter d) || is_letter_byte d) 128 c low
    letters_below) h)) (beyond_name c)

digit_word : (c : ℕ) → is_letter_or_digit c ≡ true → list_all is_word_byte (encode c) ≡ true
digit_word c h =
    ascii_or_beyond c (λ low. ap (list_all is_word_byte) (encode_ascii c low) ∙ ap (λ (b : Bool). b && true)
    (implied (is_letter_or_digit c) (is_word_byte c) (one_below (λ d. not (is_letter_or_digit d) || is_word_byte d) 128
    c low digits_below) h)) (λ high. word_bytes (encode c) (beyond_name c high))

-- ---- identifiers

characters_word : (cs : List ℕ) → list_all is_letter_or_digit cs ≡ true → list_all is_word_byte (encodes cs) ≡ true
characters_word [] all = refl
characters_word (c ∷ cs) all =
    let h = both_true (is_letter_or_digit c) (list_all is_letter_or_digit cs) all in
    bytes_behind (encode c) (encodes cs) (digit_word c h.0) (characters_word cs h.1)

text_word : (cs : List ℕ) → is_identifier_text cs ≡ true → is_word_name (encodes cs) ≡ true
text_word [] h = cc
text_word (c ∷ cs) h =
    let both = both_true (is_letter c) (list_all is_letter_or_digit cs) h in
    word_behind (encode c) (encodes cs) (letter_word c both.0) (characters_word cs both.1)

identifier_word : (name : List ℕ) → is_identifier name ≡ true → is_word_name name ≡ true
identifier_word name h =
    let short = both_true (nat_le _ 255) (is_utf8 name && is_identifier_text (chars name)) h in
    let text = both_true (is_utf8 name) (is_identifier_text (chars name)) short.1 in
    ap is_word_name (sym (encodes-chars name (IsUtf8-from_is_utf8 name text.0))) ∙ text_word (chars name) text.1

-- ---- names in source

-- the name of a field that is declared
pub declared_word : (seen : List Field) (f : Field) → is_declared seen f ≡ true → IsWordText f.name
declared_word seen f h =
    let named = both_true (is_identifier f.name) (not (is_reserved f.name) && not (is_field_name f.name seen)) h in
    let free = both_true (not (is_reserved f.name)) (not (is_field_name f.name seen)) named.1 in
    free_word f.name (identifier_word f.name named.0) (unreserved (is_reserved f.name) free.0)
  where
    unreserved : (b : Bool) → not b ≡ true → b ≡ false
    unreserved false e = refl
    unreserved true e = cc

own_word_name : (T : Table) (ts : List TypeId) (t : TypeId) (name : List ℕ) → t.0 < 2 ^ 64
    → is_word_name (own_name T ts t name) ≡ true
own_word_name T ts t name small = by (is_identifier name) refl
  where
    numbered : List ℕ
    numbered = name ++ (codes "_" ++ decimal t.0)

    kept : (b : Bool) → is_word_name name ≡ true → is_word_name (if b then numbered else name) ≡ true
    kept true h = word_behind name (codes "_" ++ decimal t.0) h (number_words t.0 small)
    kept false h = h

    by : (b : Bool) → is_identifier name ≡ b
        → is_word_name (if b then (if is_reserved name || (is_numbered name || is_taken T ts t name) then numbered
        else name) else codes "T" ++ decimal t.0) ≡ true
    by true e = kept (is_reserved name || (is_numbered name || is_taken T ts t name)) (identifier_word name e)
    by false e = number_words t.0 small

-- the name that source gives a type
pub own_word : (T : Table) (ts : List TypeId) (t : TypeId) (name : List ℕ) → t.0 < 2 ^ 64
    → IsWordText (own_name T ts t name)
own_word T ts t name small =
    free_word (own_name T ts t name) (own_word_name T ts t name small) (own_free T ts t name small)
