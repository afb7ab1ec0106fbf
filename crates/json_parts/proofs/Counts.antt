-- A text has one token more than it has bytes at most.
use Rattle.std.proofs.Common.{ℕ, ◌+◌, ◌≤◌, Bool, true, false, List, [], ◌∷◌, length, arith}
use Rattle.json.specs.Token.{Token}
use Rattle.json.specs.Lex.{Class, Lexeme, Mode, Place, class, lex, lex_byte, place_token, punctuate, tokens, if_allowed}
use Rattle.json.specs.Lex.{backslash, begins_colon, between, in_escape, in_string, in_word, operator, other, quote}
use Rattle.json.specs.Lex.{space}
use Rattle.json.specs.Lex.{comma, colon, fresh, after_value, after_comma, after_key, may_begin, may_close}
use Rattle.json.specs.Lex as lexed

byte_lexed : (m : Mode) (k : Class) (x : ℕ) (xs : List ℕ) (next : Mode → List Lexeme) (n : ℕ)
    → ((m : Mode) → length (next m) ≤ n) → length (lex_byte m k x xs next) ≤ n + 1
byte_lexed between quote x xs next n h = let l = h in_string in omega arith
byte_lexed between backslash x xs next n h = let l = h in_word in omega arith
byte_lexed between operator x xs next n h = let l = h between in omega arith
byte_lexed between space x xs next n h = let l = h between in omega arith
byte_lexed between other x xs next n h = let l = h in_word in omega arith
byte_lexed in_word quote x xs next n h = let l = h in_word in omega arith
byte_lexed in_word backslash x xs next n h = let l = h in_word in omega arith
byte_lexed in_word operator x xs next n h = let l = h between in omega arith
byte_lexed in_word space x xs next n h = let l = h between in omega arith
byte_lexed in_word other x xs next n h = let l = h in_word in omega arith
byte_lexed in_string quote x xs next n h = let l = h between in omega arith
byte_lexed in_string backslash x xs next n h = let l = h in_escape in omega arith
byte_lexed in_string operator x xs next n h = let l = h in_string in omega arith
byte_lexed in_string space x xs next n h = let l = h in_string in omega arith
byte_lexed in_string other x xs next n h = let l = h in_string in omega arith
byte_lexed in_escape k x xs next n h = let l = h in_string in omega arith

lexed_few : (xs : List ℕ) (m : Mode) → length (lex m xs) ≤ length xs
unfolding lex
lexed_few [] m = omega arith
lexed_few (x ∷ xs) m = let l = byte_lexed m (class x) x xs (λ m. lex m xs) (length xs) (lexed_few xs) in omega arith

allowed_few : (b : Bool) (t : Token) (next : Place → List Token) (p : Place) (n : ℕ)
    → ((p : Place) → length (next p) ≤ n) → length (if_allowed b t next p) ≤ n + 1
allowed_few true t next p n h = let l = h p in omega arith
allowed_few false t next p n h = omega arith

placed_few : (p : Place) (t : Token) (c : Bool) (next : Place → List Token) (n : ℕ)
    → ((p : Place) → length (next p) ≤ n) → length (place_token p t c next) ≤ n + 1
placed_few p Token.begin_object c next n h = allowed_few (may_begin p) _ next fresh n h
placed_few p Token.end_object c next n h = allowed_few (may_close p) _ next after_value n h
placed_few p Token.begin_array c next n h = allowed_few (may_begin p) _ next fresh n h
placed_few p Token.end_array c next n h = allowed_few (may_close p) _ next after_value n h
placed_few p (Token.key s) c next n h = omega arith
placed_few p (Token.string s) true next n h = allowed_few (may_begin p) _ next after_key n h
placed_few p (Token.string s) false next n h = allowed_few (may_begin p) _ next after_value n h
placed_few p (Token.number s) c next n h = allowed_few (may_begin p) _ next after_value n h
placed_few p (Token.boolean b) c next n h = allowed_few (may_begin p) _ next after_value n h
placed_few p Token.null c next n h = allowed_few (may_begin p) _ next after_value n h
placed_few p Token.bad c next n h = omega arith

punctuated_few : (ls : List Lexeme) (p : Place) → length (punctuate p ls) ≤ length ls + 1
unfolding punctuate
punctuated_few [] fresh = omega arith
punctuated_few [] after_value = omega arith
punctuated_few [] after_comma = omega arith
punctuated_few [] after_key = omega arith
punctuated_few (lexed.token t ∷ ls) fresh =
    let l = placed_few fresh t (begins_colon ls) (λ p. punctuate p ls) (length ls + 1) (punctuated_few ls) in
    omega arith
punctuated_few (lexed.token t ∷ ls) after_value =
    let l = placed_few after_value t (begins_colon ls) (λ p. punctuate p ls) (length ls + 1) (punctuated_few ls) in
    omega arith
punctuated_few (lexed.token t ∷ ls) after_comma =
    let l = placed_few after_comma t (begins_colon ls) (λ p. punctuate p ls) (length ls + 1) (punctuated_few ls) in
    omega arith
punctuated_few (lexed.token t ∷ ls) after_key =
    let l = placed_few after_key t (begins_colon ls) (λ p. punctuate p ls) (length ls + 1) (punctuated_few ls) in
    omega arith
punctuated_few (comma ∷ ls) fresh = omega arith
punctuated_few (comma ∷ ls) after_value = let l = punctuated_few ls after_comma in omega arith
punctuated_few (comma ∷ ls) after_comma = omega arith
punctuated_few (comma ∷ ls) after_key = omega arith
punctuated_few (colon ∷ ls) fresh = omega arith
punctuated_few (colon ∷ ls) after_value = omega arith
punctuated_few (colon ∷ ls) after_comma = omega arith
punctuated_few (colon ∷ ls) after_key = let l = punctuated_few ls fresh in omega arith

pub tokens_few : (text : List ℕ) → length (tokens text) ≤ length text + 1
tokens_few text =
    let l = punctuated_few (lex between text) fresh in let m = lexed_few text between in omega (arith, l, m)
